-- `push` writes a node at the start of the block.
-- `Rooms` says how such a proof is read.
use Rattle.std.proofs.Common.{◌≡◌, ℕ, suc, ◌+◌, ◌≤◌, List, [], ◌∷◌, ◌++◌, refl, ap, ◌∙◌, arith}
use mir.Syntax.{Ty, Fn}
use mir.Val.{Val}
use base.Fraction.{full_share}
use base.Logic.{SProp, emp}
use base.Fml.{fsep, fwand, fat, froom}
use prog.Wp.{Env, WpFn}
use contract.Monad.{fact, fact_i}
use contract.Running.{tables}
use types.Kit.{‵, raw, ◌⊛◌, prop, at_ret, ◌$◌, ◌∵◌, !, qed, by, move, drop, use0, use1, split, rewrite, regoal, fsplit, fjoin, fpack}
use types.Part.{whole, sub, agg}
use types.Run.{stop, fld, init, of_opd, no_more, and_then, assigns_last, first, blocks, exec, returns, enter}
use types.ByLocal.{alloc_all, pass_all, free_all, look_at, get, get_in, through, sets, env}
use denote.RattleType.{owns}
use denote.RawPtr.{Ptr, block_ptr}
use denote.Memory.{lone}
use denote.Signature.{types_at}
use denote.Steps.{nothing, heard}
use denote.Triple.Entry.{alive}
use denote.Triple.Walked.{Stays, stay_dropped, walk_of}
use Rattle.std.proofs.alloc.Calls.{Goes-blank}
use Rattle.std.proofs.alloc.Shapes.{after}
use Rattle.std.proofs.raw_atomic.Walks.{proved_at, leaves}
use Rattle.lw_arena.specs.Ownership.{units, memory, node_type, node_val, link, chain}
use Rattle.lw_arena.proofs.Rooms.{room-of_type, goal-of_memory}
use Rattle.lw_arena.proofs.ByHand.{slot_of_index, pointer_struct, owns_pointer_struct, pointer_struct-if_owned, owns_pointer_struct-always, Good-pointer, Good-pointer_struct}
use Rattle.lw_arena.specs.contracts.shelf.Node as header
use Rattle.lw_arena.specs.contracts.shelf.SpareList as list
use Rattle.lw_arena.specs.contracts.shelf.SpareList.push.{ended, clauses}
use Rattle.lw_arena.specs.contracts.shelf.SpareList.push.Key.{name as key}
use Rattle.lw_arena.proofs.shelf.SpareList.push.Statement.{statement}
use Rattle.lw_arena.proofs.shelf.SpareList.push.Code as code

-- The machine type of a node, as the struct with its name.
abbrev named_node : Ty
named_node = lone (header.the_row).mir

-- What the function still owns of each parameter when it returns: nothing.
abbrev stays : Stays ended.signature.params ended.kept
stays = (
  stay_dropped (slot_of_index 0 ended.signature.params) ended.kept.0,
  (stay_dropped (slot_of_index 1 ended.signature.params) ended.kept.1.0, tt),
)

-- `push` satisfies its contract.
pub push_spec : {M : Type 1} → statement M
push_spec 𝓤 𝓛 𝓜 𝓡 wired =
    let H = 𝓛.H in
    let c = clauses 𝓛 𝓜.mem 𝓡.returns in
    let fn : Fn = code.function in
    let C = (tables 𝓤 H 𝓜 𝓡 𝓡.env).C in
    let Λ = (tables 𝓤 H 𝓜 𝓡 𝓡.env).Λ in
    proved_at 𝓛 ended stays c 𝓜 𝓡 (
      Goes-blank 𝓛 0 (slot_of_index 0 ended.signature.params) ended.kept.0 (λ κs x f. tt),
      (Goes-blank 𝓛 0 (slot_of_index 1 ended.signature.params) ended.kept.1.0 (λ κs x f. tt), tt),
    )
    key fn (code.unfolded 𝓤 H 𝓜 𝓡 wired) (λ z are.
    let Post : Val → SProp 𝓤 = (walk_of 𝓛 ended stays c).post z in
    let a = z.0.3 in
    let vss = z.0.4 in
    let l = a.0 in
    let x = a.1.0 in
    let k = l.units in
    let Asked : Type 0 = (x.units ≡ k) × (1 ≤ k) in
    let Said : Type 0 = (k ≡ k) × (suc l.count ≡ l.count + 1) in
    qed 𝓛 ((raw (alive 𝓛 ended.signature z.0.0 z.0.1) ⊛ ‵ (owns (types_at ended.signature.params z.0.0) a vss)) ∷ raw (fact 𝓤 Asked) ∷ []) ∵
    move ! (1 ∷ []) $ heard ! Asked (λ asked. split ! $ move ! (1 ∷ []) $
    fsplit ! $ fsplit ! $ drop ! $ move ! (1 ∷ []) $ fsplit ! $ fsplit ! $ drop ! $ move ! (1 ∷ []) $ drop ! $
    rewrite ! 0 (λ (n : ℕ). ‵ (memory n x.at)) asked.0 refl $
    goal-of_memory ! k x.at asked.1 (λ b o lies.
    let here : Ptr = block_ptr b o in
    -- [the block; the list; the token]
    use1 𝓛 (‵ (froom node_type b o) ⊛ ‵ (fwand (froom node_type b o) (froom (units k) b o)))
    (room-of_type 𝓛 node_type k b o (omega arith) tt) $ split ! $
    use1 𝓛 (‵ (froom named_node b o)) (𝓛.laws.raw-room named_node b o) $
    regoal ! (λ (us : List Val). prop (WpFn 𝓤 H C Λ fn us Post))
    (λ i. pointer_struct-if_owned l.first vss.0 are.0.0 i ++ ((pointer_struct-if_owned x.at vss.1.0 are.1.0.0 ∙ ap (λ (p : Ptr). pointer_struct p ∷ []) lies) i ++ [])) refl $
    enter ! C Λ fn (pointer_struct l.first ∷ pointer_struct here ∷ []) Post $
    alloc_all ! (λ m. pass_all ! refl (Good-pointer_struct l.first, ((tt, (tt, tt)), tt)) $ let E : Env 𝓤 𝓛.H = env fn.locals m in
    sets ! (of_opd ! (get_in ! (fld ! refl (stop !)) (sub ! 0 refl (whole !)))) refl (Good-pointer l.first) $
    sets ! (of_opd ! (get_in ! (fld ! refl (stop !)) (sub ! 0 refl (whole !)))) refl (tt, tt) $
    sets ! (of_opd ! (get ! refl)) refl (tt, tt) $
    first ! $ blocks ! $
    sets ! (agg ! (and_then ! (get ! refl) (no_more !))) refl (Good-pointer_struct l.first) $
    assigns_last ! (of_opd ! (get ! refl)) (through ! refl (stop !)) (init ! 0 refl (Good-pointer_struct l.first)) $
    exec ! C Λ E (after 4 fn.body) (at_ret E Post) $
    sets ! (agg ! (and_then ! (get ! refl) (no_more !))) refl (tt, (tt, tt)) $
    returns ! (look_at ! 0 refl) $ free_all ! refl $
    -- [the node; the rest of its block; the list]
    use1 𝓛 (‵ (fat full_share node_type b o (node_val l.first))) (𝓛.laws.at_raw full_share named_node b o (node_val l.first)) $
    fjoin ! $ fjoin ! $ fpack ! Ptr (λ next. fsep (link k here next) (chain k l.count next)) l.first $
    let y : (list.the_row).Denot = record { first = here; units = k; count = suc l.count } in
    use0 𝓛 (‵ (owns_pointer_struct here (pointer_struct here ∷ []))) (owns_pointer_struct-always 𝓛 here) $ fjoin ! $
    use0 𝓛 (raw (fact 𝓤 Said)) (fact_i 𝓤 Said (emp 𝓤) (refl, omega arith)) $
    nothing ! $ nothing ! $ fjoin ! $ nothing ! $ fjoin ! $ move ! (3 ∷ 0 ∷ 2 ∷ 1 ∷ []) $
    by ! (leaves 𝓛 ended stays c z (pointer_struct here) y (tt, (tt, tt)) (tt, (tt, tt)))))))
