-- `pop` reads the node, and returns the whole block.
-- `Rooms` says how such a proof is read.
use Rattle.std.proofs.Common.{◌≡◌, ℕ, zero, suc, ◌+◌, ◌≤◌, List, [], ◌∷◌, ◌++◌, refl, ap, ◌∙◌, arith}
use seplogic.Ra.Ura.{Ura}
use mir.Syntax.{Fn}
use mir.Val.{Val}
use base.Fraction.{full_share}
use base.Logic.{SProp, emp, never, id⊢, apply∗}
use base.Fml.{fwand, fat, froom}
use prog.Wp.{Env, WpFn}
use contract.Monad.{fact, fact_i}
use contract.Running.{tables}
use types.Logic.{Logic}
use types.Kit.{Item, Goal, Seq, ‵, raw, ◌⊛◌, prop, at_ret, ◌$◌, ◌∵◌, !, qed, by, move, drop, use0, use1, use2, split, regoal, fsplit, fjoin, fpick}
use types.Part.{whole, sub, agg, look_in}
use types.Run.{stop, fld, load, of_opd, no_more, and_then, first, blocks, exec, returns, enter}
use types.ByLocal.{alloc_all, pass_all, free_all, look_at, get, get_in, through, sets, sets_last, env}
use denote.RattleType.{owns}
use denote.RawPtr.{Ptr, block_ptr, in_a_block}
use denote.Signature.{types_at}
use denote.Steps.{nothing, heard}
use denote.Struct.Tuple.{Tuple}
use denote.Triple.Entry.{alive}
use denote.Triple.Walked.{Stays, stay_dropped, walk_of}
use Rattle.std.proofs.alloc.Calls.{Goes-blank}
use Rattle.std.proofs.alloc.Shapes.{after}
use Rattle.std.proofs.ResultValues.{and_tt}
use Rattle.std.proofs.raw_atomic.Walks.{proved_at, leaves}
use Rattle.lw_arena.specs.Ownership.{units, memory, node_type, node_val, link, chain}
use Rattle.lw_arena.proofs.Rooms.{memory-of_room}
use Rattle.lw_arena.proofs.ByHand.{slot_of_index, pointer_struct, owns_pointer_struct, pointer_struct-if_owned, owns_pointer_struct-always, Good-pointer, Good-pointer_struct, pair_val, own_pair}
use Rattle.lw_arena.specs.contracts.block.Block as block
use Rattle.lw_arena.specs.contracts.shelf.SpareList as list
use Rattle.lw_arena.specs.contracts.shelf.SpareList.pop.{ended, clauses}
use Rattle.lw_arena.specs.contracts.shelf.SpareList.pop.Key.{name as key}
use Rattle.lw_arena.proofs.shelf.SpareList.pop.Statement.{statement}
use Rattle.lw_arena.proofs.shelf.SpareList.pop.Code as code

-- What the function still owns of each parameter when it returns: nothing.
abbrev stays : Stays ended.signature.params ended.kept
stays = (stay_dropped (slot_of_index 0 ended.signature.params) ended.kept.0, tt)

module _ {M : Type 1} {𝓤 : Ura M} {𝓛 : Logic 𝓤} {K : Type 0} {Γ : List (Item 𝓤)} {G : Goal 𝓤 𝓛.H} (k : ℕ) where
  -- A goal holds with a list of at least one spare block if it holds with the node at its front, the right to exchange that for
  -- its whole block, and the list of the other blocks.
  opens : K → (n : ℕ) (p : Ptr) → 1 ≤ n
      → ((m b o : ℕ) (next : Ptr) → n ≡ suc m → p ≡ block_ptr b o
      → Seq K 𝓛 (‵ (fat full_share node_type b o (node_val next)) ∷ ‵ (fwand (froom node_type b o) (froom (units k) b o)) ∷ ‵ (chain k m next) ∷ Γ) G)
      → Seq K 𝓛 (‵ (chain k n p) ∷ Γ) G
  opens t zero p some then_walk = absurd (omega arith)
  opens t (suc m) p some then_walk =
      fpick t (λ next. fsplit t $ in_a_block t p (λ q. link k q next) (id⊢ 𝓤 (never 𝓤)) (λ b o lies. fsplit t $ then_walk m b o next refl lies))

-- `pop` satisfies its contract.
pub pop_spec : {M : Type 1} → statement M
pop_spec 𝓤 𝓛 𝓜 𝓡 wired =
    let H = 𝓛.H in
    let c = clauses 𝓛 𝓜.mem 𝓡.returns in
    let fn : Fn = code.function in
    let C = (tables 𝓤 H 𝓜 𝓡 𝓡.env).C in
    let Λ = (tables 𝓤 H 𝓜 𝓡 𝓡.env).Λ in
    proved_at 𝓛 ended stays c 𝓜 𝓡 (Goes-blank 𝓛 0 (slot_of_index 0 ended.signature.params) ended.kept.0 (λ κs x f. tt), tt)
    key fn (code.unfolded 𝓤 H 𝓜 𝓡 wired) (λ z are.
    let Post : Val → SProp 𝓤 = (walk_of 𝓛 ended stays c).post z in
    let a = z.0.3 in
    let vss = z.0.4 in
    let l = a.0 in
    let k = l.units in
    let Asked : Type 0 = 1 ≤ l.count in
    qed 𝓛 ((raw (alive 𝓛 ended.signature z.0.0 z.0.1) ⊛ ‵ (owns (types_at ended.signature.params z.0.0) a vss)) ∷ raw (fact 𝓤 Asked) ∷ []) ∵
    move ! (1 ∷ []) $ heard ! Asked (λ asked. split ! $ move ! (1 ∷ []) $
    fsplit ! $ fsplit ! $ drop ! $ move ! (1 ∷ []) $ drop ! $
    opens k ! l.count l.first asked (λ m b o next more lies.
    let here : Ptr = block_ptr b o in
    let Said : Type 0 = (k ≡ k) × (k ≡ k) × (m + 1 ≡ l.count) in
    regoal ! (λ (us : List Val). prop (WpFn 𝓤 H C Λ fn us Post))
    (λ i. (pointer_struct-if_owned l.first vss.0 are.0.0 ∙ ap (λ (p : Ptr). pointer_struct p ∷ []) lies) i ++ []) refl $
    enter ! C Λ fn (pointer_struct here ∷ []) Post $
    alloc_all ! (λ d. pass_all ! refl ((tt, (tt, tt)), tt) $ let E : Env 𝓤 𝓛.H = env fn.locals d in
    -- [the node; the rest of its block; the other blocks; the token]
    sets ! (of_opd ! (get_in ! (fld ! refl (stop !)) (sub ! 0 refl (whole !)))) refl (tt, tt) $
    first ! $ blocks ! $
    sets_last ! (of_opd ! (load ! (through ! refl (fld ! refl (stop !))) (look_in ! 0 (sub ! 0 refl (whole !))))) refl (Good-pointer next) $
    exec ! C Λ E (after 2 fn.body) (at_ret E Post) $
    sets ! (of_opd ! (get ! refl)) refl (Good-pointer next) $
    sets ! (of_opd ! (get ! refl)) refl (tt, tt) $
    sets ! (agg ! (and_then ! (get ! refl) (no_more !))) refl (tt, (tt, tt)) $
    sets ! (agg ! (and_then ! (get ! refl) (no_more !))) refl (Good-pointer_struct next) $
    sets ! (agg ! (and_then ! (get ! refl) (and_then ! (get ! refl) (no_more !)))) refl
    (and_tt _ ((Good-pointer_struct next).0), ((tt, tt), ((Good-pointer_struct next).1, tt))) $
    returns ! (look_at ! 0 refl) $ free_all ! refl $
    let y : (block.the_row).Denot = record { at = here; units = k } in
    let w : (list.the_row).Denot = record { first = next; units = k; count = m } in
    use1 𝓛 (‵ (froom node_type b o)) (𝓛.laws.at_room node_type b o (node_val next)) $
    use2 𝓛 (‵ (froom (units k) b o)) (apply∗ 𝓤 (H.room node_type b o) (H.room (units k) b o)) $
    use1 𝓛 (‵ (memory k here)) (memory-of_room 𝓛 k b o) $
    use0 𝓛 (‵ (owns_pointer_struct here (pointer_struct here ∷ []))) (owns_pointer_struct-always 𝓛 here) $ fjoin ! $ move ! (1 ∷ []) $
    use0 𝓛 (‵ (owns_pointer_struct next (pointer_struct next ∷ []))) (owns_pointer_struct-always 𝓛 next) $ fjoin ! $ move ! (1 ∷ 0 ∷ []) $
    use2 𝓛 (‵ ((Tuple (block.the_row ∷ list.the_row ∷ [])).own_val (y, w) (pair_val (pointer_struct here) (pointer_struct next) ∷ [])))
    (own_pair 𝓛 block.the_row list.the_row y w (pointer_struct here) (pointer_struct next)) $
    use0 𝓛 (raw (fact 𝓤 Said)) (fact_i 𝓤 Said (emp 𝓤) (refl, refl, omega arith)) $
    nothing ! $ nothing ! $ fjoin ! $ move ! (3 ∷ 0 ∷ 2 ∷ 1 ∷ []) $
    by ! (leaves 𝓛 ended stays c z (pair_val (pointer_struct here) (pointer_struct next)) (y, w) (tt, tt) (tt, tt))))))
