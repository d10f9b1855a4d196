-- `cut` advances the pointer by the units in front.
-- `Rooms` says how such a proof is read.
use Rattle.std.proofs.Common.{◌≡◌, ℕ, ◌+◌, ◌-◌, ◌*◌, ◌^◌, ◌<◌, ◌≤◌, List, [], ◌∷◌, ◌++◌, refl, ap, ◌∙◌, arith, w64}
use mir.Syntax.{Fn}
use mir.Val.{Val, vint, vptr}
use base.Logic.{SProp, emp}
use base.Fml.{froom}
use prog.Wp.{Env, WpFn}
use contract.Monad.{fact, fact_i}
use contract.Running.{tables}
use types.Kit.{‵, raw, ◌⊛◌, prop, at_ret, ◌$◌, ◌∵◌, !, qed, by, move, drop, use0, use1, use2, split, rewrite, regoal, fsplit, fjoin}
use types.Part.{whole, sub, agg}
use types.Run.{stop, fld, lit, bin, of_opd, no_more, and_then, first, blocks, exec, returns, enter}
use types.ByLocal.{alloc_all, pass_all, free_all, look_at, get, get_in, sets, sets_last, is, env}
use denote.RattleType.{owns}
use denote.RawPtr.{Ptr, block_ptr}
use denote.Signature.{types_at}
use denote.Steps.{nothing, heard}
use denote.Struct.Tuple.{Tuple}
use denote.Triple.Entry.{alive}
use denote.Triple.Walked.{Stays, stay_dropped, walk_of, Goes-dropped}
use Rattle.std.proofs.alloc.Calls.{Goes-blank}
use Rattle.std.proofs.alloc.Shapes.{after}
use Rattle.std.proofs.raw_atomic.Walks.{proved_at, leaves}
use Rattle.lw_arena.specs.Ownership.{units, memory}
use Rattle.lw_arena.proofs.Rooms.{room-split, memory-of_room, goal-of_memory}
use Rattle.lw_arena.proofs.ByHand.{slot_of_index, pointer_struct, owns_pointer_struct, pointer_struct-if_owned, owns_pointer_struct-always, pair_val, own_pair}
use Rattle.lw_arena.specs.contracts.block.Block as block
use Rattle.lw_arena.specs.contracts.block.Block.cut.{ended, clauses}
use Rattle.lw_arena.specs.contracts.block.Block.cut.Key.{name as key}
use Rattle.lw_arena.proofs.block.Block.cut.Statement.{statement}
use Rattle.lw_arena.proofs.block.Block.cut.Code as code

-- What the function still owns of each parameter when it returns: nothing.
abbrev stays : Stays ended.signature.params ended.kept
stays = (
  stay_dropped (slot_of_index 0 ended.signature.params) ended.kept.0,
  (stay_dropped (slot_of_index 1 ended.signature.params) ended.kept.1.0, tt),
)

-- `cut` satisfies its contract.
pub cut_spec : {M : Type 1} → statement M
cut_spec 𝓤 𝓛 𝓜 𝓡 wired =
    let H = 𝓛.H in
    let c = clauses 𝓛 𝓜.mem 𝓡.returns in
    let fn : Fn = code.function in
    let C = (tables 𝓤 H 𝓜 𝓡 𝓡.env).C in
    let Λ = (tables 𝓤 H 𝓜 𝓡 𝓡.env).Λ in
    proved_at 𝓛 ended stays c 𝓜 𝓡 (
      Goes-blank 𝓛 0 (slot_of_index 0 ended.signature.params) ended.kept.0 (λ κs x f. tt),
      (Goes-dropped 𝓛 0 (slot_of_index 1 ended.signature.params) ended.kept.1.0 (λ κs x f. refl), tt),
    )
    key fn (code.unfolded 𝓤 H 𝓜 𝓡 wired) (λ z are.
    let Post : Val → SProp 𝓤 = (walk_of 𝓛 ended stays c).post z in
    let a = z.0.3 in
    let vss = z.0.4 in
    let x = a.0 in
    let n = a.1.0 in
    let left : ℕ = x.units - n in
    let Asked : Type 0 = (1 ≤ n) × (n ≤ x.units) × (n < 2 ^ 60) in
    qed 𝓛 ((raw (alive 𝓛 ended.signature z.0.0 z.0.1) ⊛ ‵ (owns (types_at ended.signature.params z.0.0) a vss)) ∷ raw (fact 𝓤 Asked) ∷ []) ∵
    move ! (1 ∷ []) $ heard ! Asked (λ asked. split ! $ move ! (1 ∷ []) $
    fsplit ! $ fsplit ! $ drop ! $ move ! (1 ∷ []) $ drop ! $
    goal-of_memory ! x.units x.at (omega arith) (λ b o lies.
    let front : Ptr = block_ptr b o in
    let behind : Ptr = block_ptr b (o + n * 16) in
    let sum : x.units ≡ n + left = omega arith in
    rewrite ! 0 (λ (k : ℕ). ‵ (froom (units k) b o)) sum refl $
    use1 𝓛 (‵ (froom (units n) b o) ⊛ ‵ (froom (units left) b (o + n * 16))) (room-split 𝓛 n left b o) $ split ! $
    regoal ! (λ (us : List Val). prop (WpFn 𝓤 H C Λ fn us Post))
    (λ i. (pointer_struct-if_owned x.at vss.0 are.0.0 ∙ ap (λ (p : Ptr). pointer_struct p ∷ []) lies) i ++ (are.1.0.0 i ++ [])) refl $
    enter ! C Λ fn (pointer_struct front ∷ vint w64 n ∷ []) Post $
    alloc_all ! (λ l. pass_all ! refl ((tt, (tt, tt)), ((tt, record { fits = are.1.0.1 }), tt)) $ let E : Env 𝓤 𝓛.H = env fn.locals l in
    -- [the units in front; those after them; the token]
    sets ! (of_opd ! (get_in ! (fld ! refl (stop !)) (sub ! 0 refl (whole !)))) refl (tt, tt) $
    first ! $ blocks ! $
    sets ! (bin ! (get ! refl) (lit ! tt) (omega arith)) refl (tt, record { fits = omega arith }) $
    sets_last ! (is ! (bin ! (get ! refl) (get ! refl) tt) (ap (vptr b) (omega arith))) refl (tt, tt) $
    exec ! C Λ E (after 2 fn.body) (at_ret E Post) $
    sets ! (of_opd ! (get ! refl)) refl (tt, tt) $
    sets ! (agg ! (and_then ! (get ! refl) (no_more !))) refl (tt, (tt, tt)) $
    sets ! (agg ! (and_then ! (get ! refl) (no_more !))) refl (tt, (tt, tt)) $
    sets ! (agg ! (and_then ! (get ! refl) (and_then ! (get ! refl) (no_more !)))) refl (tt, ((tt, tt), ((tt, tt), tt))) $
    returns ! (look_at ! 0 refl) $ free_all ! refl $
    let y : (block.the_row).Denot = record { at = front; units = n } in
    let w : (block.the_row).Denot = record { at = behind; units = left } in
    use1 𝓛 (‵ (memory n front)) (memory-of_room 𝓛 n b o) $
    use0 𝓛 (‵ (owns_pointer_struct front (pointer_struct front ∷ []))) (owns_pointer_struct-always 𝓛 front) $ fjoin ! $
    move ! (1 ∷ []) $ use1 𝓛 (‵ (memory left behind)) (memory-of_room 𝓛 left b (o + n * 16)) $
    use0 𝓛 (‵ (owns_pointer_struct behind (pointer_struct behind ∷ []))) (owns_pointer_struct-always 𝓛 behind) $ fjoin ! $
    move ! (1 ∷ 0 ∷ []) $
    use2 𝓛 (‵ ((Tuple (block.the_row ∷ block.the_row ∷ [])).own_val (y, w) (pair_val (pointer_struct front) (pointer_struct behind) ∷ [])))
    (own_pair 𝓛 block.the_row block.the_row y w (pointer_struct front) (pointer_struct behind)) $
    use0 𝓛 (raw (fact 𝓤 ((n ≡ n) × (left + n ≡ x.units)))) (fact_i 𝓤 ((n ≡ n) × (left + n ≡ x.units)) (emp 𝓤) (refl, omega arith)) $
    nothing ! $ nothing ! $ fjoin ! $ nothing ! $ fjoin ! $ move ! (3 ∷ 0 ∷ 2 ∷ 1 ∷ []) $
    by ! (leaves 𝓛 ended stays c z (pair_val (pointer_struct front) (pointer_struct behind)) (y, w) (tt, (tt, tt)) (tt, (tt, tt)))))))
