-- `deallocate` turns the room back into a block, and adds it to a list of spare blocks.
-- `Rooms` says how such a proof is read.
use Rattle.std.proofs.Common.{◌≡◌, ◌^◌, ◌<◌, List, [], ◌∷◌, ◌++◌, refl, sym, ap, ◌∙◌, arith, w64}
use mir.Syntax.{Ty, Fn}
use mir.Val.{Val, vint, vptr, vunit}
use base.Logic.{SProp, emp, id⊢, apply∗}
use base.Fml.{ftrue}
use prog.Memory.{size, align, capped}
use prog.Capped.{capped_is}
use prog.Wp.{WpFn}
use contract.Monad.{fact, fact_i}
use contract.Running.{tables}
use types.Logic.{sem}
use types.Kit.{‵, raw, ◌⊛◌, some, later, prop, ◌$◌, ◌∵◌, !, qed, by, move, keep, drop, use0, use1, use2, split, split3, join, pick, regoal, fsplit, fjoin, fpick, feq_l, feq_i, flt_i, await}
use types.Part.{agg}
use types.Run.{unit_lit, of_opd, no_more, and_then, returns, enter}
use types.ByLocal.{alloc_all, pass_all, free_all, look_at, get, sets, lands_as}
use denote.RattleType.{owns}
use denote.Builtin.{unit}
use denote.RawPtr.{ptr_val, room_for}
use denote.Signature.{types_at}
use denote.Steps.{nothing, only, heard}
use denote.Triple.Entry.{alive}
use denote.Triple.Spec.{triple_of}
use denote.Triple.Call.{calls_at}
use denote.Triple.Clauses.{Lasts, lasts}
use denote.Triple.Walked.{Stays, stay_dropped, walk_of, Goes-dropped}
use Rattle.std.proofs.raw_atomic.Calls.{fm}
use Rattle.std.proofs.raw_atomic.Walks.{proved_at, leaves}
use Rattle.lw_arena.specs.Sizes.{block_units}
use Rattle.lw_arena.specs.Ownership.{memory, block_token}
use Rattle.lw_arena.proofs.ByHand.{slot_of_index, pointer_struct, owns_pointer_struct, owns_pointer_struct-always, Good-pointer, Good-pointer_struct}
use Rattle.lw_arena.specs.contracts.arena.Arena.give as callee
use Rattle.lw_arena.proofs.arena.Arena.give.Met.{met as gives}
use Rattle.lw_arena.specs.contracts.block.Block as block
use Rattle.lw_arena.specs.contracts.arena.ArenaAllocator.deallocate.{ended, clauses}
use Rattle.lw_arena.specs.contracts.arena.ArenaAllocator.deallocate.Key.{name as key}
use Rattle.lw_arena.proofs.arena.ArenaAllocator.deallocate.Statement.{statement}
use Rattle.lw_arena.proofs.arena.ArenaAllocator.deallocate.Code as code

-- What the function still owns of each parameter when it returns: nothing.
abbrev stays : Stays ended.signature.params ended.kept
stays = (
  stay_dropped (slot_of_index 0 ended.signature.params) ended.kept.0,
  (
    stay_dropped (slot_of_index 1 ended.signature.params) ended.kept.1.0,
    (
      stay_dropped (slot_of_index 2 ended.signature.params) ended.kept.1.1.0,
      (stay_dropped (slot_of_index 3 ended.signature.params) ended.kept.1.1.1.0, tt),
    ),
  ),
)

-- `deallocate` satisfies its contract.
pub deallocate_spec : {M : Type 1} → statement M
deallocate_spec 𝓤 𝓛 𝓜 𝓡 wired =
    let H = 𝓛.H in
    let c = clauses 𝓛 𝓜.mem 𝓡.returns in
    let fn : Fn = code.function in
    let C = (tables 𝓤 H 𝓜 𝓡 𝓡.env).C in
    let Λ = (tables 𝓤 H 𝓜 𝓡 𝓡.env).Λ in
    proved_at 𝓛 ended stays c 𝓜 𝓡 (
      Goes-dropped 𝓛 1 (slot_of_index 0 ended.signature.params) ended.kept.0 (λ κs x f. refl),
      (
        Goes-dropped 𝓛 1 (slot_of_index 1 ended.signature.params) ended.kept.1.0 (λ κs x f. refl),
        (
          Goes-dropped 𝓛 1 (slot_of_index 2 ended.signature.params) ended.kept.1.1.0 (λ κs x f. refl),
          (Goes-dropped 𝓛 1 (slot_of_index 3 ended.signature.params) ended.kept.1.1.1.0 (λ κs x f. refl), tt),
        ),
      ),
    )
    key fn (code.unfolded 𝓤 H 𝓜 𝓡 wired) (λ z are.
    let Post : Val → SProp 𝓤 = (walk_of 𝓛 ended stays c).post z in
    let a = z.0.3 in
    let vss = z.0.4 in
    let τ : Ty = z.1 in
    let p = a.1.0 in
    let n = a.1.1.0 in
    let al = a.1.1.1.0 in
    let k = block_units (size τ) in
    let me : Val = vptr a.0.ref_ptr.0 a.0.ref_ptr.1 in
    let call = triple_of 𝓛 callee.signature (callee.spec 𝓛 𝓜.mem 𝓡.returns) in
    let Asked : Type 0 = (capped (size τ) ≡ n) × (capped (align τ) ≡ al) in
    qed 𝓛 ((raw (alive 𝓛 ended.signature z.0.0 z.0.1) ⊛ ‵ (owns (types_at ended.signature.params z.0.0) a vss))
    ∷ (raw (fact 𝓤 Asked) ⊛ ‵ (room_for τ p) ⊛ ‵ (block_token τ p)) ∷ []) ∵
    move ! (1 ∷ []) $ split3 ! $ heard ! Asked (λ asked. move ! (1 ∷ []) $ fpick ! (λ short. move ! (1 ∷ 0 ∷ []) $
    use2 𝓛 (‵ (memory k p)) (apply∗ 𝓤 (sem 𝓛 (room_for τ p)) (sem 𝓛 (memory k p))) $
    let same : size τ ≡ n = sym (capped_is (size τ) (omega arith)) ∙ asked.0 in
    -- [the block; the token with what the parameters own]
    move ! (1 ∷ []) $ split ! $ move ! (1 ∷ []) $ fsplit ! $ fsplit ! $ keep ! (4 ∷ 1 ∷ 3 ∷ []) $
    regoal ! (λ (us : List Val). prop (WpFn 𝓤 H C Λ fn us Post))
    (λ i. are.0.0 i ++ (are.1.0 i ++ (are.1.1.0.0 i ++ (are.1.1.1.0.0 i ++ [])))) refl $
    enter ! C Λ fn (me ∷ ptr_val p ∷ vint w64 n ∷ vint w64 al ∷ []) Post $
    alloc_all ! (λ l. pass_all ! refl ((tt, tt), (Good-pointer p, ((tt, record { fits = are.1.1.0.1 }), ((tt, record { fits = are.1.1.1.0.1 }), tt)))) $
    sets ! (agg ! (and_then ! (get ! refl) (no_more !))) refl (Good-pointer_struct p) $
    let x : (block.the_row).Denot = record { at = p; units = k } in
    let Goes : Type 0 = (k ≡ block_units n) × (n < 2 ^ 63) in
    let y : call.Ghost = ((z.0.0, z.0.1, z.0.2, (a.0, (x, (n, tt))), (me ∷ [], (pointer_struct p ∷ [], (vint w64 n ∷ [], tt)))), tt) in
    use0 𝓛 (‵ (owns_pointer_struct p (pointer_struct p ∷ []))) (owns_pointer_struct-always 𝓛 p) $ fjoin ! $
    nothing ! $ flt_i ! n (2 ^ 64) are.1.1.0.1 $ feq_i ! (List Val) (vint w64 n ∷ []) (vint w64 n ∷ []) refl $ fjoin ! $ fjoin ! $
    move ! (1 ∷ 0 ∷ []) $ fjoin ! $ move ! (1 ∷ []) $ feq_i ! (List Val) (me ∷ []) (me ∷ []) refl $ fjoin ! $ fjoin ! $ move ! (1 ∷ 0 ∷ []) $ join ! $
    use0 𝓛 (raw (fact 𝓤 Goes)) (fact_i 𝓤 Goes (emp 𝓤) (ap block_units same, omega arith)) $ move ! (1 ∷ 0 ∷ []) $ join ! $
    use1 𝓛 (raw (call.pre y)) (id⊢ 𝓤 _) $
    calls_at ! (fm 𝓛 𝓜 𝓡) call (gives 𝓤 𝓛 𝓜 𝓡 (code.calls-lw_arena::arena::Arena::give 𝓡.env wired)) y
    (and_then ! (get ! refl) (and_then ! (get ! refl) (and_then ! (get ! refl) (no_more !)))) (λ u.
    use1 𝓛 (later (some (λ (t : Unit {0}). (raw (alive 𝓛 ended.signature z.0.0 z.0.1) ⊛ ‵ (unit.own_val t (u ∷ [])))
    ⊛ some (λ (ls : Lasts callee.ended z.0.0 y.0.3). ‵ (lasts callee.ended z.0.0 y.0.3 ls) ⊛ ‵ ftrue)))) (id⊢ 𝓤 (call.post y u)) $
    await ! tt $ pick ! (λ t. split ! $ move ! (1 ∷ []) $ drop ! $ split ! $ move ! (1 ∷ []) $ feq_l ! (λ is.
    lands_as ! (ap only is) refl (tt, tt) $
    sets ! (of_opd ! (unit_lit !)) refl (tt, tt) $
    returns ! (look_at ! 0 refl) $ free_all ! refl $
    feq_i ! (List Val) (vunit ∷ []) (vunit ∷ []) refl $
    nothing ! $ nothing ! $ nothing ! $ fjoin ! $ nothing ! $ fjoin ! $ nothing ! $ fjoin ! $ nothing ! $ fjoin ! $ move ! (3 ∷ 0 ∷ 2 ∷ 1 ∷ []) $
    by ! (leaves 𝓛 ended stays c z vunit tt (tt, (tt, (tt, (tt, tt)))) (tt, (tt, (tt, (tt, tt))))))))))))
