-- Spare fences, worked: in a test whose threads load only what no other thread writes, the fence between store and load is spare. An
-- example of the law on spare fences, by hand.
use Rattle.lw_axiomatic.proofs.Common.{List, Bool, Instr, MarksAreFences, HasInsertedFencesInCode}
use Rattle.lw_axiomatic.proofs.Common.{code_without, ℕ, ◌<◌, thread_code, zero, false, ◌∷◌, true, [], refl}
use Rattle.lw_axiomatic.proofs.Common.{suc, arith, HasInsertedFences, IsLocationOnlyWrittenBy, Some, ◌≡◌, ap}
use Rattle.lw_axiomatic.proofs.Common.{location_of, x86_operation, same_Some, ◌∙◌, true≢false, sym, writes}
use Rattle.lw_axiomatic.proofs.Common.{none-some, AreOnPath, HasOtherFence, ◌⊎◌, inr, subst, AreSpare}
use Rattle.lw_axiomatic.proofs.Common.{own_loads, own_loads_fenced}
use Rattle.lw_litmus.specs.declared.instr.Instr.TheVariants as instr

-- Any MFENCEs of a code can be removed.
abbrev CanBeLeftOut : Type 0
CanBeLeftOut =
    (marks : List Bool) (code : List Instr) → MarksAreFences marks code → HasInsertedFencesInCode (code_without marks code) code

module _ (left_out : CanBeLeftOut) where
  -- Each thread's code is the one without the fence, with the fence inserted.
  pub HasInsertedFencesInCode-of_thread : (t : ℕ)
      → t < 2
      → HasInsertedFencesInCode (thread_code own_loads.threads t) (thread_code own_loads_fenced.threads t)
  HasInsertedFencesInCode-of_thread zero in_range =
      left_out (false ∷ true ∷ false ∷ []) (thread_code own_loads_fenced.threads 0) (refl, tt)
  HasInsertedFencesInCode-of_thread (suc zero) in_range =
      left_out (false ∷ false ∷ []) (thread_code own_loads_fenced.threads 1) tt
  HasInsertedFencesInCode-of_thread (suc (suc t)) in_range = absurd (omega arith)

  -- The test with the fence is the one without it, with the fence inserted.
  abbrev pub HasInsertedFences-own_loads : HasInsertedFences own_loads own_loads_fenced
  HasInsertedFences-own_loads = record { head = refl; as_many = refl; threads = HasInsertedFencesInCode-of_thread }

  -- No other thread writes what the first thread loads.
  IsLocationOnlyWrittenBy-first_thread : IsLocationOnlyWrittenBy own_loads_fenced 0 (instr.Load 0 0)
  IsLocationOnlyWrittenBy-first_thread zero k l c at writing to from = refl
  IsLocationOnlyWrittenBy-first_thread (suc zero) zero l c at writing to from =
      let at_y : Some 1 ≡ Some l = ap (λ i. location_of (x86_operation i)) (same_Some _ c at) ∙ to in
      absurd (omega (arith, same_Some 1 l at_y, same_Some 0 l from))
  IsLocationOnlyWrittenBy-first_thread (suc zero) (suc zero) l c at writing to from =
      absurd (true≢false (sym writing ∙ ap (λ i. writes (x86_operation i)) (sym (same_Some _ c at))))
  IsLocationOnlyWrittenBy-first_thread (suc zero) (suc (suc k)) l c at writing to from = absurd (none-some c at)
  IsLocationOnlyWrittenBy-first_thread (suc (suc u)) k l c at writing to from = absurd (none-some c at)

  -- The first thread's fence is spare, since its only load is of that location; the second thread has no fence.
  HasOtherFence-of_thread : (t : ℕ) (within : t < 2) (path : List ℕ) (i index j : ℕ) (load : Instr)
      → AreOnPath (thread_code own_loads_fenced.threads t) path i j load
      → i < index
      → index < j
      → HasOtherFence (HasInsertedFencesInCode-of_thread t within) path i j ⊎ IsLocationOnlyWrittenBy own_loads_fenced t load
  HasOtherFence-of_thread zero within path i index zero load on after_store before_load = absurd (omega arith)
  HasOtherFence-of_thread zero within path i index (suc zero) load on after_store before_load = absurd (omega arith)
  HasOtherFence-of_thread zero within path i index (suc (suc zero)) load on after_store before_load =
      inr (subst (IsLocationOnlyWrittenBy own_loads_fenced 0) (same_Some (instr.Load 0 0) load on.load_at)
      IsLocationOnlyWrittenBy-first_thread)
  HasOtherFence-of_thread zero within path i index (suc (suc (suc j))) load on after_store before_load =
      absurd (none-some load on.load_at)
  HasOtherFence-of_thread (suc zero) within path i index zero load on after_store before_load = absurd (omega arith)
  HasOtherFence-of_thread (suc zero) within path i index (suc zero) load on after_store before_load = absurd (omega arith)
  HasOtherFence-of_thread (suc zero) within path i index (suc (suc j)) load on after_store before_load =
      absurd (none-some load on.load_at)
  HasOtherFence-of_thread (suc (suc t)) within path i index j load on after_store before_load = absurd (omega arith)

  -- All fences of the test are spare.
  pub AreSpare-own_loads : AreSpare own_loads own_loads_fenced HasInsertedFences-own_loads
  AreSpare-own_loads t within path i index j load on among after_store before_load at =
      HasOtherFence-of_thread t within path i index j load on after_store before_load
