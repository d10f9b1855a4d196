-- Store buffering with a fence between the store and the load of each thread, by a search through its runs.
-- It is the example for the law that fences do remove outcomes.
use Rattle.lw_bench.proofs.Common.{◌≡◌, ℕ, zero, suc, ◌<◌, not, Bool, true, false, List, [], ◌∷◌, refl, sym}
use Rattle.lw_bench.proofs.Common.{subst, arith, Number, X86Test, FinalState, flat_memory, is_true}
use Rattle.lw_bench.proofs.Common.{IsMachineOutcome, initial_machine_state, store_buffering_in_x86}
use Rattle.lw_bench.proofs.Common.{thread_code, HasInsertedFencesInCode, HasInsertedFences}
use Rattle.lw_bench.proofs.Common.{HasInsertedFencesInCode-code_without, not-true}
use Rattle.lw_bench.proofs.Searches.{every_machine_end_satisfies, every_machine_end_satisfies-sound}
use Rattle.lw_litmus.specs.declared.instr.Instr.TheVariants as instr

-- `MOV [x],1; MFENCE; MOV EAX,[y]` in parallel with `MOV [y],1; MFENCE; MOV EAX,[x]`.
abbrev fenced_store_buffering_test : X86Test
fenced_store_buffering_test = record {
  head = store_buffering_in_x86.head;
  threads =
      (instr.Store 0 (Number 1) ∷ instr.Mfence ∷ instr.Load 0 1 ∷ [])
      ∷ (instr.Store 1 (Number 1) ∷ instr.Mfence ∷ instr.Load 0 0 ∷ []) ∷ [];
}

-- The second of three instructions, as the position of a fence.
abbrev second_of_three : List Bool
second_of_three = false ∷ true ∷ false ∷ []

-- The fenced test is store buffering with those fences inserted.
fences_inserted : HasInsertedFences store_buffering_in_x86 fenced_store_buffering_test
fences_inserted = record { head = refl; as_many = refl; threads = HasInsertedFencesInCode-store_buffering }
  where
    -- The code of each thread is that of store buffering with a fence inserted.
    HasInsertedFencesInCode-store_buffering : (t : ℕ)
        → t < 2
        → HasInsertedFencesInCode (thread_code store_buffering_in_x86.threads t)
        (thread_code fenced_store_buffering_test.threads t)
    HasInsertedFencesInCode-store_buffering zero within =
        HasInsertedFencesInCode-code_without second_of_three (thread_code fenced_store_buffering_test.threads 0) (refl, tt)
    HasInsertedFencesInCode-store_buffering (suc zero) within =
        HasInsertedFencesInCode-code_without second_of_three (thread_code fenced_store_buffering_test.threads 1) (refl, tt)
    HasInsertedFencesInCode-store_buffering (suc (suc t)) within = absurd (omega (arith, within))

-- Tests whether the outcome does not have both loads early.
abbrev has_late_load : FinalState → Bool
has_late_load o = not (is_true fenced_store_buffering_test.head.proposition o)

-- Within nine events every run of the fenced test ends, with an outcome that does not have both loads early.
search_of_fenced : every_machine_end_satisfies fenced_store_buffering_test.threads has_late_load 9
    (initial_machine_state fenced_store_buffering_test fenced_store_buffering_test.head.init_words)
    ≡ true
unfolding every_machine_end_satisfies
search_of_fenced = refl

-- No outcome of the fenced test has both loads early.
both_early_forbidden : (o : FinalState)
    → IsMachineOutcome flat_memory fenced_store_buffering_test fenced_store_buffering_test.head.init_words o
    → is_true fenced_store_buffering_test.head.proposition o ≡ false
both_early_forbidden o run =
    not-true _
    (subst (λ e. has_late_load e ≡ true) (sym run.1.outcome_is)
    (every_machine_end_satisfies-sound fenced_store_buffering_test.threads has_late_load 9 run.0
    (initial_machine_state fenced_store_buffering_test fenced_store_buffering_test.head.init_words) run.1.end search_of_fenced
    run.1.ran run.1.final))

-- Some way to insert fences forbids the outcome with both loads early.
pub fenced_store_buffering : (test : X86Test)
    × HasInsertedFences store_buffering_in_x86 test
    × ((o : FinalState) → IsMachineOutcome flat_memory test test.head.init_words o → is_true test.head.proposition o ≡ false)
fenced_store_buffering = (fenced_store_buffering_test, fences_inserted, both_early_forbidden)
