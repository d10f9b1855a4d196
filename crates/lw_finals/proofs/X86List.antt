-- The complete list of an x86 test. It puts the premises of `CompleteLists` together for x86 tests.
use Rattle.lw_finals.proofs.Common.{IsWellScopedProgram, Result, IfOk, OnOk, flat_memory, x86_language}
use Rattle.lw_finals.proofs.Common.{X86Test, IsMachineOutcome, IsWithinLimits, OutcomeEntries, OutcomesWith}
use Rattle.lw_finals.proofs.Common.{outcomes_of, ReplaysFlatTo, AreComplete, AreFlat, IsComplete}
use Rattle.lw_finals.proofs.Common.{AreAllOutcomes, x86_item_system, ◌≡◌, subst, List, [], FinalState, Event}
use Rattle.lw_finals.proofs.Common.{Instr, X86FollowsPathsToEnd, CollectsOutcomes, OutcomesOfProgram}
use Rattle.lw_finals.proofs.CompleteLists.{CanBeListed, IsCollected, IsComplete-collected}
use Rattle.lw_finals.proofs.CompleteLists.{AreAllOutcomes-collected}
use Rattle.lw_finals.proofs.X86TraceEquivalence.{OrdersEndAlike-x86}
use Rattle.lw_finals.proofs.X86Outcomes.{IsMachineOutcome-iff_assignment}

module _ (test : X86Test) (well_scoped : IsWellScopedProgram test) (complete : AreComplete) (are_flat : AreFlat test) where
  -- A well-scoped x86 test can be listed: orders are complete, trace-equivalent ones have one outcome, and outcomes are those
  -- of path assignments.
  CanBeListed-x86 : CanBeListed x86_language test (x86_item_system flat_memory test test.head.init_words)
      (IsMachineOutcome flat_memory test test.head.init_words) test
  CanBeListed-x86 = record {
    well_scoped = well_scoped;
    alike = λ paths. OrdersEndAlike-x86 test paths well_scoped;
    complete = complete;
    assignments = λ o. IsMachineOutcome-iff_assignment test o well_scoped;
    same = λ o. ((λ m. m), (λ m. m));
    program_is_flat = are_flat;
  }

  -- If an x86 test is within the limits, what the orders of all path assignments collect is the complete list of its outcomes.
  pub IsComplete-x86_collected : {E : Type 0} (result : Result OutcomeEntries E)
      → IfOk result (IsCollected x86_language test (x86_item_system flat_memory test test.head.init_words) (ReplaysFlatTo test))
      → OnOk result (IsWithinLimits x86_language test.threads)
      → IfOk result (IsComplete (IsMachineOutcome flat_memory test test.head.init_words) test)
  IsComplete-x86_collected =
      IsComplete-collected x86_language test (x86_item_system flat_memory test test.head.init_words)
      (IsMachineOutcome flat_memory test test.head.init_words) test CanBeListed-x86

  -- If an x86 test is within the limits, what a runner of the test and its code collects without schedules is exactly the
  -- test's outcomes.
  pub AreAllOutcomes-x86_collected : {E : Type 0} (result : Result (OutcomesWith (Unit {0})) E) (t : X86Test)
      (threads : List (List Instr))
      → t ≡ test
      → threads ≡ test.threads
      → IfOk result (λ l.
      CollectsOutcomes (OutcomesOfProgram x86_language (X86FollowsPathsToEnd flat_memory t t.head.init_words) threads)
      (λ kept o. (events : List Event) × ReplaysFlatTo t events o) [] l)
      → OnOk result (IsWithinLimits x86_language threads)
      → IfOk result (λ l. AreAllOutcomes (IsMachineOutcome flat_memory test test.head.init_words) test (outcomes_of l))
  AreAllOutcomes-x86_collected result t threads same_test same_threads collected within =
      let Reached : X86Test → Unit {0} → FinalState → Type 0 = λ p kept o. (events : List Event) × ReplaysFlatTo p events o in
      let Collected : X86Test → List (List Instr) → Type 0 = λ p code. IfOk result (λ l.
      CollectsOutcomes (OutcomesOfProgram x86_language (X86FollowsPathsToEnd flat_memory p p.head.init_words) code) (Reached p) []
      l) in
      AreAllOutcomes-collected x86_language test (x86_item_system flat_memory test test.head.init_words)
      (IsMachineOutcome flat_memory test test.head.init_words) test CanBeListed-x86 (Reached test) (λ kept o m. m) result
      (subst (λ (p : X86Test). Collected p test.threads) same_test
      (subst (λ (code : List (List Instr)). Collected t code) same_threads collected))
      (subst (λ (code : List (List Instr)). OnOk result (IsWithinLimits x86_language code)) same_threads within)
