-- The complete list of a source test. It puts the premises of `CompleteLists` together for source tests.
use Rattle.lw_finals.proofs.Common.{IsWellScopedSource, Result, IfOk, OnOk, ◌↔◌, ◌≡◌, subst, List, []}
use Rattle.lw_finals.proofs.Common.{FinalState, flat_memory, Event, Stmt, CompiledSource}
use Rattle.lw_finals.proofs.Common.{SourceFollowsPathsToEnd, CollectsOutcomes, OutcomesOfProgram}
use Rattle.lw_finals.proofs.Common.{SourceOutcome, source_language, SourceTest, X86Test, IsMachineOutcome}
use Rattle.lw_finals.proofs.Common.{IsWithinLimits, OutcomeEntries, OutcomesWith, outcomes_of}
use Rattle.lw_finals.proofs.Common.{source_item_system, ReplaysFlatTo, AreComplete, AreFlat, IsComplete}
use Rattle.lw_finals.proofs.Common.{AreAllOutcomes}
use Rattle.lw_finals.proofs.CompleteLists.{CanBeListed, IsCollected, IsComplete-collected}
use Rattle.lw_finals.proofs.CompleteLists.{AreAllOutcomes-collected}
use Rattle.lw_finals.proofs.SourceOutcomes.{trace_equivalent_orders_have_one_outcome}
use Rattle.lw_finals.proofs.SourceOutcomes.{outcomes_are_those_of_path_assignments}

module _ (test : SourceTest) (well_scoped : IsWellScopedSource test) (complete : AreComplete) (program : X86Test)
    (same_outcomes : (o : FinalState) → IsMachineOutcome flat_memory program program.head.init_words o ↔ SourceOutcome test o)
    (are_flat : AreFlat program) where
  -- A well-scoped source test can be listed: orders are complete, trace-equivalent ones have one outcome, and outcomes are
  -- those of path assignments.
  CanBeListed-source : CanBeListed source_language test (source_item_system test) (SourceOutcome test) program
  CanBeListed-source = record {
    well_scoped = well_scoped;
    alike = λ paths assignment. trace_equivalent_orders_have_one_outcome test paths;
    complete = complete;
    assignments = λ o. outcomes_are_those_of_path_assignments test o well_scoped;
    same = same_outcomes;
    program_is_flat = are_flat;
  }

  -- If a source test is within the limits, what the orders of all path assignments collect is the complete list of its
  -- outcomes.
  pub IsComplete-source_collected : {E : Type 0} (result : Result OutcomeEntries E)
      → IfOk result (IsCollected source_language test (source_item_system test) (ReplaysFlatTo program))
      → OnOk result (IsWithinLimits source_language test.threads)
      → IfOk result (IsComplete (SourceOutcome test) program)
  IsComplete-source_collected =
      IsComplete-collected source_language test (source_item_system test) (SourceOutcome test) program CanBeListed-source

  -- If a source test is within the limits, what a runner of the test, its program and its code collects without schedules is
  -- exactly the test's outcomes.
  pub AreAllOutcomes-source_collected : {E : Type 0} (result : Result (OutcomesWith (Unit {0})) E) (t : CompiledSource)
      (threads : List (List Stmt))
      → t.source ≡ test
      → t.program ≡ program
      → threads ≡ test.threads
      → IfOk result (λ l.
      CollectsOutcomes (OutcomesOfProgram source_language (SourceFollowsPathsToEnd t.source) threads)
      (λ kept o. (events : List Event) × ReplaysFlatTo t.program events o) [] l)
      → OnOk result (IsWithinLimits source_language threads)
      → IfOk result (λ l. AreAllOutcomes (SourceOutcome test) program (outcomes_of l))
  AreAllOutcomes-source_collected result t threads same_source same_program same_threads collected within =
      let Reached : X86Test → Unit {0} → FinalState → Type 0 = λ p kept o. (events : List Event) × ReplaysFlatTo p events o in
      let Collected : SourceTest → X86Test → List (List Stmt) → Type 0 = λ x p code.
      IfOk result (λ l. CollectsOutcomes (OutcomesOfProgram source_language (SourceFollowsPathsToEnd x) code) (Reached p) [] l) in
      AreAllOutcomes-collected source_language test (source_item_system test) (SourceOutcome test) program CanBeListed-source
      (Reached program) (λ kept o m. m) result
      (subst (λ (x : SourceTest). Collected x program test.threads) same_source
      (subst (λ (p : X86Test). Collected t.source p test.threads) same_program
      (subst (λ (code : List (List Stmt)). Collected t.source t.program code) same_threads collected)))
      (subst (λ (code : List (List Stmt)). OnOk result (IsWithinLimits source_language code)) same_threads within)
