-- Runs of the orders of a source test's items.
use Rattle.std.specs.Prelude.{◌≡◌, ℕ, Some, Ok, List}
use Rattle.lw_base.specs.Outcomes.{FinalState}
use Rattle.lw_litmus.specs.declared.stmt.Stmt.{Stmt}
use Rattle.lw_litmus.specs.Tests.{SourceTest}
use Rattle.lw_interleaving.specs.Steps.{thread_position}
use Rattle.lw_interleaving.specs.Runs.{State, source_step, initial_state, is_source_final, source_outcome}
use Rattle.lw_litmus.specs.Sources.{source_language}
use Rattle.lw_paths.specs.declared.item.Item.{Item}
use Rattle.lw_finals.specs.OrderRuns as runs

-- The item's thread is at the item's statement, and executes it.
abbrev pub SourceItemTransition : List (List Stmt) → Item → State → State → Type 0
SourceItemTransition program item s next =
    (thread_position s item.thread ≡ Some item.position) × (source_step program item.thread s ≡ Ok next)

-- The transition system of a source test's items.
abbrev pub source_item_system : SourceTest → runs.ItemTransitionSystem State
source_item_system s = record { start = initial_state s; Carried = SourceItemTransition s.threads; is_final = is_source_final s.threads; outcome_of = source_outcome }

-- An order of items of a source test follows the paths to a final state with this outcome.
abbrev pub SourceFollowsPathsToEnd : SourceTest → List Item → List ℕ → FinalState → Type 0
SourceFollowsPathsToEnd s = runs.FollowsPathsToEnd (source_item_system s)

-- The outcome is one of a path assignment of a source test.
abbrev pub IsSourceAssignmentOutcome : SourceTest → List (List ℕ) → FinalState → Type 0
IsSourceAssignmentOutcome s = runs.IsAssignmentOutcome (source_item_system s) source_language s.threads
