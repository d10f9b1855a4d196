-- At each round the states are those of the first `entry` outcomes.
use Rattle.lw_report.proofs.Common.{head_of, outcomes_of, AreStatesOfFirst}
use Rattle.lw_report.proofs.states.project_outcomes.Given as goal

abbrev pub invariant-loop-entry : goal.invariant-loop-entry
invariant-loop-entry g l = AreStatesOfFirst (head_of l.head) (outcomes_of l.listing) l.entry l.states.items
