-- At each round `positive` is the number of the first states in which the proposition is true, and so at most
-- their number.
use Rattle.lw_report.proofs.Common.{◌≡◌, ◌≤◌, length, take, filter, ListedState}
use Rattle.lw_report.proofs.report.counts_of.Given as goal

abbrev pub invariant-loop-state : goal.invariant-loop-state
invariant-loop-state g l = record {
  counted : l.positive ≡ length (filter (λ (s : ListedState). s.holds) (take l.state-index l.states));
  bounded : l.positive ≤ l.state-index;
}
