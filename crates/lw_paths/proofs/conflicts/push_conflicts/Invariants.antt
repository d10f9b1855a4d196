-- At each round the pairs so far, followed by the conflicts with the remaining accesses, are the old pairs
-- and all conflicts.
use Rattle.lw_paths.proofs.Common.{◌≡◌, ◌++◌, drop, conflicts_with}
use Rattle.lw_paths.proofs.conflicts.push_conflicts.Given as goal

abbrev pub invariant-loop-second : goal.invariant-loop-second
invariant-loop-second g l =
    l.pairs.items ++ conflicts_with l.first (drop l.second-index l.later)
    ≡ l.initial.pairs.items ++ conflicts_with l.first l.later
