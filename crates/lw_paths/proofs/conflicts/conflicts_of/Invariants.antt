-- At each round the pairs so far, followed by the conflicts among the later accesses, are all conflicts. The
-- loop ends since fewer accesses remain.
use Rattle.lw_paths.proofs.Common.{◌≡◌, ◌++◌, length, conflicts_among, constraints_of}
use Rattle.lw_paths.proofs.conflicts.conflicts_of.Given as goal

abbrev pub invariant-loop-first : goal.invariant-loop-first
invariant-loop-first g l =
    l.pairs.items ++ conflicts_among l.later ≡ (constraints_of g.S.Statement.language l.program l.items).conflicts

abbrev pub decreases-loop-first : goal.decreases-loop-first
decreases-loop-first g l = length l.later
