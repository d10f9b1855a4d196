-- At each round the set has the conflicts of the instructions from the position to before `index`.
use Rattle.lw_search.proofs.Common.{HasConflictsBetween}
use Rattle.lw_search.proofs.accesses.Conflicts.from_position.Given as goal

abbrev pub invariant-loop-index : goal.invariant-loop-index
invariant-loop-index l = HasConflictsBetween l.code l.position l.index l.conflicts
