-- At each round there is a flag for each of the first statements, set if it is a load at a marked position.
use Rattle.lw_fence.proofs.FencesFound.{AreFencesOfFirst}
use Rattle.lw_fence.proofs.fences.fences_of.Given as goal

abbrev pub invariant-loop-index : goal.invariant-loop-index
invariant-loop-index g l = AreFencesOfFirst l.code l.marks.items l.index l.fences.items
