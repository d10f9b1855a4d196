-- At each round each mark is of a reachable position, and the successors of the first statements are marked
-- wherever a store may be buffered.
use Rattle.lw_fence.proofs.Marks.{AreMarksAfter}
use Rattle.lw_fence.proofs.fences.marks_of.Given as goal

abbrev pub invariant-loop-index : goal.invariant-loop-index
invariant-loop-index g l = AreMarksAfter l.code l.index l.marks.items
