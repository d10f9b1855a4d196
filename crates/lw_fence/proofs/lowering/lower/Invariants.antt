-- At each round the instructions so far, followed by the lowerings of the remaining statements, are all.
use Rattle.lw_fence.proofs.Common.{◌≡◌, drop, ◌++◌, lowered_code}
use Rattle.lw_fence.proofs.lowering.lower.Given as goal

abbrev pub invariant-loop-index : goal.invariant-loop-index
invariant-loop-index g l =
    lowered_code l.starts l.fences l.code ≡ l.instrs ++ lowered_code l.starts (drop l.index l.fences) (drop l.index l.code)
