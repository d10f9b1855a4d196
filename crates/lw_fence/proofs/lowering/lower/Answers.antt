-- Proves `lower`, which concatenates the lowerings of a thread's statements. `lowered_code-push` appends that
-- of the next statement.
use Rattle.lw_fence.proofs.Common.{ap, ◌++◌, ◌∙◌, instrs_of}
use Rattle.lw_fence.proofs.CodeLayout.{lowered_code-push}
use Rattle.lw_fence.proofs.lowering.lower.Goals as goal

pub loop-index-preserved : goal.loop-index-preserved
loop-index-preserved g c =
    lowered_code-push _ _ _ _ c.loop-index-test.true c.requires c.index-code-index.is _ _ c.loop-index.invariant
    (c.in_ok-push_to.ensures ∙ ap (λ r. c.loop-index.instrs ++ instrs_of r) c.of.ensures)
