-- Law: a text has at most one test. It has one frame, and a frame says at most one test of its language
-- (`FrameHasTest-unique`); the frame's language decides between source and x86.
use Rattle.lw_bench.proofs.Common.{subst, TestFrame, FrameHasTest}
use Rattle.lw_bench.proofs.LitmusTests.{FrameHasTest-unique}
use Rattle.lw_bench.proofs.litmus_test.a_text_has_one_test.Goals as goal

pub returns : goal.returns
returns c text s t has other =
    FrameHasTest-unique c.a_frame_has_one_source.ensures c.a_frame_has_one_program.ensures other.frame s t
    (subst (λ (f : TestFrame). FrameHasTest f s) (c.a_text_has_one_frame.ensures text _ _ has.has_frame other.has_frame) has.says)
    other.says
