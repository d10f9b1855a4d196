-- Law: a text with a frame does not fail. It is `not-FailsAt-if_frame`: each part that a frame reads is a part that
-- does not fail there.
use Rattle.lw_text.proofs.OneFault.{not-FailsAt-if_frame}
use Rattle.lw_text.proofs.read.a_text_with_a_frame_does_not_fail.Goals as goal

pub returns : goal.returns
returns c = not-FailsAt-if_frame
