-- Law: a text has at most one frame. It is `HasFrame-unique`: preamble, tokens and parse are unique, and the
-- frame is computed from them.
use Rattle.lw_text.proofs.api.Frames.{HasFrame-unique}
use Rattle.lw_text.proofs.read.a_text_has_one_frame.Goals as goal

pub returns : goal.returns
returns c = λ text f g p q. HasFrame-unique text f g p q
