-- Law: a text fails at one byte at most, for one cause. It is `FailsAt-unique`: up to the fault there is one
-- way to read the text.
use Rattle.lw_text.proofs.OneFault.{FailsAt-unique}
use Rattle.lw_text.proofs.read.a_text_fails_at_one_place.Goals as goal

pub returns : goal.returns
returns c = FailsAt-unique
