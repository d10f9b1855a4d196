-- Law: the head of a text's frame is well-formed. It is `frame_well_formed`: the grammar limits threads and
-- locations, and the condition mentions only what the head names.
use Rattle.lw_text.proofs.WellFormedHeads.{frame_well_formed}
use Rattle.lw_text.proofs.read.heads_of_frames_are_well_formed.Goals as goal

pub returns : goal.returns
returns c = frame_well_formed
