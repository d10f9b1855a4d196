-- Law: at most one fault, of the text or of a cell, is true of a text. Within each kind this is a law; a
-- fault of the text and one of a cell exclude each other, since the second says that the text has a frame
-- (`ReadFaultIsTrue-unique`).
use Rattle.lw_bench.proofs.OneFault.{ReadFaultIsTrue-unique}
use Rattle.lw_bench.proofs.litmus_test.a_text_has_one_fault.Goals as goal

pub returns : goal.returns
returns c text f g = ReadFaultIsTrue-unique c.a_text_fails_at_one_place.ensures c.a_text_has_one_cell_fault.ensures text f g
