-- Law: a text has at most one list of cells with offsets. It is `HasCells-unique`: its tokens and their
-- offsets are unique, and so is the way in which they form rows.
use Rattle.lw_text.proofs.PlacedRows.{HasCells-unique}
use Rattle.lw_text.proofs.read.a_text_has_its_cells_once.Goals as goal

pub returns : goal.returns
returns c = λ text c d p q. HasCells-unique text c d p q
