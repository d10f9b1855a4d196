-- Proves `CellCause::name`, a table of a word for each cause. One row by hand, since the definition has the
-- same row; the search proves the others.
use Rattle.lw_base.proofs.Common.{refl}
use Rattle.lw_base.proofs.fault.CellCause.name.Goals as goal

pub returns-in-LabelTwice : goal.returns-in-LabelTwice
returns-in-LabelTwice c = rw c.in-LabelTwice.is refl
