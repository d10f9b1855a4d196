-- Proves `CellCause::code`, a table of a number for each cause. One row by hand, since the definition has the
-- same row; the search proves the others.
use Rattle.lw_base.proofs.Common.{refl}
use Rattle.lw_base.proofs.fault.CellCause.code.Goals as goal

pub returns-in-Backward : goal.returns-in-Backward
returns-in-Backward c = rw c.in-Backward.is refl
