-- Proves `Stop::code`, a table of a number for each cause. One row by hand, since the definition has the same
-- row; the search proves the others.
use Rattle.lw_base.proofs.Common.{refl}
use Rattle.lw_base.proofs.stop.Stop.code.Goals as goal

pub returns-in-FenceWaits : goal.returns-in-FenceWaits
returns-in-FenceWaits c = rw c.in-FenceWaits.is refl
