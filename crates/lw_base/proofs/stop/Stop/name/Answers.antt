-- Proves `Stop::name`, a table of a word for each cause. One row by hand, since the definition has the same
-- row; the search proves the others.
use Rattle.lw_base.proofs.Common.{refl}
use Rattle.lw_base.proofs.stop.Stop.name.Goals as goal

pub returns-in-NotHeld : goal.returns-in-NotHeld
returns-in-NotHeld c = rw c.in-NotHeld.is refl
