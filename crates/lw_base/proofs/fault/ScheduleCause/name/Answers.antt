-- Proves `ScheduleCause::name`, a table of a word for each cause. One row by hand, since the definition has
-- the same row; the search proves the others.
use Rattle.lw_base.proofs.Common.{refl}
use Rattle.lw_base.proofs.fault.ScheduleCause.name.Goals as goal

pub returns-in-Location : goal.returns-in-Location
returns-in-Location c = rw c.in-Location.is refl
