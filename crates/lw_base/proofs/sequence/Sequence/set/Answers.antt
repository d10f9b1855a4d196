-- Proves `Sequence::set`, which replaces the item at an index. Immediate: the contract's list is that of the
-- vector inside.
use Rattle.lw_base.proofs.Common.{refl}
use Rattle.lw_base.proofs.sequence.Sequence.set.Goals as goal

pub returns : goal.returns
returns g c = rw c.self.view_is refl
