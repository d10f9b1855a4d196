-- Proves `Sequence::is_empty`. Immediate: the contract's list is that of the vector inside.
use Rattle.lw_base.proofs.Common.{rules}
use Rattle.lw_base.proofs.sequence.Sequence.is_empty.Goals as goal

pub returns : goal.returns
returns g c = search rules
