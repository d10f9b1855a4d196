-- Proves `Sequence::from_slice`. Immediate from the contract of the vector's `from_slice`.
use Rattle.lw_base.proofs.Common.{rules}
use Rattle.lw_base.proofs.sequence.Sequence.from_slice.Goals as goal

pub returns : goal.returns
returns g c = search rules
