-- Proves `Sequence::copy`. Immediate from the contract of the vector's copy.
use Rattle.lw_base.proofs.Common.{rules}
use Rattle.lw_base.proofs.sequence.Sequence.copy.Goals as goal

pub returns : goal.returns
returns g c = search rules
