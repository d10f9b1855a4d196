-- Proves `Sequence::push`. Immediate from the contract of the vector's `push`.
use Rattle.lw_base.proofs.Common.{rules}
use Rattle.lw_base.proofs.sequence.Sequence.push.Goals as goal

pub returns-clause-ok : goal.returns-clause-ok
returns-clause-ok g c = search rules
