-- Proves the equality of sequences. Immediate: it is that of the vectors inside.
use Rattle.lw_base.proofs.Common.{rules}
use Rattle.lw_base.proofs.sequence.SequencePartialEq.eq.Goals as goal

pub returns : goal.returns
returns g c = search rules
