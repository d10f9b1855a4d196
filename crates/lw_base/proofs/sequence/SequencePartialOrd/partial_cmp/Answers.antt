-- Proves the partial comparison of sequences. Immediate: it is that of the vectors inside.
use Rattle.lw_base.proofs.sequence.SequencePartialOrd.partial_cmp.Goals as goal

pub returns : goal.returns
returns g c = rw (← c.self.view_is, ← c.other.view_is) c.partial_cmp.ensures
