-- Proves the comparison of sequences. Immediate: it is that of the vectors inside, which is lexicographic.
use Rattle.lw_base.proofs.sequence.SequenceOrd.cmp.Goals as goal

pub returns : goal.returns
returns g c = rw (← c.self.view_is, ← c.other.view_is) c.cmp.ensures
