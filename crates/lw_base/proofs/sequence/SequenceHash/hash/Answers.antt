-- Proves the hash of a sequence. Immediate: what the hasher is fed is what the vector inside feeds it.
use Rattle.lw_base.proofs.sequence.SequenceHash.hash.Goals as goal

pub returns : goal.returns
returns g c = rw (← c.self.view_is) c.hash.ensures
