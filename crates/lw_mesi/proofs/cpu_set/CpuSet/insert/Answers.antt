-- Proves `CpuSet::insert`, which sets a processor's bit. The contract's list is changed at that index only
-- (`cpu_set_of_bits-insert`), and the number still has no bit past the processors' (`bit_or-fits`).
use Rattle.lw_mesi.proofs.SetLemmas.{cpu_set_of_bits-insert, bit_or-fits}
use Rattle.lw_mesi.proofs.cpu_set.CpuSet.insert.Goals as goal

pub invariant_of-self : goal.invariant_of-self
invariant_of-self c = bit_or-fits c.self.inside.0 c.index.result c.self.invariant c.index.ensures.below

pub returns : goal.returns
returns c =
    rw (← c.self.view_is, ← c.index.ensures.value) (cpu_set_of_bits-insert c.self.inside.0 c.index.result c.index.ensures.below)
