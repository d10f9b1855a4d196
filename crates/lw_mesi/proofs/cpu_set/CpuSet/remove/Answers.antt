-- Proves `CpuSet::remove`, which clears a processor's bit. The contract's list is changed at that index only
-- (`cpu_set_of_bits-remove`), and the number still has no bit past the processors' (`bit_and-fits`).
use Rattle.lw_mesi.proofs.SetLemmas.{cpu_set_of_bits-remove, bit_and-fits}
use Rattle.lw_mesi.proofs.cpu_set.CpuSet.remove.Goals as goal

pub invariant_of-self : goal.invariant_of-self
invariant_of-self c = bit_and-fits c.self.inside.0 _ c.self.invariant

pub returns : goal.returns
returns c =
    rw (← c.self.view_is, ← c.index.ensures.value) (cpu_set_of_bits-remove c.self.inside.0 c.index.result c.index.ensures.below)
