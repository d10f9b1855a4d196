-- Proves `CpuSet::contains`, which tests a processor's bit. The contract's list has the same truth value at
-- that index (`get_or-cpu_set_of_bits`).
use Rattle.lw_mesi.proofs.SetLemmas.{get_or-cpu_set_of_bits}
use Rattle.lw_mesi.proofs.cpu_set.CpuSet.contains.Goals as goal

pub returns : goal.returns
returns c =
    rw (← c.self.view_is, ← c.index.ensures.value) (get_or-cpu_set_of_bits c.self.inside.0 c.index.result c.index.ensures.below)
