-- Proves `Cpu::index`, which returns the processor's index. Immediate: widening the byte does not change it.
use Rattle.lw_base.proofs.Common.{rules}
use Rattle.lw_base.proofs.indices.Cpu.index.Goals as goal

pub returns-clause-value : goal.returns-clause-value
returns-clause-value c = search rules
