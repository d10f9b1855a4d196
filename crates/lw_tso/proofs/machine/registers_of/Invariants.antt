-- At each round `regs` are the registers of the first processors.
use Rattle.lw_tso.proofs.Common.{◌≡◌, map, take}
use Rattle.lw_tso.proofs.machine.registers_of.Given as goal

abbrev pub invariant-loop-processor : goal.invariant-loop-processor
invariant-loop-processor g l = l.regs ≡ map (λ p. p.regs) (take l.processor-index l.processors)
