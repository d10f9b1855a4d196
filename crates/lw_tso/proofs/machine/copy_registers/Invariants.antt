-- At each round the first `thread` rows are the registers of the first processors, and the length of the list
-- is unchanged.
use Rattle.lw_tso.proofs.Common.{◌≡◌, length, map, take}
use Rattle.lw_tso.specs.declared.processor.Processor.{Processor as ProcessorInMemory}
use Rattle.lw_tso.proofs.machine.copy_registers.Given as goal

abbrev pub invariant-loop-thread : goal.invariant-loop-thread
invariant-loop-thread g l = record {
  many : length l.regs ≡ length l.initial.regs;
  regs : take l.thread l.regs ≡ map (λ (p : ProcessorInMemory g.row.A.Denot). p.regs) (take l.thread l.processors);
}
