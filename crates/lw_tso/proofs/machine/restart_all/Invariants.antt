-- At each round the first `thread` processors are in their initial states, and all buffers have the rooms
-- that they had.
use Rattle.lw_tso.proofs.Common.{◌≡◌, length, map, take, initial_processor, processor_of}
use Rattle.lw_tso.specs.declared.processor.Processor.{Processor as ProcessorInMemory}
use Rattle.lw_tso.proofs.machine.restart_all.Given as goal

abbrev pub invariant-loop-thread : goal.invariant-loop-thread
invariant-loop-thread g l = record {
  many : length l.processors ≡ length l.initial.processors;
  start : map processor_of (take l.thread l.processors) ≡ map initial_processor (take l.thread l.init_regs);
  rooms :
      map (λ (p : ProcessorInMemory g.row.A.Denot). p.buffer.room) l.processors
      ≡ map (λ (p : ProcessorInMemory g.row.A.Denot). p.buffer.room) l.initial.processors;
}
