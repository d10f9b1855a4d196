-- The processor of a `Processor` in memory.
use Rattle.lw_tso.specs.declared.processor.Processor.{Processor as ProcessorInMemory}
use Rattle.lw_tso.specs.Processors.{Processor}

-- The processor that one in memory represents, with its buffer's entries as a list.
abbrev pub processor_of : {A : Type 0} → ProcessorInMemory A → Processor
processor_of p = record { position = p.position; regs = p.regs; zero_flag = p.zero_flag; buffer = p.buffer.entries }
