-- At each round `out` has, after what it had at the start, the lines of the processors before the index.
use Rattle.lw_bench.proofs.Common.{string_bytes, head_of, processor_lines}
use Rattle.lw_bench.proofs.Pages.{AllWritten}
use Rattle.lw_bench.proofs.page.write_processors.Given as goal

abbrev pub invariant-loop-cpu : goal.invariant-loop-cpu
invariant-loop-cpu g l =
    AllWritten (processor_lines (head_of l.head) (g.M.MemorySystem.state l.machine.state.memory)) l.machine.state.processors
    (string_bytes l.initial.out) l.cpu-index (string_bytes l.out)
