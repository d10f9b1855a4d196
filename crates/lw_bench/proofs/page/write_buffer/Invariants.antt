-- At each round `out` has, after what it had at the start, a title and the texts of the buffer's entries
-- before the index (`AllWritten`).
use Rattle.lw_bench.proofs.Common.{string_bytes, buffer_of, entry_text}
use Rattle.lw_bench.proofs.Pages.{AllWritten}
use Rattle.lw_bench.proofs.page.write_buffer.Given as goal

abbrev pub invariant-loop-index : goal.invariant-loop-index
invariant-loop-index g l =
    AllWritten (entry_text l.locs) (buffer_of l.machine.state l.cpu) (string_bytes l.initial.out) l.index (string_bytes l.out)
