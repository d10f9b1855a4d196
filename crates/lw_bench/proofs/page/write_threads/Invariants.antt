-- At each round `out` has, after what it had at the start, the lines of the threads before the index.
use Rattle.lw_bench.proofs.Common.{string_bytes, Thread, thread_line}
use Rattle.lw_bench.proofs.Pages.{AllWritten}
use Rattle.lw_bench.proofs.page.write_threads.Given as goal

abbrev pub invariant-loop-cpu : goal.invariant-loop-cpu
invariant-loop-cpu g l =
    AllWritten (λ t (th : Thread). thread_line l.head.arch t th.position th.regs) l.run.state.threads (string_bytes l.initial.out)
    l.cpu-index (string_bytes l.out)
