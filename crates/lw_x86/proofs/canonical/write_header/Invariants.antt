-- At each round `out` has, after what it had before the loop, the names of the threads before the index,
-- joined by bars.
use Rattle.lw_x86.proofs.Common.{◌≡◌, ◌++◌, map, take, codes, string_bytes, range_with_len, joined}
use Rattle.lw_x86.proofs.Common.{thread_name}
use Rattle.lw_x86.proofs.canonical.write_header.Given as goal

abbrev pub invariant-loop-thread : goal.invariant-loop-thread
invariant-loop-thread g l =
    string_bytes l.out
    ≡ string_bytes l.initial.out ++ joined (codes " | ") (take l.thread-counter (map thread_name (range_with_len 0 l.threads)))
