-- At each round `out`, followed by the initializers of the threads from `thread` on, is what it had at the
-- start, followed by those of all threads.
use Rattle.lw_x86.proofs.Common.{◌≡◌, ◌++◌, drop, flat_map, string_bytes, range_with_len, head_of}
use Rattle.lw_x86.proofs.BlockTexts.{thread_initializers}
use Rattle.lw_x86.proofs.block.write_registers.Given as goal

abbrev pub invariant-loop-thread : goal.invariant-loop-thread
invariant-loop-thread g l =
    string_bytes l.out ++ flat_map (thread_initializers (head_of l.head)) (drop l.thread (range_with_len 0 l.head.threads))
    ≡ string_bytes l.fn.out ++ flat_map (thread_initializers (head_of l.head)) (range_with_len 0 l.head.threads)
