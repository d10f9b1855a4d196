-- At each round `out` has, after what it had before the loop, the name and the word of each register before
-- the index.
use Rattle.lw_bench.proofs.Common.{string_bytes, named, word_at, register_names}
use Rattle.lw_bench.proofs.Pages.{AllWritten}
use Rattle.lw_bench.proofs.page.write_thread.Given as goal

abbrev pub invariant-loop-reg : goal.invariant-loop-reg
invariant-loop-reg g l =
    AllWritten (named (word_at l.regs)) (register_names l.arch) (string_bytes l.initial.out) l.reg-index (string_bytes l.out)
