-- At each round `out` has, after what it had before the loop, the name and memory's word of each location
-- before the index.
use Rattle.lw_bench.proofs.Common.{string_bytes, named, word_at}
use Rattle.lw_bench.proofs.Pages.{AllWritten}
use Rattle.lw_bench.proofs.page.write_memory.Given as goal

abbrev pub invariant-loop-loc : goal.invariant-loop-loc
invariant-loop-loc g l =
    AllWritten (named (word_at (g.M.MemorySystem.memory l.memory))) l.locs (string_bytes l.initial.out) l.loc-index
    (string_bytes l.out)
