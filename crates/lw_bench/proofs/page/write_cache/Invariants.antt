-- At each round `out` has, after what it had before the loop, the name and the state's letter of each
-- location before the index.
use Rattle.lw_bench.proofs.Common.{string_bytes, named, letter}
use Rattle.lw_bench.proofs.Pages.{AllWritten}
use Rattle.lw_bench.proofs.page.write_cache.Given as goal

abbrev pub invariant-loop-loc : goal.invariant-loop-loc
invariant-loop-loc g l =
    AllWritten (named (λ x. letter (g.M.MemorySystem.state l.memory l.cpu x))) l.locs (string_bytes l.initial.out) l.loc-index
    (string_bytes l.out)
