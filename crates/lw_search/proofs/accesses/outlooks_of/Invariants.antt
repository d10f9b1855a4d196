-- At each round the first `index` outlooks have the conflicts of these threads of the program.
use Rattle.lw_search.proofs.Common.{◌≡◌, length, thread_code, HasConflictsOf}
use Rattle.lw_search.proofs.AccessSets.{HoldsOfFirst}
use Rattle.lw_search.proofs.accesses.outlooks_of.Given as goal

abbrev pub invariant-loop-index : goal.invariant-loop-index
invariant-loop-index g l = record {
  size : length l.threads ≡ 4;
  holds : HoldsOfFirst (λ u o. HasConflictsOf (thread_code l.program.threads u) l.thread o.conflicts) l.threads l.index;
}
