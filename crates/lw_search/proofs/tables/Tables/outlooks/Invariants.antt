-- At each round the first `index` outlooks have the conflicts of these threads of each state of the key.
use Rattle.lw_search.proofs.Common.{◌≡◌, ◌<◌, ◌+◌, Some, length, slice_get, slice_index, Processor}
use Rattle.lw_search.proofs.Common.{thread_code, HasConflictsOf}
use Rattle.lw_search.proofs.AccessSets.{HoldsOfFirst}
use Rattle.lw_search.proofs.tables.Tables.outlooks.Given as goal

abbrev pub invariant-loop-index : goal.invariant-loop-index
invariant-loop-index g l = record {
  size : length l.threads ≡ 4;
  holds :
      HoldsOfFirst (λ u o.
      (p : Processor)
      → u < length l.self.program
      → slice_get l.self.threads (slice_index l.key (u + 1)) ≡ Some p
      → HasConflictsOf (thread_code l.self.program u) p o.conflicts) l.threads l.index;
}
