-- At each round what the set lacks, the conflicts of the first `index` threads, except `cpu`, lack.
use Rattle.lw_search.proofs.Common.{◌≡◌, ◌≢◌, ◌<◌, ℕ, Bool, Some, slice_get, Lacks, Outlook}
use Rattle.lw_search.proofs.accesses.Outlooks.conflicts_with_others.Given as goal

abbrev pub invariant-loop-index : goal.invariant-loop-index
invariant-loop-index l =
    (u : ℕ) (o : Outlook) (x : ℕ) (w : Bool)
    → u < l.index
    → u ≢ l.cpu
    → slice_get l.self.threads u ≡ Some o
    → Lacks l.conflicts x w
    → Lacks o.conflicts x w
