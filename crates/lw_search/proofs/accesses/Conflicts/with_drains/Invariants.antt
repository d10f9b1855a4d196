-- At each round what the set lacks, the first set lacks, and no drain of the first `index` entries conflicts with it.
use Rattle.lw_search.proofs.Common.{most_locations, ◌≡◌, ◌≢◌, ◌<◌, ℕ, Bool, Some, slice_get, Lacks}
use Rattle.lw_search.proofs.accesses.Conflicts.with_drains.Given as goal

abbrev pub invariant-loop-index : goal.invariant-loop-index
invariant-loop-index l = record {
  others : (x : ℕ) (w : Bool) → Lacks l.conflicts x w → Lacks l.fn.self x w;
  added :
      (x : ℕ) (w : Bool)
      → x < most_locations
      → Lacks l.conflicts x w
      → (k : ℕ) (entry : ℕ × ℕ)
      → k < l.index
      → slice_get l.entries k ≡ Some entry
      → entry.0 ≢ x;
}
