-- The search for the lowest minimal item. The candidates are the remaining items that may be minimal.
use Rattle.std.specs.Prelude.{ℕ, ◌≡◌, ◌<◌, true, false, List, Option, Some, None, slice_index}
use Rattle.lw_orders.specs.Limits.{most_items}
use Rattle.lw_orders.specs.inner.Sets.{has, are_disjoint, reaches_in}

-- Item i is minimal: no pair leads to it from a remaining item, by the table of predecessors.
abbrev pub IsFree : List ℕ → ℕ → ℕ → Type 0
IsFree predecessors left i = are_disjoint (slice_index predecessors i) left ≡ true

-- Item i is blocked: a pair leads to it from a remaining item.
abbrev pub IsBlocked : List ℕ → ℕ → ℕ → Type 0
IsBlocked predecessors left i = are_disjoint (slice_index predecessors i) left ≡ false

-- The new candidates are among the old ones, and those that were dropped are reachable from an old one that is blocked.
pub record Narrowed (len : ℕ) (predecessors reach : List ℕ) (left old new : ℕ) : Type 0 where
  pub among_old : (k : ℕ) → k < most_items → has new k ≡ true → has old k ≡ true
  pub dropped : (k : ℕ) → k < most_items → has old k ≡ true → has new k ≡ false
      → (i : ℕ) × (i < len) × (has old i ≡ true) × IsBlocked predecessors left i × (reaches_in reach i k ≡ true)

-- The result of the search is the lowest candidate, and it is minimal; or `None`, and there is no candidate.
abbrev pub IsFound : ℕ → List ℕ → ℕ → ℕ → Option ℕ → Type 0
IsFound len predecessors left candidates None = (k : ℕ) → k < len → has candidates k ≡ false
IsFound len predecessors left candidates (Some i) =
    (i < len) × (has candidates i ≡ true) × IsFree predecessors left i × ((k : ℕ) → k < i → has candidates k ≡ false)
