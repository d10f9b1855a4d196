-- Trying one orientation of an unordered pair: it closes a cycle and is abandoned, or it is chosen. A level is the index of an unordered
-- pair, and the number of pairs before it that have an orientation.
use Rattle.std.specs.Prelude.{ℕ, ◌≡◌, ◌+◌, ◌<◌, Bool, true, false, ◌&&◌, ◌||◌, List, [], length, take, Option, Some, slice_index_or, slice_set}
use Rattle.lw_orders.specs.inner.Search.{SearchState, reverse_if, ReversesLast}
use Rattle.lw_orders.specs.inner.Remaining.{reach}

-- The orientation p of a level's pair is chosen: p is recorded, reachability with it is saved for the next level, and the pair of that
-- level is not reversed.
pub record IsChosen (len : ℕ) (p : ℕ × ℕ) (level : ℕ) (old new : SearchState) : Type 0 where
  pub chosen : new.chosen ≡ slice_set old.chosen level p
  pub saved : new.saved ≡ slice_set old.saved (level + 1) (slice_index_or new.saved (level + 1) [])
  pub reached : (i j : ℕ) → i < len → j < len
      → reach new.saved (level + 1) i j ≡ (reach old.saved level i j || (reach old.saved level i p.0 && reach old.saved level p.1 j))
  pub as_long : length new.reversals ≡ length old.reversals
  pub before : take (level + 1) new.reversals ≡ take (level + 1) old.reversals
  pub next_unreversed : slice_index_or new.reversals (level + 1) false ≡ false

-- Trying the orientation p of a level's pair changes the search from old to new, and the search continues at next_level. If p closes a
-- cycle (`true`), the last unreversed pair up to this level is reversed, and next_level is its level, or `None` if there is no such pair.
-- Otherwise (`false`) p is chosen, and next_level is the next one.
abbrev pub TriedAs : Bool → ℕ → ℕ × ℕ → ℕ → SearchState → SearchState → Option ℕ → Type 0
TriedAs true len p level old new next_level =
    ReversesLast old.reversals new.reversals (level + 1) next_level × (new.chosen ≡ old.chosen) × (new.saved ≡ old.saved)
TriedAs false len p level old new next_level = IsChosen len p level old new × (next_level ≡ Some (level + 1))

-- The unordered pair of a level, reversed if its reversal is true.
abbrev pub pair_at : List (ℕ × ℕ) → List Bool → ℕ → ℕ × ℕ
pair_at unordered reversals level = reverse_if (slice_index_or reversals level false) (slice_index_or unordered level (0, 0))

-- Trying the current orientation of a level's pair changes the search from old to new, and the search continues at next_level, or ends
-- (`None`).
abbrev pub TriesOrientation : ℕ → List (ℕ × ℕ) → ℕ → SearchState → SearchState → Option ℕ → Type 0
TriesOrientation len unordered level old new next_level =
    TriedAs (reach old.saved level (pair_at unordered old.reversals level).1 (pair_at unordered old.reversals level).0)
    len (pair_at unordered old.reversals level) level old new next_level
