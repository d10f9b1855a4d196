-- Which conflicts the preserved pairs do not order, and the number of their orientations, as the code's contracts compute them. The laws
-- `paths_order_pairs` and `orientations_are_counted` state that these are the ones of `IsOrderedByPath`, `AreUnorderedConflicts` and
-- `HasOrientationCount`.
use Rattle.std.specs.Prelude.{ℕ, suc, zero, ◌^◌, Bool, not, ◌==◌, ◌&&◌, ◌||◌, List, length, filter}
use Rattle.std.specs.List.{list_any}
use Rattle.lw_orders.specs.Order.{Constraints}

-- Tests whether a path of at most n steps leads from i to j.
abbrev pub reaches_within : List (ℕ × ℕ) → ℕ → ℕ → ℕ → Bool
reaches_within pairs zero i j = i == j
reaches_within pairs (suc n) i j = (i == j) || list_any (λ p. (p.0 == i) && reaches_within pairs n p.1 j) pairs

-- Tests whether the preserved pairs order a pair, by a search for paths. An ascending path to an item has at most as many steps as the
-- item's number.
abbrev pub is_ordered : List (ℕ × ℕ) → ℕ × ℕ → Bool
is_ordered preserved p = reaches_within preserved p.1 p.0 p.1

-- The conflicts that the preserved pairs do not order.
abbrev pub unordered_conflicts : Constraints → List (ℕ × ℕ)
unordered_conflicts t = filter (λ p. not (is_ordered t.preserved p)) t.conflicts

-- The number of orientations of the unordered conflicts.
abbrev pub orientation_count : Constraints → ℕ
orientation_count t = 2 ^ length (unordered_conflicts t)
