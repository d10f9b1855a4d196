-- The preserved pairs and the conflicts of items, in either language: each pair is ascending, and each ascending pair that passes the test is
-- listed. And items with these pairs are well-formed. So the orders of a path assignment can be computed by lw_orders.
use Rattle.lw_paths.proofs.Common.{◌≡◌, Bool, true, ℕ, ◌<◌, ◌≤◌, List, length, filter, arith, Contains}
use Rattle.lw_paths.proofs.Common.{AreSorted, AreAscending, most_items, Item, Language, item_at, pairs_from}
use Rattle.lw_paths.proofs.Common.{is_preserved, items_conflict, constraints_of, IsWellFormed}
use Rattle.lw_paths.proofs.api.PairRanges.{IsPairInRange, All-passing, IsPairInRange-pairs_from}
use Rattle.lw_paths.proofs.api.PairRanges.{Contains-pairs_from, AreIncreasingPairs-pairs_from}
use Rattle.lw_paths.proofs.api.PairRanges.{AreIncreasingPairs-filter, AreIncreasingPairs-sorted}
use Rattle.lw_paths.proofs.api.PairRanges.{Contains-filter}

module _ {S : Type 0} (language : Language S) (program : List (List S)) where
  -- Tests whether the items of a pair of indices are in preserved order.
  abbrev preserved_at : List Item → ℕ × ℕ → Bool
  preserved_at items p = is_preserved language program (item_at items p.0) (item_at items p.1)

  -- Tests whether the items of a pair of indices conflict.
  abbrev conflict_at : List Item → ℕ × ℕ → Bool
  conflict_at items p = items_conflict language program (item_at items p.0) (item_at items p.1)

  -- If i < j are in range, and their items are in preserved order, (i, j) is a preserved pair.
  pub Contains-preserved_pair : (items : List Item) (i j : ℕ)
      → i < j
      → j < length items
      → is_preserved language program (item_at items i) (item_at items j) ≡ true
      → Contains (constraints_of language program items).preserved (i, j)
  Contains-preserved_pair items i j less below f =
      Contains-filter (preserved_at items) (pairs_from 0 (length items)) (i, j)
      (Contains-pairs_from 0 (length items) i j (omega arith) less (omega arith)) f

  -- If i < j are in range, and their items conflict, (i, j) is a conflict.
  pub Contains-conflict_pair : (items : List Item) (i j : ℕ)
      → i < j
      → j < length items
      → items_conflict language program (item_at items i) (item_at items j) ≡ true
      → Contains (constraints_of language program items).conflicts (i, j)
  Contains-conflict_pair items i j less below c =
      Contains-filter (conflict_at items) (pairs_from 0 (length items)) (i, j)
      (Contains-pairs_from 0 (length items) i j (omega arith) less (omega arith)) c

  -- Each pair of numbers below n that passes a test is ascending.
  AreAscending-filtered_pairs : (test : ℕ × ℕ → Bool) (n : ℕ) → AreAscending n (filter test (pairs_from 0 n))
  AreAscending-filtered_pairs test n =
      All-passing test (IsPairInRange 0 n) (λ p. (p.0 < p.1) × (p.1 < n)) (pairs_from 0 n) (IsPairInRange-pairs_from 0 n)
      (λ p h e. (h.1, omega (arith, h.2)))

  -- Each preserved pair is ascending.
  pub AreAscending-preserved : (items : List Item) → AreAscending (length items) (constraints_of language program items).preserved
  AreAscending-preserved items = AreAscending-filtered_pairs (preserved_at items) (length items)

  -- Each conflict is ascending.
  pub AreAscending-conflicts : (items : List Item) → AreAscending (length items) (constraints_of language program items).conflicts
  AreAscending-conflicts items = AreAscending-filtered_pairs (conflict_at items) (length items)

  -- The conflicts are sorted, without duplicates.
  pub AreSorted-conflicts : (items : List Item) → AreSorted (constraints_of language program items).conflicts
  AreSorted-conflicts items =
      AreIncreasingPairs-sorted (constraints_of language program items).conflicts
      (AreIncreasingPairs-filter (conflict_at items) (pairs_from 0 (length items))
      (AreIncreasingPairs-pairs_from 0 (length items)))

  -- If items are within the limit, they are well-formed with their preserved pairs and their conflicts.
  pub IsWellFormed-constraints : (items : List Item)
      → length items ≤ most_items
      → IsWellFormed (constraints_of language program items)
  IsWellFormed-constraints items few = record {
    bounded = few;
    preserved_up = AreAscending-preserved items;
    conflicts_up = AreAscending-conflicts items;
    sorted = AreSorted-conflicts items;
  }
