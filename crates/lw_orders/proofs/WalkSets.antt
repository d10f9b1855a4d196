-- The sets of the closure, one for each item: which conflicts they leave unordered, and how they grow by a
-- pair. Lemmas for `unordered_conflicts_of` and for the functions of `reach.rt`, which write one table of a
-- list of tables.
use Rattle.lw_orders.proofs.Common.{most_items, ℕ, ◌≡◌, ◌+◌, ◌<◌, ◌≤◌, List, [], ◌∷◌, ◌++◌, length, set}
use Rattle.lw_orders.proofs.Common.{get_or, get_or_append_left, ap, sym, ◌∙◌, refl, inl, inr, arith, true}
use Rattle.lw_orders.proofs.Common.{false, not, ◌&&◌, ◌||◌, length-set, filter, get_or-set_same}
use Rattle.lw_orders.proofs.Common.{get_or-set_other, cases_eq, same_from_decides, All-head, All-tail}
use Rattle.lw_orders.proofs.Common.{Constraints, IsWellFormed, AreAscending, is_ordered, unordered_conflicts}
use Rattle.lw_orders.proofs.Common.{has, reaches_in, Reaches}
use Rattle.lw_orders.proofs.Walks.{IsOrderedByPath-if_ordered, is_ordered-if_path}

-- If sets say which items walks along the preserved pairs reach, the conflicts that the sets do not order are the unordered
-- ones.
pub unordered_conflicts-by_sets : (t : Constraints)
    → IsWellFormed t
    → (sets : List ℕ)
    → Reaches t.len t.preserved (reaches_in sets)
    → filter (λ p. not (reaches_in sets p.0 p.1)) t.conflicts ≡ unordered_conflicts t
unordered_conflicts-by_sets t are sets walks = filter_ordered-same t.conflicts are.conflicts_up
  where
    -- For each pair both tests have the same value.
    filter_ordered-same : (ps : List (ℕ × ℕ))
        → AreAscending t.len ps
        → filter (λ p. not (reaches_in sets p.0 p.1)) ps ≡ filter (λ p. not (is_ordered t.preserved p)) ps
    filter_ordered-same [] up = refl
    filter_ordered-same (p ∷ ps) up =
        let (a, b) = All-head (λ p. (p.0 < p.1) × (p.1 < t.len)) p ps up in
        let same : reaches_in sets p.0 p.1 ≡ is_ordered t.preserved p =
        same_from_decides _ _ (walks p.0 p.1 (omega (arith, a, b)) b)
        (IsOrderedByPath-if_ordered t.preserved p, is_ordered-if_path t.len t.preserved p are.preserved_up) in
        let rest = filter_ordered-same ps (All-tail (λ p. (p.0 < p.1) × (p.1 < t.len)) p ps up) in
        cc

-- If `back` is not empty, writing v as its first element is writing v in the whole list at the length of `front`. The written value is
-- stated as what the list has there afterwards, as the clause `others` of `reach_next` states it.
set-append_first : {X : Type 0} (front back : List X) (v d : X)
    → 0 < length back
    → front ++ set back 0 v ≡ set (front ++ back) (length front) (get_or (front ++ set back 0 v) (length front) d)
set-append_first [] [] v d in_range = absurd (omega arith)
set-append_first [] (b ∷ back) v d in_range = refl
set-append_first (f ∷ front) back v d in_range = ap (λ xs. f ∷ xs) (set-append_first front back v d in_range)

-- If xs is split at n into `front` and `back`, to write v as the first element of `back` is to write v in xs at n, stated in the same way.
pub set-split_at : {X : Type 0} (xs front back : List X) (n : ℕ) (v d : X)
    → xs ≡ front ++ back
    → length front ≡ n
    → 0 < length back
    → front ++ set back 0 v ≡ set xs n (get_or (front ++ set back 0 v) n d)
set-split_at xs front back n v d e long in_range = rw (e, ← long) (set-append_first front back v d in_range)

module _ (xs front back : List (List ℕ)) (level : ℕ) (e : xs ≡ front ++ back) (long : length front ≡ level + 1) where
  -- The table of a level, which is the last of the front part, is read in the whole list at that level.
  pub get_or-front_level : get_or front level [] ≡ get_or xs level []
  get_or-front_level = rw e (sym (get_or_append_left front back [] level (omega (arith, long))))

  -- If the table `more`, that of a level extended by a pair, is written at the first of the back part, the whole list has it at
  -- the next level.
  pub reaches_in-written_level : {len : ℕ} (from to : ℕ) (more : List ℕ)
      → 0 < length back
      → ((i j : ℕ)
      → i < len
      → j < len
      → reaches_in more i j
      ≡ (reaches_in (get_or front level []) i j
      || (reaches_in (get_or front level []) i from && reaches_in (get_or front level []) to j)))
      → (i j : ℕ)
      → i < len
      → j < len
      → reaches_in (get_or (front ++ set back 0 more) (level + 1) []) i j
      ≡ (reaches_in (get_or xs level []) i j || (reaches_in (get_or xs level []) i from && reaches_in (get_or xs level []) to j))
  reaches_in-written_level from to more some grown i j li lj =
      rw (← long, get_or-written_level front back some, ← get_or-front_level) (grown i j li lj)
    where
      -- The sets written at a level are read there.
      get_or-written_level : (front back : List (List ℕ))
          → 0 < length back
          → get_or (front ++ set back 0 more) (length front) [] ≡ more
      get_or-written_level [] [] in_range = absurd (omega arith)
      get_or-written_level [] (b ∷ back) in_range = refl
      get_or-written_level (f ∷ front) back in_range = get_or-written_level front back in_range

-- The invariant of the loop that extends `sets` by a pair, item by item: the sets of the items below `item` are extended, the others
-- unchanged.
pub record IsGrowing (sets more : List ℕ) (len from to item : ℕ) : Type 0 where
  pub room : length more ≡ most_items
  pub unchanged : (i : ℕ) → item ≤ i → i < len → get_or more i 0 ≡ get_or sets i 0
  pub grown : (i j : ℕ)
      → i < item
      → j < len
      → reaches_in more i j ≡ (reaches_in sets i j || (reaches_in sets i from && reaches_in sets to j))

module _ {sets more : List ℕ} {len from to item : ℕ} (few : len ≤ most_items) (l : item < len)
    (growing : IsGrowing sets more len from to item) where
  -- If `item` reaches the new pair's first item, and its new set has what its set and the second item's set have, then the
  -- items below item + 1 are extended.
  pub IsGrowing-set_joined : (set' : ℕ)
      → ((j : ℕ) → j < most_items → has set' j ≡ (reaches_in sets item j || reaches_in sets to j))
      → reaches_in sets item from ≡ true
      → IsGrowing sets (set more item set') len from to (item + 1)
  IsGrowing-set_joined set' joined on = record {
    room = length-set more item set' ∙ growing.room;
    unchanged = λ i past li. get_or-set_other more item i set' 0 (λ e. omega arith) ∙ growing.unchanged i (omega arith) li;
    grown = λ i j past lj. elim (cases_eq i item) [
      | inl e ↦ rw e (rw (get_or-set_same more item set' 0 (omega (arith, growing.room)), on) (joined j (omega arith)))
      | inr ne ↦ rw (get_or-set_other more item i set' 0 ne) (growing.grown i j (omega arith) lj)
    ];
  }

  -- If `item` does not reach the new pair's first item, the items below item + 1 are extended, with its set unchanged.
  pub IsGrowing-set_unchanged : reaches_in sets item from ≡ false → IsGrowing sets more len from to (item + 1)
  IsGrowing-set_unchanged off = record {
    room = growing.room;
    unchanged = λ i past li. growing.unchanged i (omega arith) li;
    grown = λ i j past lj. elim (cases_eq i item) [
      | inl e ↦ rw e (rw (growing.unchanged item (omega arith) l, off) (grind arith))
      | inr ne ↦ growing.grown i j (omega arith) lj
    ];
  }
