-- The conflicts of items are those of the items that access a location. Then one round of each loop that lists
-- them. For `conflicts.rt`, which pairs accesses only.
use Rattle.lw_paths.proofs.Common.{◌≡◌, ℕ, zero, suc, ◌+◌, ◌<◌, drop, drop-cons, get_or, Bool, false}
use Rattle.lw_paths.proofs.Common.{if◌then◌else◌, List, [], ◌∷◌, ◌++◌, length, map, Option, Some, None, refl}
use Rattle.lw_paths.proofs.Common.{sym, ap, ap₂, ◌∙◌, inl, inr, arith, filter, option_to_list, flat_map}
use Rattle.lw_paths.proofs.Common.{append_assoc, append-nil, cases_Bool, drop_all, drop_more, filter-append}
use Rattle.lw_paths.proofs.Common.{filter_agree, indices, Access, Item, is_conflict, conflicts_with}
use Rattle.lw_paths.proofs.Common.{conflicts_among, access_by, accesses_from, Language, item_at, pairs_from}
use Rattle.lw_paths.proofs.Common.{statement_of, conflict_by, constraints_of}

-- Tests whether two items conflict, from their accesses. An item without an access conflicts with none.
abbrev accesses_conflict : Option Access → Option Access → Bool
accesses_conflict (Some a) (Some b) = is_conflict a b
accesses_conflict (Some a) None = false
accesses_conflict None b = false

-- ---- conflicts of items, each with its index and its access if it has one
module _ (acc : ℕ → Option Access) (numbered : (i : ℕ) (a : Access) → acc i ≡ Some a → a.index ≡ i) where
  -- Tests whether the two items of a pair conflict, by their accesses.
  abbrev conflict : ℕ × ℕ → Bool
  conflict p = accesses_conflict (acc p.0) (acc p.1)

  -- The pair of two indices.
  abbrev pair : ℕ → ℕ → ℕ × ℕ
  pair k j = (k, j)

  -- The accesses of the d items from index m on.
  abbrev accesses_in : ℕ → ℕ → List Access
  accesses_in m d = flat_map (λ i. option_to_list (acc i)) (indices m d)

  -- If item k has no access, it conflicts with none of the items js.
  none_row : (k : ℕ) → acc k ≡ None → (js : List ℕ) → filter conflict (map (pair k) js) ≡ []
  none_row k is_none [] = refl
  none_row k is_none (j ∷ js) = rw is_none (none_row k is_none js)

  module _ (k : ℕ) (x : Access) (ex : acc k ≡ Some x) where
    -- If the conflicts of item k with the items after m are those of their accesses, so are its conflicts with the items from m on.
    conflicts_of_row-next : (m d : ℕ) (y : Option Access)
        → acc m ≡ y
        → filter conflict (map (pair k) (indices (suc m) d)) ≡ conflicts_with x (accesses_in (suc m) d)
        → filter conflict (map (pair k) (m ∷ indices (suc m) d)) ≡ conflicts_with x (option_to_list y ++ accesses_in (suc m) d)
    conflicts_of_row-next m d None ey rest = rw (ex, ey) rest
    conflicts_of_row-next m d (Some y) ey rest = elim (cases_Bool (is_conflict x y)) [
      | inl t ↦
          rw (ex, ey, t)
          (ap₂ (λ (p : ℕ × ℕ) ps. p ∷ ps) (ap₂ (λ (i j : ℕ). (i, j)) (sym (numbered k x ex)) (sym (numbered m y ey))) rest)
      | inr f ↦ rw (ex, ey, f) rest
    ]

    -- The conflicts of an access with the items of a range are its conflicts with their accesses.
    conflicts_of_row : (d m : ℕ) → filter conflict (map (pair k) (indices m d)) ≡ conflicts_with x (accesses_in m d)
    conflicts_of_row zero m = refl
    conflicts_of_row (suc d) m = conflicts_of_row-next m d (acc m) refl (conflicts_of_row d (suc m))

  -- If the conflicts among the items after m are those among their accesses, so are the conflicts among the items from m on.
  conflicts_of_pairs-next : (m d : ℕ) (x : Option Access)
      → acc m ≡ x
      → filter conflict (pairs_from (suc m) d) ≡ conflicts_among (accesses_in (suc m) d)
      → filter conflict (pairs_from m (suc d)) ≡ conflicts_among (option_to_list x ++ accesses_in (suc m) d)
  conflicts_of_pairs-next m d None e rest =
      filter-append conflict (map (pair m) (indices (suc m) d)) (pairs_from (suc m) d)
      ∙ ap₂ (λ ps qs. ps ++ qs) (none_row m e (indices (suc m) d)) rest
  conflicts_of_pairs-next m d (Some x) e rest =
      filter-append conflict (map (pair m) (indices (suc m) d)) (pairs_from (suc m) d)
      ∙ ap₂ (λ ps qs. ps ++ qs) (conflicts_of_row m x e d (suc m)) rest

  -- The conflicts among the items of a range are those among their accesses.
  conflicts_of_pairs : (d m : ℕ) → filter conflict (pairs_from m d) ≡ conflicts_among (accesses_in m d)
  conflicts_of_pairs zero m = refl
  conflicts_of_pairs (suc d) m = conflicts_of_pairs-next m d (acc m) refl (conflicts_of_pairs d (suc m))

module _ {S : Type 0} (language : Language S) (program : List (List S)) where
  -- The test whether two items conflict, by their statements and whether each is a drain (d, e), is that of their accesses.
  conflict_by-by_accesses : (n m : ℕ) (d e : Bool) (s t : Option S)
      → conflict_by language d e s t ≡ accesses_conflict (access_by language n d s) (access_by language m e t)
  conflict_by-by_accesses n m d e s t = grind arith

  -- If the item with index n, a drain if d is `true`, has an access, that has the index n.
  index-of_access : (n : ℕ) (d : Bool) (s : Option S) (a : Access) → access_by language n d s ≡ Some a → a.index ≡ n
  index-of_access n d s a e = grind arith

  -- ---- conflicts of the accesses only
  module _ (items : List Item) where
    -- The access of the item at an index, if it has one.
    abbrev access_at : ℕ → Option Access
    access_at i = access_by language i (item_at items i).is_drain (statement_of language program (item_at items i))

    -- The accesses of the items from index m on are those of the item at each of these indices.
    accesses_from-by_index : (d m : ℕ)
        → m + d ≡ length items
        → accesses_from language program m (drop m items) ≡ flat_map (λ i. option_to_list (access_at i)) (indices m d)
    accesses_from-by_index zero m e = ap (accesses_from language program m) (drop_all m items (omega arith))
    accesses_from-by_index (suc d) m e =
        ap (accesses_from language program m) (drop-cons items m _ (omega arith))
        ∙ ap (λ xs. option_to_list (access_at m) ++ xs) (accesses_from-by_index d (suc m) (omega arith))

    -- The conflicts among the accesses of all items are the conflicts of the items.
    pub conflicts_among-are_conflicts : conflicts_among (accesses_from language program 0 items)
        ≡ (constraints_of language program items).conflicts
    conflicts_among-are_conflicts =
        ap conflicts_among (accesses_from-by_index (length items) 0 (omega arith))
        ∙ (sym (conflicts_of_pairs access_at
        (λ i a e. index-of_access i (item_at items i).is_drain (statement_of language program (item_at items i)) a e)
        (length items) 0)
        ∙ filter_agree _ _ (λ (p : ℕ × ℕ).
        sym (conflict_by-by_accesses p.0 p.1 (item_at items p.0).is_drain (item_at items p.1).is_drain
        (statement_of language program (item_at items p.0)) (statement_of language program (item_at items p.1))))
        (pairs_from 0 (length items)))

-- The item at index n of the list, and its access, if it has one.
pub record IsAccessOfItem {S : Type 0} (language : Language S) (program : List (List S)) (items : List Item) (n : ℕ) (item : Item)
    (o : Option Access) : Type 0 where
  pub item_in_range : n < length items
  pub item_is : item ≡ get_or items n item
  pub access_is : o ≡ access_by language n item.is_drain (statement_of language program item)

-- Pushing the access of item n, if it has one, preserves that `whole` is the accesses found and those of the remaining items.
pub accesses_from-push : {S : Type 0} {item : Item} {o : Option Access} {new whole : List Access} (language : Language S)
    (program : List (List S)) (items : List Item) (n : ℕ) (found : List Access)
    → IsAccessOfItem language program items n item o
    → found ++ accesses_from language program n (drop n items) ≡ whole
    → new ≡ found ++ option_to_list o
    → new ++ accesses_from language program (n + 1) (drop (n + 1) items) ≡ whole
accesses_from-push {item = item} {o = o} {whole = whole} language program items n found x so_far pushed =
    let split : drop n items ≡ item ∷ drop (n + 1) items =
    drop_more items n item x.item_in_range ∙ ap (λ a. a ∷ drop (n + 1) items) (sym x.item_is) in
    let plus : suc n ≡ n + 1 = omega arith in
    let whole_is : found ++ (option_to_list o ++ accesses_from language program (n + 1) (drop (n + 1) items)) ≡ whole =
    rw (x.access_is, ← so_far, split, ← plus) refl in
    rw (pushed, append_assoc) whole_is

-- Pushing the conflict of access a with the later one at n, if they conflict, preserves that `whole` is the conflicts found and those that
-- remain.
pub conflicts_with-push : {b : Access} {new whole : List (ℕ × ℕ)} (a : Access) (later : List Access) (n : ℕ)
    (found : List (ℕ × ℕ))
    → n < length later
    → b ≡ get_or later n b
    → found ++ conflicts_with a (drop n later) ≡ whole
    → new ≡ found ++ (if is_conflict a b then (a.index, b.index) ∷ [] else [])
    → new ++ conflicts_with a (drop (n + 1) later) ≡ whole
conflicts_with-push {b = b} a later n found in_range is so_far pushed =
    let split : drop n later ≡ b ∷ drop (n + 1) later =
    drop_more later n b in_range ∙ ap (λ c. c ∷ drop (n + 1) later) (sym is) in
    elim (cases_Bool (is_conflict a b)) [
      | inl t ↦
          rw (pushed, ← so_far, split, t) (append_assoc found ((a.index, b.index) ∷ []) (conflicts_with a (drop (n + 1) later)))
      | inr f ↦ rw (pushed, ← so_far, split, f, append-nil) refl
    ]
