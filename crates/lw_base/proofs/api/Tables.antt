-- The index of a name in a table, and tables with one more name. Lemmas for `location.rt`, and for the
-- readers above.
use Rattle.lw_base.proofs.Common.{most_locations, bytes_eq, true≢false, append-nil, append_assoc, ◌++◌, ◌∷◌}
use Rattle.lw_base.proofs.Common.{length-append, ◌≡◌, ℕ, ◌<◌, ◌+◌, true, false, suc, zero, List, [], map}
use Rattle.lw_base.proofs.Common.{length, take, get_or, slice_get, Option, Some, None, MatchOption, Contains}
use Rattle.lw_base.proofs.Common.{◌⊎◌, inl, inr, refl, ap, sym, ◌∙◌, subst, nat_eq, arith, IsSome, option_map}
use Rattle.lw_base.proofs.Common.{SomeIff, Bytes, NameTable, IsDuplicateFree, IsUnreservedName, IsNameTable}
use Rattle.lw_base.proofs.Common.{contains_name, insert_name, insert_names, position_of_name}
use Rattle.lw_base.proofs.Common.{false_from_ne_true, or_right, AllByRecursion, map-append, take_more}
use Rattle.lw_base.proofs.Common.{Contains-push_cases, Contains-append_right, unsigned_Decides, pointwise}
use Rattle.lw_base.proofs.Common.{pointwise_decides, slice_get-get_or, slice_get-map, slice_get_read}
use Rattle.lw_base.proofs.Common.{slice_get_within, get_or_from_slice_get}

-- There is an entry at index p of a list, and f gives this name for it.
pub record EntryAt {S : Type 0} (f : S → Bytes) (ss : List S) (p : ℕ) (name : Bytes) : Type 0 where
  pub entry : S
  pub index_in_range : p < length ss
  pub entry_is : entry ≡ get_or ss p entry
  pub named : name ≡ f entry

module _ {S : Type 0} (f : S → Bytes) (ss : List S) (p : ℕ) (t : Bytes) (x : EntryAt f ss p t) where
  -- The item at the index p of the mapped list is t.
  at_index : slice_get (map f ss) p ≡ Some t
  at_index =
      slice_get-map f _ p
      ∙ ap (option_map f) (slice_get_read ss _ p x.entry refl x.index_in_range x.entry_is)
      ∙ ap Some (sym x.named)

  -- If the entry at an index compares unequal to a name, the table does not have this name at that index.
  pub not-found_at_index : (name : Bytes) → pointwise nat_eq t name ≡ false → get_or (map f ss) p [] ≡ name → ⊥
  not-found_at_index name other e =
      let same : t ≡ name = sym (get_or_from_slice_get (map f ss) p t [] at_index) ∙ e in
      true≢false (sym ((pointwise_decides unsigned_Decides t name).1 same) ∙ other)

  -- If the entry at index p compares equal to a name, and the table has fewer than nine names, there is a location with the
  -- index p, and the table has this name there.
  pub found_at_index : (name : Bytes) (o : Option ℕ)
      → length ss < 9
      → SomeIff o (p < most_locations) p
      → pointwise nat_eq t name ≡ true
      → MatchOption o (Contains (map f ss) name → ⊥) (λ loc. slice_get (map f ss) loc ≡ Some name)
  found_at_index name None few h same = absurd (h (omega arith))
  found_at_index name (Some loc) few h same =
      subst (λ (i : ℕ). slice_get (map f ss) i ≡ Some name) (sym h.1)
      (at_index ∙ ap Some ((pointwise_decides unsigned_Decides t name).0 same))

-- The name of an entry of a list is the table's name at that index.
pub slice_get-entry_name : {S : Type 0} {names : NameTable} {place : ℕ} (f : S → Bytes) (ss : List S) (p : ℕ) (t : Bytes)
    → EntryAt f ss p t
    → map f ss ≡ names
    → p ≡ place
    → slice_get names place ≡ Some t
slice_get-entry_name {place} f ss p t x view same =
    subst (λ ns. slice_get ns place ≡ Some t) view (subst (λ (q : ℕ). slice_get (map f ss) q ≡ Some t) same (at_index f ss p t x))

-- Appending a new name preserves that names have no duplicates.
pub IsDuplicateFree-push : (ns : NameTable) (n : Bytes)
    → IsDuplicateFree ns
    → (Contains ns n → ⊥)
    → IsDuplicateFree (ns ++ n ∷ [])
IsDuplicateFree-push [] n once fresh = ((λ h. let k : h.0 < 0 = h.1 in absurd (omega arith)), tt)
IsDuplicateFree-push (m ∷ ns) n once fresh = (
  (λ h. apart (Contains-push_cases ns n m h)),
  IsDuplicateFree-push ns n once.1 (λ h. fresh (Contains-append_right (m ∷ []) ns n h)),
)
  where
    -- No name of the longer table after m is m: by whether it is one of ns, or the new name n.
    apart : Contains ns m ⊎ (n ≡ m) → ⊥
    apart (inl h) = once.0 h
    apart (inr e) = fresh (0, omega arith, sym e)

-- Appending a valid name preserves that all names are valid.
IsUnreservedName-push : (ns : NameTable) (n : Bytes)
    → AllByRecursion IsUnreservedName ns
    → IsUnreservedName n
    → AllByRecursion IsUnreservedName (ns ++ n ∷ [])
IsUnreservedName-push [] n all is = (is, tt)
IsUnreservedName-push (m ∷ ns) n all is = (all.0, IsUnreservedName-push ns n all.1 is)

-- If a list gets one more entry, whose name is `name`, the list of names gets this name at its end.
pub map_names-push : {S : Type 0} (f : S → Bytes) (ss ts : List S) (s : S) (name : Bytes)
    → ts ≡ ss ++ s ∷ []
    → f s ≡ name
    → map f ts ≡ map f ss ++ name ∷ []
map_names-push f ss ts s name more text = ap (map f) more ∙ map-append f ss (s ∷ []) ∙ ap (λ n. map f ss ++ n ∷ []) text

-- If the names of the entries before index k were copied, and then that of the entry at k, the names of the first k + 1 were copied.
pub copied_names-push : {S : Type 0} {ts : List S} (f : S → Bytes) (us ss : List S) (s : S) (k : ℕ)
    → EntryAt f us k (f s)
    → map f ss ≡ map f (take k us)
    → ts ≡ ss ++ s ∷ []
    → map f ts ≡ map f (take (k + 1) us)
copied_names-push {ts} f us ss s k x done more =
    map_names-push f ss ts s _ more x.named
    ∙ ap (λ ns. ns ++ f x.entry ∷ []) done
    ∙ sym (ap (map f) (take_more us k x.entry x.index_in_range)
    ∙ map-append f (take k us) (get_or us k x.entry ∷ [])
    ∙ ap (λ t. map f (take k us) ++ f t ∷ []) (sym x.entry_is))

-- Appending a new valid name to a table with room gives a table.
pub IsNameTable-push : (names : NameTable) (name : Bytes)
    → length names < most_locations
    → IsUnreservedName name
    → (Contains names name → ⊥)
    → IsNameTable names
    → IsNameTable (names ++ name ∷ [])
IsNameTable-push names name few is fresh table = record {
  bounded = omega (arith, length-append names (name ∷ []));
  are_unreserved = IsUnreservedName-push names name table.are_unreserved is;
  without_duplicates = IsDuplicateFree-push names name table.without_duplicates fresh;
}

-- If a location results from the index p of an appended name, and p is n, the number of names before it, then the location's
-- index is n.
pub index-of_pushed_name : (o : Option ℕ) (p at n : ℕ)
    → SomeIff o (p < most_locations) p
    → p ≡ n
    → n < most_locations
    → o ≡ Some at
    → at ≡ n
index-of_pushed_name None p at n is e few same = absurd (is (omega arith))
index-of_pushed_name (Some loc) p at n is e few same = let h : loc ≡ at = cc in sym h ∙ is.1 ∙ e

-- If the index p of a name is the number n of names before it, and n is below eight, a location results from p.
pub IsSome-if_table_has_room : (o : Option ℕ) (p n : ℕ) → SomeIff o (p < most_locations) p → p ≡ n → n < most_locations → IsSome o
IsSome-if_table_has_room None p n is e few = absurd (is (omega arith))
IsSome-if_table_has_room (Some loc) p n is e few = refl

-- Equal texts compare equal.
bytes_eq-true : (a b : Bytes) → a ≡ b → bytes_eq a b ≡ true
bytes_eq-true a b e = (pointwise_decides unsigned_Decides a b).1 e

-- Different texts compare unequal.
bytes_eq-false : (a b : Bytes) → (a ≡ b → ⊥) → bytes_eq a b ≡ false
bytes_eq-false a b n = false_from_ne_true (bytes_eq a b) (λ e. n ((pointwise_decides unsigned_Decides a b).0 e))

-- If a table contains a name, the test `contains_name` says so.
pub contains_name-Contains : (names : NameTable) (n : Bytes) → Contains names n → contains_name names n ≡ true
contains_name-Contains [] n h = let k : h.0 < 0 = h.1 in absurd (omega arith)
contains_name-Contains (m ∷ names) n h = go h.0 h.1 h.2 (contains_name-Contains names n)
  where
    -- By whether the name is at the head, or at an index of the tail.
    go : (k : ℕ)
        → k < length (m ∷ names)
        → get_or (m ∷ names) k n ≡ n
        → (Contains names n → contains_name names n ≡ true)
        → contains_name (m ∷ names) n ≡ true
    go zero l e further = rw (bytes_eq-true m n e) refl
    go (suc k) l e further = rw (further (k, omega arith, e)) (or_right (bytes_eq m n) true refl)

-- If a table does not contain a name, the test `contains_name` says so.
contains_name-false_if_not_contained : (names : NameTable) (n : Bytes) → (Contains names n → ⊥) → contains_name names n ≡ false
contains_name-false_if_not_contained [] n h = refl
contains_name-false_if_not_contained (m ∷ names) n h =
    rw (
      bytes_eq-false m n (λ e. h (0, omega arith, e)),
      contains_name-false_if_not_contained names n (λ k. h (Contains-append_right (m ∷ []) names n k)),
    ) refl

-- Inserting a name that is in the table leaves it unchanged.
pub insert_name-if_in_table : (names : NameTable) (n : Bytes) (l : ℕ) → slice_get names l ≡ Some n → insert_name names n ≡ names
insert_name-if_in_table names n l at =
    rw (contains_name-Contains names n (l, slice_get_within names l n at, get_or_from_slice_get names l n n at)) refl

-- Inserting a new name appends it.
pub insert_name-if_new : (names : NameTable) (n : Bytes) → (Contains names n → ⊥) → insert_name names n ≡ names ++ n ∷ []
insert_name-if_new names n fresh = rw (contains_name-false_if_not_contained names n fresh) refl

-- If a table without duplicates has the name n at index l, then l is the index at which n is found.
pub position_of_name-at : (names : NameTable) (n : Bytes) (l : ℕ)
    → IsDuplicateFree names
    → slice_get names l ≡ Some n
    → position_of_name names n ≡ l
position_of_name-at [] n l once at = absurd cc
position_of_name-at (m ∷ names) n zero once at = let e : m ≡ n = cc in rw (bytes_eq-true m n e) refl
position_of_name-at (m ∷ names) n (suc l) once at =
    let other : m ≡ n → ⊥ = λ e.
    once.0 (l, slice_get_within names l m (at ∙ ap Some (sym e)), get_or_from_slice_get names l m m (at ∙ ap Some (sym e))) in
    rw (bytes_eq-false m n other) (ap (λ (k : ℕ). 1 + k) (position_of_name-at names n l once.1 at) ∙ omega arith)

-- If a table has no duplicates, the name at an index x in range is found at x.
pub position_of_name-again : (names : NameTable)
    → IsDuplicateFree names
    → (x : ℕ)
    → x < length names
    → position_of_name names (get_or names x []) ≡ x
position_of_name-again names once x h = position_of_name-at names (get_or names x []) x once (slice_get-get_or names x [] h)

-- If a table does not contain the name n, then n, appended to it, is found at the index that was the table's length.
pub position_of_name-new : (names : NameTable) (n : Bytes)
    → (Contains names n → ⊥)
    → position_of_name (names ++ n ∷ []) n ≡ length names
position_of_name-new [] n fresh = rw (bytes_eq-true n n refl) refl
position_of_name-new (m ∷ names) n fresh =
    rw (bytes_eq-false m n (λ e. fresh (0, omega arith, e)))
    (ap (λ (k : ℕ). 1 + k) (position_of_name-new names n (λ k. fresh (Contains-append_right (m ∷ []) names n k))) ∙ omega arith)

-- The name is at some index of the table.
abbrev pub IsInTable : NameTable → Bytes → Type 0
IsInTable names n = (l : ℕ) × (slice_get names l ≡ Some n)

-- If a table has all of these names, inserting them leaves it unchanged.
pub insert_names-if_in_table : (names ns : NameTable) → AllByRecursion (IsInTable names) ns → insert_names names ns ≡ names
insert_names-if_in_table names [] h = refl
insert_names-if_in_table names (n ∷ ns) h =
    ap (λ (t : NameTable). insert_names t ns) (insert_name-if_in_table names n h.0.0 h.0.1)
    ∙ insert_names-if_in_table names ns h.1

-- If a list without duplicates is the names `before`, then n and ns, then `before` does not contain n.
not-Contains-if_before : (before ns : NameTable) (n : Bytes) → IsDuplicateFree (before ++ (n ∷ ns)) → Contains before n → ⊥
not-Contains-if_before [] ns n once there = let k : there.0 < 0 = there.1 in absurd (omega arith)
not-Contains-if_before (b ∷ before) ns n once there = at there.0 there.1 there.2 (not-Contains-if_before before ns n once.1)
  where
    -- By whether n is at the head of `before`, or at an index of its tail.
    at : (k : ℕ) → k < length (b ∷ before) → get_or (b ∷ before) k n ≡ n → (Contains before n → ⊥) → ⊥
    at zero lt e further =
        once.0 (subst (λ (m : Bytes). Contains (before ++ (n ∷ ns)) m) (sym e)
        (Contains-append_right before (n ∷ ns) n (0, omega arith, refl)))
    at (suc k) lt e further = further (k, omega (arith, lt), e)

-- If the names `before` and ns have no duplicates together, inserting ns into the table `before` appends them.
insert_names-if_new : (before ns : NameTable) → IsDuplicateFree (before ++ ns) → insert_names before ns ≡ before ++ ns
insert_names-if_new before [] once = sym (append-nil before)
insert_names-if_new before (n ∷ ns) once =
    let e : before ++ (n ∷ ns) ≡ (before ++ n ∷ []) ++ ns = sym (append_assoc before (n ∷ []) ns) in
    ap (λ (t : NameTable). insert_names t ns) (insert_name-if_new before n (not-Contains-if_before before ns n once))
    ∙ insert_names-if_new (before ++ n ∷ []) ns (subst IsDuplicateFree e once)
    ∙ sym e

-- If a table has no duplicates, inserting its names into the empty table gives the table.
pub insert_names-again : (names : NameTable) → IsDuplicateFree names → insert_names [] names ≡ names
insert_names-again names once = insert_names-if_new [] names once
