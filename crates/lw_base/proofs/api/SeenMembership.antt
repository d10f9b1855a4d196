-- An ascending list of a test's registers and locations is a filtered list of all of them: those that are in the list. Reports and printed
-- tests list the observed names in this order.
use Rattle.lw_base.proofs.Common.{◌≡◌, ℕ, zero, suc, ◌+◌, ◌*◌, ◌<◌, ◌≤◌, ◌⊎◌, inl, inr, Bool, true, false}
use Rattle.lw_base.proofs.Common.{List, [], ◌∷◌, ◌++◌, map, length, refl, sym, ap, ◌∙◌, subst, arith}
use Rattle.lw_base.proofs.Common.{length-append, ◌==◌, filter, flat_map, eqb-true, eq-eqb, AllByRecursion}
use Rattle.lw_base.proofs.Common.{list_any, range_with_len, cases_Bool, and_parts, or_cases, or_right}
use Rattle.lw_base.proofs.Common.{eqb-false, length-map-range_with_len, Seen, Register, Location}
use Rattle.lw_base.proofs.Common.{most_threads, most_locations, registers, IsSeenInRange, IsSeenLess}
use Rattle.lw_base.proofs.Common.{IsAscending, seen_eq, thread_registers, all_registers, locations}
use Rattle.lw_base.proofs.api.SeenLists.{IsAscending-all_seen}

-- ---- Equality of registers and locations.

-- Registers and locations that compare equal are equal.
pub seen_eq-sound : (s t : Seen) → seen_eq s t ≡ true → s ≡ t
seen_eq-sound (Register t r) (Register u q) h =
    let both = and_parts (t == u) (r == q) h in
    let e : t ≡ u = eqb-true t u both.0 in
    let f : r ≡ q = eqb-true r q both.1 in
    cc
seen_eq-sound (Location x) (Location y) h = ap (λ (z : ℕ). Location z) (eqb-true x y h)
seen_eq-sound _ _ h = absurd cc

-- A register or location compares equal to itself.
pub seen_eq-refl : (s : Seen) → seen_eq s s ≡ true
seen_eq-refl (Register t r) = rw (eq-eqb t t refl, eq-eqb r r refl) refl
seen_eq-refl (Location x) = eq-eqb x x refl

-- No register or location is less than itself.
IsSeenLess-irreflexive : (s : Seen) → IsSeenLess s s → ⊥
IsSeenLess-irreflexive (Register t r) (inl h) = omega (arith, h)
IsSeenLess-irreflexive (Register t r) (inr h) = omega (arith, h.1)
IsSeenLess-irreflexive (Location x) h = omega (arith, h)

-- Two registers or locations that differ compare unequal.
seen_eq-false : (s t : Seen) → (s ≡ t → ⊥) → seen_eq s t ≡ false
seen_eq-false s t ne = elim (cases_Bool (seen_eq s t)) [ inl e ↦ absurd (ne (seen_eq-sound s t e)) | inr e ↦ e ]

-- If s is less than t, the comparison of s with t says that they differ.
seen_eq-false_if_less : (s t : Seen) → IsSeenLess s t → seen_eq s t ≡ false
seen_eq-false_if_less s t h = seen_eq-false s t (λ e. IsSeenLess-irreflexive t (subst (λ (x : Seen). IsSeenLess x t) e h))

-- If s is less than t, the comparison of t with s says that they differ.
seen_eq-false_if_greater : (s t : Seen) → IsSeenLess s t → seen_eq t s ≡ false
seen_eq-false_if_greater s t h =
    seen_eq-false t s (λ e. IsSeenLess-irreflexive t (subst (λ (x : Seen). IsSeenLess x t) (sym e) h))

-- The order of registers and locations is transitive.
IsSeenLess-trans : (s t u : Seen) → IsSeenLess s t → IsSeenLess t u → IsSeenLess s u
IsSeenLess-trans (Register a b) (Register c d) (Register e f) (inl h) (inl k) = inl (omega (arith, h, k))
IsSeenLess-trans (Register a b) (Register c d) (Register e f) (inl h) (inr k) = inl (omega (arith, h, k.0))
IsSeenLess-trans (Register a b) (Register c d) (Register e f) (inr h) (inl k) = inl (omega (arith, h.0, k))
IsSeenLess-trans (Register a b) (Register c d) (Register e f) (inr h) (inr k) =
    inr (omega (arith, h.0, k.0), omega (arith, h.1, k.1))
IsSeenLess-trans (Register a b) (Location x) (Register c d) h k = absurd k
IsSeenLess-trans (Location x) (Register a b) u h k = absurd h
IsSeenLess-trans (Location x) (Location y) (Register a b) h k = absurd k
IsSeenLess-trans (Location x) (Location y) (Location z) h k = omega (arith, h, k)
IsSeenLess-trans (Register a b) _ _ h k = tt

-- ---- Membership in a list.

-- Tests whether a register or location is in a list.
abbrev pub has_seen : List Seen → Seen → Bool
has_seen ss s = list_any (λ x. seen_eq x s) ss

module _ (us : List Seen) (u : Seen) where
  -- If no item of a list equals u, the list does not have u.
  has_seen-false : (ss : List Seen) → AllByRecursion (λ x. seen_eq x u ≡ false) ss → has_seen ss u ≡ false
  has_seen-false [] h = refl
  has_seen-false (s ∷ ss) h = let e = h.0 in rw (e, has_seen-false ss h.1) refl

  -- If u compares unequal to each item of ls, and each is in the list u ∷ us, then each is in us.
  has_seen-tail : (ls : List Seen)
      → AllByRecursion (λ x. seen_eq u x ≡ false) ls
      → AllByRecursion (λ x. has_seen (u ∷ us) x ≡ true) ls
      → AllByRecursion (λ x. has_seen us x ≡ true) ls
  has_seen-tail [] h k = tt
  has_seen-tail (l ∷ ls) h k = let e = h.0 in (rw e at k.0, has_seen-tail ls h.1 k.1)

-- What is less than the head of an ascending list is less than all of it.
IsSeenLess-all : (l u : Seen) (ls : List Seen)
    → IsSeenLess u l
    → AllByRecursion (IsSeenLess l) ls
    → AllByRecursion (IsSeenLess u) (l ∷ ls)
IsSeenLess-all l u ls h all = (h, go ls all)
  where
    -- By induction on the items after l.
    go : (xs : List Seen) → AllByRecursion (IsSeenLess l) xs → AllByRecursion (IsSeenLess u) xs
    go [] a = tt
    go (x ∷ xs) a = (IsSeenLess-trans u l x h a.0, go xs a.1)

-- What is less than all of a list compares unequal to each item.
seen_eq-false_all : (u : Seen) (ls : List Seen) → AllByRecursion (IsSeenLess u) ls → AllByRecursion (λ x. seen_eq u x ≡ false) ls
seen_eq-false_all u [] h = tt
seen_eq-false_all u (l ∷ ls) h = (seen_eq-false_if_less u l h.0, seen_eq-false_all u ls h.1)

-- Each item of a list compares unequal to what is less than all of it.
seen_eq-false_from_all : (u : Seen) (ls : List Seen)
    → AllByRecursion (IsSeenLess u) ls
    → AllByRecursion (λ x. seen_eq x u ≡ false) ls
seen_eq-false_from_all u [] h = tt
seen_eq-false_from_all u (l ∷ ls) h = (seen_eq-false_if_greater u l h.0, seen_eq-false_from_all u ls h.1)

-- A member of a list whose items are all greater than u is greater than u.
IsSeenLess-member : (u l : Seen) (us : List Seen) → AllByRecursion (IsSeenLess u) us → has_seen us l ≡ true → IsSeenLess u l
IsSeenLess-member u l [] all h = absurd cc
IsSeenLess-member u l (x ∷ us) all h = elim (or_cases (seen_eq x l) (has_seen us l) h) [
  | inl e ↦ subst (IsSeenLess u) (seen_eq-sound x l e) all.0
  | inr k ↦ IsSeenLess-member u l us all.1 k
]

-- Two tests that agree on each item of a list leave the same items when they filter it.
filter-same_on_list : (p q : Seen → Bool) (us : List Seen) → AllByRecursion (λ s. p s ≡ q s) us → filter p us ≡ filter q us
filter-same_on_list p q [] h = refl
filter-same_on_list p q (u ∷ us) h = go (q u) refl (filter-same_on_list p q us h.1)
  where
    -- By whether the head passes the tests, which agree on it.
    go : (b : Bool) → q u ≡ b → filter p us ≡ filter q us → filter p (u ∷ us) ≡ filter q (u ∷ us)
    go true e rest = rw (h.0 ∙ e, e) (ap (λ (l : List Seen). u ∷ l) rest)
    go false e rest = rw (h.0 ∙ e, e) rest

-- Filtering by membership in the empty list leaves nothing.
filter_has_seen-nil : (us : List Seen) → filter (has_seen []) us ≡ []
filter_has_seen-nil [] = refl
filter_has_seen-nil (u ∷ us) = filter_has_seen-nil us

-- What is greater than l is in the list with head l if and only if it is in its tail.
has_seen-greater_than_head : (l : Seen) (ls us : List Seen)
    → AllByRecursion (IsSeenLess l) us
    → AllByRecursion (λ s. has_seen (l ∷ ls) s ≡ has_seen ls s) us
has_seen-greater_than_head l ls [] h = tt
has_seen-greater_than_head l ls (u ∷ us) h =
    let e = seen_eq-false_if_less l u h.0 in (rw e refl, has_seen-greater_than_head l ls us h.1)

-- If all items of an ascending list ls are in an ascending list us, filtering us by membership in ls gives ls.
pub filter_has_seen-sublist : (us ls : List Seen)
    → IsAscending us
    → IsAscending ls
    → AllByRecursion (λ l. has_seen us l ≡ true) ls
    → filter (has_seen ls) us ≡ ls
filter_has_seen-sublist [] [] au al all = refl
filter_has_seen-sublist [] (l ∷ ls) au al all = absurd (let h = all.0 in cc)
filter_has_seen-sublist (u ∷ us) [] au al all = filter_has_seen-nil us
filter_has_seen-sublist (u ∷ us) (l ∷ ls) au al all =
    go (cases_Bool (seen_eq l u)) (filter_has_seen-sublist us ls au.1 al.1) (filter_has_seen-sublist us (l ∷ ls) au.1 al)
  where
    -- By whether the heads of both lists are the same: then it is kept; otherwise it is less than all of ls, so it is left out.
    go : (seen_eq l u ≡ true) ⊎ (seen_eq l u ≡ false)
        → (AllByRecursion (λ x. has_seen us x ≡ true) ls → filter (has_seen ls) us ≡ ls)
        → (AllByRecursion (λ x. has_seen us x ≡ true) (l ∷ ls) → filter (has_seen (l ∷ ls)) us ≡ l ∷ ls)
        → filter (has_seen (l ∷ ls)) (u ∷ us) ≡ l ∷ ls
    go (inl e) first whole =
        let same : l ≡ u = seen_eq-sound l u e in
        let later = subst (λ (x : Seen). AllByRecursion (IsSeenLess x) ls) same al.0 in
        let ahead = subst (λ (x : Seen). AllByRecursion (IsSeenLess x) us) (sym same) au.0 in
        let rest : filter (has_seen (l ∷ ls)) us ≡ ls =
        filter-same_on_list (has_seen (l ∷ ls)) (has_seen ls) us (has_seen-greater_than_head l ls us ahead)
        ∙ first (has_seen-tail us u ls (seen_eq-false_all u ls later) all.1) in
        rw e (ap (λ (x : Seen). x ∷ filter (has_seen (l ∷ ls)) us) (sym same) ∙ ap (λ xs. l ∷ xs) rest)
    go (inr e) first whole =
        let apart : seen_eq u l ≡ false =
        seen_eq-false u l
        (λ f. let g : seen_eq l u ≡ true = subst (λ (x : Seen). seen_eq l x ≡ true) (sym f) (seen_eq-refl l) in cc) in
        let before : IsSeenLess u l = IsSeenLess-member u l us au.0 (rw apart at all.0) in
        let later : AllByRecursion (IsSeenLess u) (l ∷ ls) = IsSeenLess-all l u ls before al.0 in
        let none : has_seen (l ∷ ls) u ≡ false = has_seen-false us u (l ∷ ls) (seen_eq-false_from_all u (l ∷ ls) later) in
        rw none (whole (has_seen-tail us u (l ∷ ls) (seen_eq-false_all u (l ∷ ls) later) all))

-- ---- All registers and locations.

-- A member of the first of two lists is a member of their concatenation.
pub has_seen-append_left : (ss us : List Seen) (s : Seen) → has_seen ss s ≡ true → has_seen (ss ++ us) s ≡ true
has_seen-append_left [] us s h = absurd cc
has_seen-append_left (x ∷ ss) us s h = elim (or_cases (seen_eq x s) (has_seen ss s) h) [
  | inl e ↦ rw e refl
  | inr k ↦ or_right (seen_eq x s) (has_seen (ss ++ us) s) (has_seen-append_left ss us s k)
]

-- A member of the second of two lists is a member of their concatenation.
pub has_seen-append_right : (ss us : List Seen) (s : Seen) → has_seen us s ≡ true → has_seen (ss ++ us) s ≡ true
has_seen-append_right [] us s h = h
has_seen-append_right (x ∷ ss) us s h = or_right (seen_eq x s) (has_seen (ss ++ us) s) (has_seen-append_right ss us s h)

-- The image of an index is among the images of all indices.
has_seen-map : (f : ℕ → Seen) (a n k : ℕ) → a ≤ k → k < a + n → has_seen (map f (range_with_len a n)) (f k) ≡ true
has_seen-map f a zero k le lt = absurd (omega (arith, le, lt))
has_seen-map f a (suc n) k le lt = elim (cases_Bool (a == k)) [
  | inl e ↦
      let same : seen_eq (f a) (f k) ≡ true =
      subst (λ (j : ℕ). seen_eq (f a) (f j) ≡ true) (eqb-true a k e) (seen_eq-refl (f a)) in
      rw same refl
  | inr e ↦
      or_right (seen_eq (f a) (f k)) (has_seen (map f (range_with_len (a + 1) n)) (f k))
      (has_seen-map f (a + 1) n k (omega (arith, le, eqb-false a k e)) (omega (arith, lt)))
]

-- A member of one index's list is a member of the concatenated lists.
has_seen-flat_map : (f : ℕ → List Seen) (a n k : ℕ) (s : Seen)
    → a ≤ k
    → k < a + n
    → has_seen (f k) s ≡ true
    → has_seen (flat_map f (range_with_len a n)) s ≡ true
has_seen-flat_map f a zero k s le lt h = absurd (omega (arith, le, lt))
has_seen-flat_map f a (suc n) k s le lt h = elim (cases_Bool (a == k)) [
  | inl e ↦ has_seen-append_left (f a) _ s (subst (λ (j : ℕ). has_seen (f j) s ≡ true) (sym (eqb-true a k e)) h)
  | inr e ↦
      has_seen-append_right (f a) (flat_map f (range_with_len (a + 1) n)) s
      (has_seen-flat_map f (a + 1) n k s (omega (arith, le, eqb-false a k e)) (omega (arith, lt)) h)
]

-- The registers of each thread are among all registers.
pub has_seen-register : (threads t r : ℕ) → t < threads → r < registers → has_seen (all_registers threads) (Register t r) ≡ true
has_seen-register threads t r h k =
    has_seen-flat_map thread_registers 0 threads t (Register t r) (omega arith) (omega (arith, h))
    (has_seen-map (λ q. Register t q) 0 registers r (omega arith) (omega (arith, k)))

-- The locations of a table are among all locations.
pub has_seen-location : (locs x : ℕ) → x < locs → has_seen (locations locs) (Location x) ≡ true
has_seen-location locs x h = has_seen-map (λ y. Location y) 0 locs x (omega arith) (omega (arith, h))

-- A register or location of a test is among all its registers and locations.
has_seen-all_seen : (threads locs : ℕ) (s : Seen)
    → IsSeenInRange threads locs s
    → has_seen (all_registers threads ++ locations locs) s ≡ true
has_seen-all_seen threads locs (Register t r) h =
    has_seen-append_left (all_registers threads) (locations locs) (Register t r) (has_seen-register threads t r h.0 h.1)
has_seen-all_seen threads locs (Location x) h =
    has_seen-append_right (all_registers threads) _ (Location x) (has_seen-location locs x h)

-- Each item of a list of a test's registers and locations is among all of them.
has_seen-each_of_test : (threads locs : ℕ) (ss : List Seen)
    → AllByRecursion (IsSeenInRange threads locs) ss
    → AllByRecursion (λ s. has_seen (all_registers threads ++ locations locs) s ≡ true) ss
has_seen-each_of_test threads locs [] h = tt
has_seen-each_of_test threads locs (s ∷ ss) h = (has_seen-all_seen threads locs s h.0, has_seen-each_of_test threads locs ss h.1)

-- An ascending list of a test's registers and locations results from filtering all of them by membership.
pub filter_has_seen-all_seen : (threads locs : ℕ) (ss : List Seen)
    → IsAscending ss
    → AllByRecursion (IsSeenInRange threads locs) ss
    → filter (has_seen ss) (all_registers threads ++ locations locs) ≡ ss
filter_has_seen-all_seen threads locs ss ascending there =
    filter_has_seen-sublist (all_registers threads ++ locations locs) ss (IsAscending-all_seen threads locs) ascending
    (has_seen-each_of_test threads locs ss there)

-- ---- The number of registers and locations.

-- A filtered list is no longer.
pub length_le-filter : (p : Seen → Bool) (us : List Seen) → length (filter p us) ≤ length us
length_le-filter p [] = omega arith
length_le-filter p (u ∷ us) = go (p u) refl (length_le-filter p us)
  where
    -- By whether the head passes the test.
    go : (b : Bool) → p u ≡ b → length (filter p us) ≤ length us → length (filter p (u ∷ us)) ≤ suc (length us)
    go true e h = rw e (omega (arith, h))
    go false e h = rw e (omega (arith, h))

-- The registers of n threads are six for each thread.
length-all_registers : (a n : ℕ) → length (flat_map thread_registers (range_with_len a n)) ≡ registers * n
length-all_registers a zero = omega arith
length-all_registers a (suc n) = omega (
  arith,
  length-append (thread_registers a) (flat_map thread_registers (range_with_len (a + 1) n)),
  length-all_registers (a + 1) n,
)

-- The registers and locations of a test are six for each thread, and one for each location.
pub length-all_seen : (threads locs : ℕ) → length (all_registers threads ++ locations locs) ≡ registers * threads + locs
length-all_seen threads locs = omega (
  arith,
  length-append (all_registers threads) (locations locs),
  length-all_registers 0 threads,
  length-map-range_with_len (λ x. Location x) 0 locs,
)

-- The maximum number of registers and locations of a test.
abbrev pub max_seen_count : ℕ
max_seen_count = registers * most_threads + most_locations

-- An ascending list of a test's registers and locations is no longer than all of them.
pub length_le-ascending_seen : (threads locs : ℕ) (ss : List Seen)
    → IsAscending ss
    → AllByRecursion (IsSeenInRange threads locs) ss
    → length ss ≤ registers * threads + locs
length_le-ascending_seen threads locs ss ascending there = omega (
  arith,
  ap length (filter_has_seen-all_seen threads locs ss ascending there),
  length_le-filter (has_seen ss) (all_registers threads ++ locations locs),
  length-all_seen threads locs,
)
