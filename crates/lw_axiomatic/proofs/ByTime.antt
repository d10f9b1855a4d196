-- The numbers below n, sorted by their times: an order in which earlier ones precede later ones. TimeOrder
-- sorts the items of an execution in this way.
use Rattle.lw_axiomatic.proofs.Common.{◌≡◌, ℕ, zero, suc, ◌<◌, ◌≤◌, ◌⊎◌, inl, inr, refl, ap, ◌∙◌, arith}
use Rattle.lw_axiomatic.proofs.Common.{if◌then◌else◌, List, [], ◌∷◌, length, nat_lt, cases_Bool, cases_eq}
use Rattle.lw_axiomatic.proofs.Common.{nat_tests, index_in, Before, IsOrder}

module _ (r : ℕ → ℕ) where
  -- The time t is at most that of each number in the list.
  abbrev NoLater : ℕ → List ℕ → Type 0
  NoLater t [] = Unit {0}
  NoLater t (x ∷ xs) = (t ≤ r x) × NoLater t xs

  -- The times in the list do not decrease.
  abbrev Sorted : List ℕ → Type 0
  Sorted [] = Unit {0}
  Sorted (x ∷ xs) = NoLater (r x) xs × Sorted xs

  -- Inserts a number before the first one with a greater time.
  abbrev insert : ℕ → List ℕ → List ℕ
  insert i [] = i ∷ []
  insert i (x ∷ xs) = if nat_lt (r i) (r x) then i ∷ x ∷ xs else x ∷ insert i xs

  -- If t is at most the time of each number in a list, so is each s that is at most t.
  NoLater-mono : (s t : ℕ) (xs : List ℕ) → s ≤ t → NoLater t xs → NoLater s xs
  NoLater-mono s t [] le h = tt
  NoLater-mono s t (x ∷ xs) le h = (omega (arith, le, h.0), NoLater-mono s t xs le h.1)

  -- If t is at most the time of i and of each number in a list, it is at most that of each number in the list with i inserted.
  NoLater-insert : (t i : ℕ) (xs : List ℕ) → t ≤ r i → NoLater t xs → NoLater t (insert i xs)
  NoLater-insert t i [] le h = (le, tt)
  NoLater-insert t i (x ∷ xs) le h =
      elim (cases_Bool (nat_lt (r i) (r x))) [ inl e ↦ rw e (le, h) | inr e ↦ rw e (h.0, NoLater-insert t i xs le h.1) ]

  -- Inserting preserves that a list is sorted by time.
  Sorted-insert : (i : ℕ) (xs : List ℕ) → Sorted xs → Sorted (insert i xs)
  Sorted-insert i [] h = (tt, tt)
  Sorted-insert i (x ∷ xs) h = elim (cases_Bool (nat_lt (r i) (r x))) [
    | inl e ↦ rw e ((grind (arith, nat_tests), NoLater-mono (r i) (r x) xs (grind (arith, nat_tests)) h.0), h)
    | inr e ↦ rw e (NoLater-insert (r x) i xs (grind (arith, nat_tests)) h.0, Sorted-insert i xs h.1)
  ]

  -- Inserting adds one number.
  length_insert : (i : ℕ) (xs : List ℕ) → length (insert i xs) ≡ suc (length xs)
  length_insert i [] = refl
  length_insert i (x ∷ xs) =
      elim (cases_Bool (nat_lt (r i) (r x))) [ inl e ↦ rw e refl | inr e ↦ rw e (ap suc (length_insert i xs)) ]

  -- The inserted number, and each number of the list, is in the list with it inserted.
  in_range-insert : (i j : ℕ) (xs : List ℕ)
      → (i ≡ j) ⊎ (index_in xs j < length xs)
      → index_in (insert i xs) j < length (insert i xs)
  in_range-insert i j [] (inl e) = grind (arith, nat_tests)
  in_range-insert i j [] (inr l) = absurd (omega arith)
  in_range-insert i j (x ∷ xs) h = elim (cases_Bool (nat_lt (r i) (r x))) [
    | inl e ↦ rw e (elim h [ inl same ↦ grind (arith, nat_tests) | inr l ↦ grind (arith, nat_tests) ])
    | inr e ↦ rw e (elim (cases_eq x j) [
      | inl same ↦ grind (arith, nat_tests)
      | inr ne ↦
          (let rest : index_in (insert i xs) j < length (insert i xs) =
          in_range-insert i j xs (elim h [ inl s ↦ inl s | inr l ↦ inr (grind (arith, nat_tests)) ]) in
          grind (arith, nat_tests))
    ])
  ]

  -- If t is at most the time of each number in a list, it is at most that of a member.
  time_le-member : (t j : ℕ) (xs : List ℕ) → NoLater t xs → index_in xs j < length xs → t ≤ r j
  time_le-member t j [] h l = absurd (omega arith)
  time_le-member t j (x ∷ xs) h l = elim (cases_eq x j) [
    | inl e ↦ (let same : r x ≡ r j = ap r e in omega (arith, h.0, same))
    | inr ne ↦ time_le-member t j xs h.1 (grind (arith, nat_tests))
  ]

  -- In a sorted list a number with a lower time precedes one with a greater.
  Before-Sorted : (xs : List ℕ) (i j : ℕ)
      → Sorted xs
      → index_in xs i < length xs
      → index_in xs j < length xs
      → r i < r j
      → Before xs i j
  Before-Sorted [] i j h li lj lt = absurd (omega arith)
  Before-Sorted (x ∷ xs) i j h li lj lt = elim (cases_eq x j) [
    | inl e ↦ elim (cases_eq x i) [
      | inl f ↦
          absurd (let a : r x ≡ r j = ap r e in
          let b : r x ≡ r i = ap r f in
          omega (arith, a, b, lt))
      | inr nf ↦
          absurd (let a : r x ≡ r j = ap r e in omega (arith, a, lt, time_le-member (r x) i xs h.0 (grind (arith, nat_tests))))
    ]
    | inr ne ↦ elim (cases_eq x i) [
      | inl f ↦ grind (arith, nat_tests)
      | inr nf ↦ grind (arith, nat_tests, Before-Sorted xs i j h.1 (grind (arith, nat_tests)) (grind (arith, nat_tests)) lt)
    ]
  ]

  -- The numbers below n, inserted by their times.
  abbrev pub by_time : ℕ → List ℕ
  by_time zero = []
  by_time (suc n) = insert n (by_time n)

  -- The sorted numbers are sorted.
  Sorted-by_time : (n : ℕ) → Sorted (by_time n)
  Sorted-by_time zero = tt
  Sorted-by_time (suc n) = Sorted-insert n (by_time n) (Sorted-by_time n)

  -- Inserting the numbers below n by their times gives n numbers.
  length_by_time : (n : ℕ) → length (by_time n) ≡ n
  length_by_time zero = refl
  length_by_time (suc n) = length_insert n (by_time n) ∙ ap suc (length_by_time n)

  -- Each number below n is in the list of the numbers below n by their times.
  in_range-by_time : (n i : ℕ) → i < n → index_in (by_time n) i < length (by_time n)
  in_range-by_time zero i l = absurd (omega arith)
  in_range-by_time (suc n) i l =
      in_range-insert n i (by_time n) (elim (cases_eq n i) [ inl e ↦ inl e | inr ne ↦ inr (in_range-by_time n i (omega arith)) ])

  -- The numbers sorted by time are an order of all numbers below n.
  pub IsOrder-by_time : (n : ℕ) → IsOrder n (by_time n)
  IsOrder-by_time n = (length_by_time n, λ i l. omega (arith, in_range-by_time n i l, length_by_time n))

  -- Of two numbers below n, the one with the lower time precedes the other.
  pub Before-by_time : (n i j : ℕ) → i < n → j < n → r i < r j → Before (by_time n) i j
  Before-by_time n i j li lj lt =
      Before-Sorted (by_time n) i j (Sorted-by_time n) (in_range-by_time n i li) (in_range-by_time n j lj) lt
