-- Lists of pairs that pass a test, sorted. The preserved pairs and the conflicts of a path assignment are such
-- lists.
use Rattle.lw_paths.proofs.Common.{◌≡◌, ℕ, zero, suc, ◌+◌, ◌<◌, ◌≤◌, Bool, true, List, [], ◌∷◌, ◌++◌, map}
use Rattle.lw_paths.proofs.Common.{refl, subst, inl, inr, ◌⊎◌, arith, All, Contains, filter, cases_eq}
use Rattle.lw_paths.proofs.Common.{cases_Bool, All-nil, All-cons, All-head, All-append, All-map, All-weaker}
use Rattle.lw_paths.proofs.Common.{All-filter, Contains-append_left, Contains-append_right, filter_passes}
use Rattle.lw_paths.proofs.Common.{AreSorted, indices, pairs_from}
use Rattle.lw_paths.proofs.api.Members.{Contains-head, Contains-tail, Contains-cons, Contains-map}

-- An element that passes a test is in the filtered list.
pub Contains-filter : {X : Type 0} (p : X → Bool) (xs : List X) (x : X) → Contains xs x → p x ≡ true → Contains (filter p xs) x
Contains-filter p [] x (k, l, e) h = absurd (omega arith)
Contains-filter p (z ∷ xs) x is_member h = elim (cases_Bool (p z)) [
  | inl e ↦ rw e (elim (Contains-cons z x xs is_member) [
    | inl is_head ↦ Contains-head z x (filter p xs) is_head
    | inr in_tail ↦ Contains-tail z x (filter p xs) (Contains-filter p xs x in_tail h)
  ])
  | inr e ↦ rw e (elim (Contains-cons z x xs is_member) [
    | inl is_head ↦ cc (e, h, is_head)
    | inr in_tail ↦ Contains-filter p xs x in_tail h
  ])
]

-- If P holds of all elements, and implies Q of those that pass the test, Q holds of all elements of the filtered list.
pub All-passing : {X : Type 0} (p : X → Bool) (P Q : X → Type 0) (xs : List X)
    → All P xs
    → ((x : X) → P x → p x ≡ true → Q x)
    → All Q (filter p xs)
All-passing p P Q xs all step k d l = step _ (All-filter p P xs all k d l) (filter_passes p xs k d l)

-- The numbers of a range are within its bounds.
pub All-indices_in_range : (k n : ℕ) → All (λ j. (k ≤ j) × (j < k + n)) (indices k n)
All-indices_in_range k zero = All-nil (λ (j : ℕ). (k ≤ j) × (j < k + zero))
All-indices_in_range k (suc n) =
    All-cons (λ (j : ℕ). (k ≤ j) × (j < k + suc n)) k (indices (suc k) n) (omega arith, omega arith)
    (All-weaker (λ (j : ℕ). (suc k ≤ j) × (j < suc k + n)) (λ (j : ℕ). (k ≤ j) × (j < k + suc n))
    (λ j h. (omega arith, omega arith)) (indices (suc k) n) (All-indices_in_range (suc k) n))

-- The range contains each number within its bounds.
pub Contains-indices : (k n j : ℕ) → k ≤ j → j < k + n → Contains (indices k n) j
Contains-indices k zero j a b = absurd (omega arith)
Contains-indices k (suc n) j a b = elim (cases_eq k j) [
  | inl e ↦ Contains-head k j (indices (suc k) n) e
  | inr ne ↦ Contains-tail k j (indices (suc k) n) (Contains-indices (suc k) n j (omega arith) (omega arith))
]

-- The pair is ascending, and both numbers are in the range.
abbrev pub IsPairInRange : ℕ → ℕ → ℕ × ℕ → Type 0
IsPairInRange k n p = (k ≤ p.0) × (p.0 < p.1) × (p.1 < k + n)

-- The pair of k and j. Mapped over js it gives the row of k's pairs.
abbrev pair_with : ℕ → ℕ → ℕ × ℕ
pair_with k j = (k, j)

-- All listed pairs of a range are ascending and in it.
pub IsPairInRange-pairs_from : (k n : ℕ) → All (IsPairInRange k n) (pairs_from k n)
IsPairInRange-pairs_from k zero = All-nil (IsPairInRange k zero)
IsPairInRange-pairs_from k (suc n) =
    All-append (IsPairInRange k (suc n)) (map (pair_with k) (indices (suc k) n)) (pairs_from (suc k) n)
    (All-map (IsPairInRange k (suc n)) (pair_with k) (indices (suc k) n)
    (All-weaker (λ (j : ℕ). (suc k ≤ j) × (j < suc k + n)) (λ (j : ℕ). IsPairInRange k (suc n) (k, j))
    (λ j h. (omega arith, omega arith, omega arith)) (indices (suc k) n) (All-indices_in_range (suc k) n)))
    (All-weaker (IsPairInRange (suc k) n) (IsPairInRange k (suc n)) (λ p h. (omega arith, omega arith, omega arith))
    (pairs_from (suc k) n) (IsPairInRange-pairs_from (suc k) n))

-- All ascending pairs of a range are listed.
pub Contains-pairs_from : (k n i j : ℕ) → k ≤ i → i < j → j < k + n → Contains (pairs_from k n) (i, j)
Contains-pairs_from k zero i j a b c = absurd (omega arith)
Contains-pairs_from k (suc n) i j a b c = elim (cases_eq k i) [
  | inl e ↦
      Contains-append_left _ _ (i, j)
      (subst (λ (h : ℕ). Contains (map (pair_with k) (indices (suc k) n)) (h, j)) e
      (Contains-map (pair_with k) _ j (Contains-indices (suc k) n j (omega arith) (omega arith))))
  | inr ne ↦ Contains-append_right _ _ (i, j) (Contains-pairs_from (suc k) n i j (omega arith) b (omega arith))
]

-- Each number is below all after it.
abbrev pub IsIncreasing : List ℕ → Type 0
IsIncreasing [] = Unit {0}
IsIncreasing (j ∷ js) = All (λ i. j < i) js × IsIncreasing js

-- A range is strictly ascending.
IsIncreasing-indices : (k n : ℕ) → IsIncreasing (indices k n)
IsIncreasing-indices k zero = tt
IsIncreasing-indices k (suc n) = (
  All-weaker (λ (j : ℕ). (suc k ≤ j) × (j < suc k + n)) (λ (j : ℕ). k < j) (λ j h. h.0) (indices (suc k) n)
      (All-indices_in_range (suc k) n),
  IsIncreasing-indices (suc k) n,
)

-- A pair is lexicographically less than another.
abbrev pub IsPairLess : ℕ × ℕ → ℕ × ℕ → Type 0
IsPairLess p q = (p.0 < q.0) ⊎ ((p.0 ≡ q.0) × (p.1 < q.1))

-- Each pair is less than all after it.
abbrev pub AreIncreasingPairs : List (ℕ × ℕ) → Type 0
AreIncreasingPairs [] = Unit {0}
AreIncreasingPairs (p ∷ ps) = All (IsPairLess p) ps × AreIncreasingPairs ps

-- If each pair is less than all after it, so is each of those that pass a test.
pub AreIncreasingPairs-filter : (p : ℕ × ℕ → Bool) (ps : List (ℕ × ℕ)) → AreIncreasingPairs ps → AreIncreasingPairs (filter p ps)
AreIncreasingPairs-filter p [] r = tt
AreIncreasingPairs-filter p (q ∷ ps) r = elim (cases_Bool (p q)) [
  | inl e ↦ rw e (All-filter p (IsPairLess q) ps r.0, AreIncreasingPairs-filter p ps r.1)
  | inr e ↦ rw e (AreIncreasingPairs-filter p ps r.1)
]

-- If each pair is less than all after it, the pairs are sorted.
pub AreIncreasingPairs-sorted : (ps : List (ℕ × ℕ)) → AreIncreasingPairs ps → AreSorted ps
AreIncreasingPairs-sorted (p ∷ q ∷ ps) (a, r) = (All-head (IsPairLess p) q ps a, AreIncreasingPairs-sorted (q ∷ ps) r)
AreIncreasingPairs-sorted _ r = tt

-- A row of k's pairs with ascending numbers, followed by strictly sorted pairs whose first numbers are above k, is strictly sorted.
AreIncreasingPairs-row : (k : ℕ) (js : List ℕ) (ps : List (ℕ × ℕ))
    → IsIncreasing js
    → All (λ p. k < p.0) ps
    → AreIncreasingPairs ps
    → AreIncreasingPairs (map (pair_with k) js ++ ps)
AreIncreasingPairs-row k [] ps m a r = r
AreIncreasingPairs-row k (j ∷ js) ps m a r = (
  All-append (IsPairLess (k, j)) (map (pair_with k) js) ps
      (All-map (IsPairLess (k, j)) (pair_with k) js
      (All-weaker (λ (i : ℕ). j < i) (λ (i : ℕ). IsPairLess (k, j) (k, i)) (λ i h. inr (refl, h)) js m.0))
      (All-weaker (λ (p : ℕ × ℕ). k < p.0) (IsPairLess (k, j)) (λ p h. inl h) ps a),
  AreIncreasingPairs-row k js ps m.1 a r,
)

-- The list of all pairs of a range is strictly sorted.
pub AreIncreasingPairs-pairs_from : (k n : ℕ) → AreIncreasingPairs (pairs_from k n)
AreIncreasingPairs-pairs_from k zero = tt
AreIncreasingPairs-pairs_from k (suc n) =
    AreIncreasingPairs-row k (indices (suc k) n) (pairs_from (suc k) n) (IsIncreasing-indices (suc k) n)
    (All-weaker (IsPairInRange (suc k) n) (λ (p : ℕ × ℕ). k < p.0) (λ p h. h.0) (pairs_from (suc k) n)
    (IsPairInRange-pairs_from (suc k) n)) (AreIncreasingPairs-pairs_from (suc k) n)
