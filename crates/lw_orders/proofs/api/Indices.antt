-- Indices of items in a list, in the list without one of them, in a range of numbers, and in an order. The
-- basis of all proofs about orders, which are lists in which each item has one index.
use Rattle.lw_orders.proofs.Common.{ℕ, zero, suc, ◌≡◌, ◌+◌, ◌<◌, ◌≤◌, List, [], ◌∷◌, ◌++◌, length, eqb, ap}
use Rattle.lw_orders.proofs.Common.{sym, subst, refl, inl, inr, arith, eq-eqb, ne_eqb, All, get_or}
use Rattle.lw_orders.proofs.Common.{length-append, cond-true, cond-false, cases_eq, cases_lt, nat_tests}
use Rattle.lw_orders.proofs.Common.{All-head, All-tail, index_in, Before, AreDistinct, IsOrder, without}
use Rattle.lw_orders.proofs.Common.{indices}

-- If the first item is i, the index of i is 0.
pub index_in-same : (x : ℕ) (xs : List ℕ) (i : ℕ) → x ≡ i → index_in (x ∷ xs) i ≡ 0
index_in-same x xs i e = cond-true (eqb x i) 0 (suc (index_in xs i)) (eq-eqb x i e)

-- If the first item is not i, the index of i is one greater than in the tail.
pub index_in-other : (x : ℕ) (xs : List ℕ) (i : ℕ) → (x ≡ i → ⊥) → index_in (x ∷ xs) i ≡ suc (index_in xs i)
index_in-other x xs i ne = cond-false (eqb x i) 0 (suc (index_in xs i)) (ne_eqb x i ne)

-- If i is in the list, and j has the same index, they are equal.
pub index_in-injective : (xs : List ℕ) (i j : ℕ) → index_in xs i ≡ index_in xs j → index_in xs i < length xs → i ≡ j
index_in-injective [] i j e l = absurd (omega arith)
index_in-injective (x ∷ xs) i j e l = grind (arith, nat_tests, index_in-injective xs i j)

-- Removing an item that is in the list makes it one shorter.
pub length-without : (xs : List ℕ) (y : ℕ) → index_in xs y < length xs → suc (length (without xs y)) ≡ length xs
length-without [] y l = absurd (omega arith)
length-without (x ∷ xs) y l = grind (arith, nat_tests, length-without xs y)

-- If i precedes j in the list without y, and neither is y, then i precedes j in the list.
pub Before-of_without : (xs : List ℕ) (y i j : ℕ) → (y ≡ i → ⊥) → (y ≡ j → ⊥) → Before (without xs y) i j → Before xs i j
Before-of_without [] y i j ni nj b = b
Before-of_without (x ∷ xs) y i j ni nj b = grind (arith, nat_tests, Before-of_without xs y i j ni nj)

-- An item of the list without y is in the list.
pub index_in-of_without : (xs : List ℕ) (y i : ℕ) → index_in (without xs y) i < length (without xs y) → index_in xs i < length xs
index_in-of_without [] y i l = l
index_in-of_without (x ∷ xs) y i l = grind (arith, nat_tests, index_in-of_without xs y i)

-- An item of the list other than y is in the list without y.
pub index_in-without : (xs : List ℕ) (y i : ℕ)
    → (i ≡ y → ⊥)
    → index_in xs i < length xs
    → index_in (without xs y) i < length (without xs y)
index_in-without [] y i ne l = l
index_in-without (x ∷ xs) y i ne l = grind (arith, nat_tests, index_in-without xs y i)

-- If a list has no duplicates, neither has the list without y.
pub AreDistinct-without : (xs : List ℕ) (y : ℕ) → AreDistinct xs → AreDistinct (without xs y)
AreDistinct-without [] y o = tt
AreDistinct-without (x ∷ xs) y o = grind (arith, nat_tests, AreDistinct-without xs y o.1, index_in-of_without xs y x)

-- If a list has no duplicates, y is not in the list without y.
pub not_in-without : (xs : List ℕ) (y : ℕ) → AreDistinct xs → length (without xs y) ≤ index_in (without xs y) y
not_in-without [] y o = omega arith
not_in-without (x ∷ xs) y o = grind (arith, nat_tests, not_in-without xs y o.1)

-- Removing an item makes a list at most one shorter.
pub length-without_le : (xs : List ℕ) (y : ℕ) → length xs ≤ suc (length (without xs y))
length-without_le [] y = omega arith
length-without_le (x ∷ xs) y = grind (arith, nat_tests, length-without_le xs y)

-- If xs contains all of some distinct items, it is at least as long as the list of these.
pub length_le-if_distinct : (some xs : List ℕ)
    → AreDistinct some
    → ((i : ℕ) → index_in some i < length some → index_in xs i < length xs)
    → length some ≤ length xs
length_le-if_distinct [] xs o f = omega arith
length_le-if_distinct (s ∷ some) xs o f =
    let rest : length some ≤ length (without xs s) = length_le-if_distinct some (without xs s) o.1 (λ i l.
    let ne : i ≡ s → ⊥ = λ e. omega (arith, o.0, rw e at l) in
    index_in-without xs s i ne (f i (omega (arith, index_in-other s some i (λ e. ne (sym e)))))) in
    omega (arith, length-without xs s (f s (omega (arith, index_in-same s some s refl))))

-- If xs contains all of some distinct items, and is no longer than the list of these, it has no duplicates.
pub AreDistinct-from_room : (xs some : List ℕ)
    → AreDistinct some
    → ((i : ℕ) → index_in some i < length some → index_in xs i < length xs)
    → length xs ≤ length some
    → AreDistinct xs
AreDistinct-from_room [] some o f l = tt
AreDistinct-from_room (x ∷ xs) some o f l =
    let f' : (i : ℕ) → (i ≡ x → ⊥) → index_in some i < length some → index_in xs i < length xs =
    λ i ne p. omega (arith, f i p, index_in-other x xs i (λ e. ne (sym e))) in
    let gone : length xs ≤ index_in xs x = elim (cases_lt (index_in xs x) (length xs)) [
      | inl twice ↦
          (let all : length some ≤ length xs =
          length_le-if_distinct some xs o (λ i p. elim (cases_eq i x) [ inl e ↦ rw e twice | inr ne ↦ f' i ne p ]) in
          absurd (omega arith))
      | inr h ↦ h
    ] in (
      gone,
      AreDistinct-from_room xs (without some x) (AreDistinct-without some x o)
          (λ i p. f' i (λ e. omega (arith, not_in-without some x o, rw e at p)) (index_in-of_without some x i p))
          (omega (arith, length-without_le some x)),
    )

-- Each number from k up to `k + n` is in the range.
pub index_in-indices : (k n i : ℕ) → k ≤ i → i < k + n → index_in (indices k n) i < length (indices k n)
index_in-indices k zero i a b = absurd (omega arith)
index_in-indices k (suc n) i a b = grind (arith, nat_tests, index_in-indices (suc k) n i)

-- Only the numbers from k up to `k + n` are in the range.
pub index_in-indices_within : (k n i : ℕ) → index_in (indices k n) i < length (indices k n) → (k ≤ i) × (i < k + n)
index_in-indices_within k zero i l = absurd (omega arith)
index_in-indices_within k (suc n) i l = grind (arith, nat_tests, index_in-indices_within (suc k) n i)

-- If a number is in the range from 0 to n, it is below n.
pub lt-of_index_in_indices : (n i : ℕ) → index_in (indices 0 n) i < length (indices 0 n) → i < n
lt-of_index_in_indices n i l = omega (arith, index_in-indices_within 0 n i l)

-- The range from k has n numbers.
pub length-indices : (k n : ℕ) → length (indices k n) ≡ n
length-indices k zero = refl
length-indices k (suc n) = ap suc (length-indices (suc k) n)

-- The range from k has no duplicates.
pub AreDistinct-indices : (k n : ℕ) → AreDistinct (indices k n)
AreDistinct-indices k zero = tt
AreDistinct-indices k (suc n) = grind (arith, AreDistinct-indices (suc k) n, index_in-indices_within (suc k) n k)

-- An order has no duplicates.
pub AreDistinct-order : (n : ℕ) (xs : List ℕ) → IsOrder n xs → AreDistinct xs
AreDistinct-order n xs o =
    AreDistinct-from_room xs (indices 0 n) (AreDistinct-indices 0 n)
    (λ i l. omega (arith, o.1 i (lt-of_index_in_indices n i l), o.0)) (omega (arith, o.0, length-indices 0 n))

-- An order of n items contains only these.
pub IsOrder-item_below : (n : ℕ) (xs : List ℕ) → IsOrder n xs → (i : ℕ) → index_in xs i < length xs → i < n
IsOrder-item_below n xs o i l = elim (cases_lt i n) [
  | inl h ↦ h
  | inr h ↦
      (let all =
      length_le-if_distinct (indices 0 n) (without xs i) (AreDistinct-indices 0 n)
      (λ j p.
      index_in-without xs i j (λ e. omega (arith, lt-of_index_in_indices n j p))
      (omega (arith, o.1 j (lt-of_index_in_indices n j p), o.0))) in
      absurd (omega (arith, length-indices 0 n, length-without xs i l, o.0)))
]

-- The index of an item after `front` is at most the length of `front`.
index_in-append_le : (front rest : List ℕ) (i : ℕ) → index_in (front ++ i ∷ rest) i ≤ length front
index_in-append_le [] rest i = omega (arith, index_in-same i rest i refl)
index_in-append_le (x ∷ front) rest i = grind (arith, nat_tests, index_in-append_le front rest i)

-- If a list has no duplicates, the index of the item after `front` is the length of `front`.
index_in-split : (front rest : List ℕ) (i : ℕ) → AreDistinct (front ++ i ∷ rest) → index_in (front ++ i ∷ rest) i ≡ length front
index_in-split [] rest i o = index_in-same i rest i refl
index_in-split (x ∷ front) rest i o =
    grind (arith, nat_tests, index_in-split front rest i o.1, index_in-append_le front rest i, length-append front (i ∷ rest))

-- In an order, the index of an item after `front` is the length of `front`.
pub index_in-order_split : (n i : ℕ) (front rest : List ℕ)
    → IsOrder n (front ++ i ∷ rest)
    → (i < n) × (index_in (front ++ i ∷ rest) i ≡ length front)
index_in-order_split n i front rest o = (
  IsOrder-item_below n _ o i (omega (arith, index_in-append_le front rest i, length-append front (i ∷ rest))),
  index_in-split front rest i (AreDistinct-order n (front ++ i ∷ rest) o),
)

-- If P holds of every item of a list, it holds of each item that is in it.
pub All-index_in : (P : ℕ → Type 0) (xs : List ℕ) (i : ℕ) → All P xs → index_in xs i < length xs → P i
All-index_in P [] i all l = absurd (omega arith)
All-index_in P (x ∷ xs) i all l = elim (cases_eq x i) [
  | inl e ↦ subst P e (All-head P x xs all)
  | inr ne ↦ All-index_in P xs i (All-tail P x xs all) (omega (arith, index_in-other x xs i ne))
]

-- A list without duplicates that contains exactly the items below n is an order.
pub IsOrder-of_distinct : (n : ℕ) (xs : List ℕ)
    → All (λ i. i < n) xs
    → AreDistinct xs
    → ((i : ℕ) → i < n → index_in xs i < length xs)
    → IsOrder n xs
IsOrder-of_distinct n xs below once there =
    let least =
    length_le-if_distinct (indices 0 n) xs (AreDistinct-indices 0 n) (λ i l. there i (lt-of_index_in_indices n i l)) in
    let most =
    length_le-if_distinct xs (indices 0 n) once
    (λ i l. index_in-indices 0 n i (omega arith) (omega (arith, All-index_in (λ i. i < n) xs i below l))) in
    let long : length xs ≡ n = omega (arith, length-indices 0 n, least, most) in
    (long, λ i l. omega (arith, there i l, long))

-- The index of an item read at k is at most k.
index_in_le_index : (xs : List ℕ) (k d : ℕ) → k < length xs → index_in xs (get_or xs k d) ≤ k
index_in_le_index [] k d in_range = absurd (omega arith)
index_in_le_index (x ∷ xs) zero d in_range = omega (arith, index_in-same x xs x refl)
index_in_le_index (x ∷ xs) (suc k) d in_range = grind (arith, nat_tests, index_in_le_index xs k d)

-- Each item of an order is below n.
pub IsOrder-all_below : (n : ℕ) (xs : List ℕ) → IsOrder n xs → All (λ i. i < n) xs
IsOrder-all_below n xs o k d l = IsOrder-item_below n xs o (get_or xs k d) (omega (arith, index_in_le_index xs k d l))
