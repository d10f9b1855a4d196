-- Swaps of adjacent items that neither conflict nor are preserved.
use Rattle.std.specs.Prelude.{ℕ, suc, zero, ◌≡◌, Bool, List, ◌∷◌, ◌++◌, Contains, ◌⊎◌}
use Rattle.lw_orders.specs.Order.{Constraints, IsLinearExtension}

-- The two items are a preserved pair or a conflict, in either order.
abbrev pub AreDependent : Constraints → ℕ → ℕ → Type 0
AreDependent t i j = Contains (t.preserved ++ t.conflicts) (i, j) ⊎ Contains (t.preserved ++ t.conflicts) (j, i)

-- The list ys is xs with two adjacent items that are not dependent swapped.
pub record IsAdjacentSwap (Dependent : ℕ → ℕ → Type 0) (xs ys : List ℕ) : Type 0 where
  pub front : List ℕ
  pub x : ℕ
  pub y : ℕ
  pub rest : List ℕ
  pub old : xs ≡ front ++ x ∷ y ∷ rest
  pub new : ys ≡ front ++ y ∷ x ∷ rest
  pub free : ¬ Dependent x y

-- The lists xs and ys are connected by n swaps of adjacent independent items, through orders that respect the preserved pairs.
abbrev pub AreConnectedBySwaps : Constraints → ℕ → List ℕ → List ℕ → Type 0
AreConnectedBySwaps t zero xs ys = xs ≡ ys
AreConnectedBySwaps t (suc n) xs ys = (mid : List ℕ) × IsAdjacentSwap (AreDependent t) xs mid × IsLinearExtension t mid × AreConnectedBySwaps t n mid ys

-- The lists xs and ys are connected by some number of such swaps.
abbrev pub AreConnected : Constraints → List ℕ → List ℕ → Type 0
AreConnected t xs ys = (n : ℕ) × AreConnectedBySwaps t n xs ys

-- The test has the same value on linear extensions that differ by one swap of adjacent independent items.
abbrev pub IsSwapInvariant : Constraints → (List ℕ → Bool) → Type 0
IsSwapInvariant t test =
    (xs ys : List ℕ) → IsLinearExtension t xs → IsLinearExtension t ys → IsAdjacentSwap (AreDependent t) xs ys → test xs ≡ test ys
