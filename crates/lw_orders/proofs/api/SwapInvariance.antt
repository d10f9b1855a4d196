-- What swaps of adjacent independent items preserve; and such swaps connect trace-equivalent orders. So a test that swaps preserve, such as
-- a run's outcome in lw_finals, has one value on trace-equivalent orders.
use Rattle.lw_orders.proofs.Common.{ℕ, zero, suc, ◌≡◌, ◌<◌, List, [], ◌∷◌, ◌++◌, length, ◌∙◌, subst, refl}
use Rattle.lw_orders.proofs.Common.{Bool, inl, arith, length-append, nat_tests, Contains-append_left}
use Rattle.lw_orders.proofs.Common.{Contains-get_or, Constraints, index_in, Before, IsLinearExtension}
use Rattle.lw_orders.proofs.Common.{AreTraceEquivalent, AreAscending, AreDependent, IsAdjacentSwap}
use Rattle.lw_orders.proofs.Common.{AreConnectedBySwaps, AreConnected, IsSwapInvariant}
use Rattle.lw_orders.proofs.Exchanges.{SwapsTo, IsReachedBySwaps-trace_equivalent}

-- If i precedes j, and they are not the two swapped items, i precedes j after the swap.
Before-swap : (front rest : List ℕ) (x y i j : ℕ)
    → (i ≡ x → j ≡ y → ⊥)
    → Before (front ++ x ∷ y ∷ rest) i j
    → Before (front ++ y ∷ x ∷ rest) i j
Before-swap [] rest x y i j apart b = grind (arith, nat_tests)
Before-swap (z ∷ front) rest x y i j apart b = grind (arith, nat_tests, Before-swap front rest x y i j apart)

-- If i is in the list, it is in the list after a swap of adjacent items.
index_in-swap : (front rest : List ℕ) (x y i : ℕ)
    → index_in (front ++ x ∷ y ∷ rest) i < length (front ++ x ∷ y ∷ rest)
    → index_in (front ++ y ∷ x ∷ rest) i < length (front ++ y ∷ x ∷ rest)
index_in-swap [] rest x y i l = grind (arith, nat_tests)
index_in-swap (z ∷ front) rest x y i l = grind (arith, nat_tests, index_in-swap front rest x y i)

-- If x and y are independent, and adjacent in an order that respects the preserved pairs, the order with them swapped respects
-- these too.
IsLinearExtension-swap : (t : Constraints) (front rest : List ℕ) (x y : ℕ)
    → ¬ AreDependent t x y
    → IsLinearExtension t (front ++ x ∷ y ∷ rest)
    → IsLinearExtension t (front ++ y ∷ x ∷ rest)
IsLinearExtension-swap t front rest x y free ((long, there), keeps) =
    let same : length (front ++ y ∷ x ∷ rest) ≡ t.len =
    omega (arith, long, length-append front (x ∷ y ∷ rest), length-append front (y ∷ x ∷ rest)) in (
      (same, λ i l. omega (arith, same, index_in-swap front rest x y i (omega (arith, there i l, long)))),
      λ k d l.
          Before-swap front rest x y _ _
          (λ a b. free (rw (← a, ← b) (inl (Contains-append_left t.preserved t.conflicts _ (Contains-get_or t.preserved k d l)))))
          (keeps k d l),
    )

-- If n swaps of adjacent independent items turn xs, which respects the preserved pairs, into ys, then xs and ys are connected
-- by n swaps through orders that respect them.
AreConnectedBySwaps-of_swaps : (t : Constraints) (n : ℕ) (xs ys : List ℕ)
    → IsLinearExtension t xs
    → SwapsTo (AreDependent t) n xs ys
    → AreConnectedBySwaps t n xs ys
AreConnectedBySwaps-of_swaps t zero xs ys is_extension e = e
AreConnectedBySwaps-of_swaps t (suc n) xs ys is_extension (mid, e, j) =
    let on : IsLinearExtension t mid =
    rw e.new (IsLinearExtension-swap t e.front e.rest e.x e.y e.free (rw e.old at is_extension)) in
    (mid, e, on, AreConnectedBySwaps-of_swaps t n mid ys on j)

-- Trace-equivalent orders that respect the preserved pairs are connected by swaps of adjacent independent items.
pub trace_equivalent_orders_are_connected : (t : Constraints)
    → AreAscending t.len t.conflicts
    → (xs ys : List ℕ)
    → IsLinearExtension t xs
    → IsLinearExtension t ys
    → AreTraceEquivalent t.conflicts xs ys
    → AreConnected t xs ys
trace_equivalent_orders_are_connected t up xs ys (ox, kx) (oy, ky) alike =
    let (n, steps) = IsReachedBySwaps-trace_equivalent t up xs ys ox oy kx ky alike in
    (n, AreConnectedBySwaps-of_swaps t n xs ys (ox, kx) steps)

-- If every swap preserves P, and two orders are connected by swaps, then P holds of the second if it holds of the first.
pub preserved-by_swaps : (t : Constraints) (P : List ℕ → Type 0)
    → ((xs ys : List ℕ) → IsLinearExtension t xs → IsLinearExtension t ys → IsAdjacentSwap (AreDependent t) xs ys → P xs → P ys)
    → (xs ys : List ℕ)
    → IsLinearExtension t xs
    → AreConnected t xs ys
    → P xs
    → P ys
preserved-by_swaps t P step xs ys is_extension joined = preserved-by_count joined.0 xs is_extension joined.1
  where
    -- By the number of swaps.
    preserved-by_count : (n : ℕ) (xs : List ℕ) → IsLinearExtension t xs → AreConnectedBySwaps t n xs ys → P xs → P ys
    preserved-by_count zero xs is_extension e p = subst P e p
    preserved-by_count (suc n) xs is_extension (mid, e, m, j) p = preserved-by_count n mid m j (step xs mid is_extension m e p)

-- A test that every swap preserves has the same value on trace-equivalent orders.
pub trace_equivalent_orders_agree : (t : Constraints)
    → AreAscending t.len t.conflicts
    → (test : List ℕ → Bool)
    → IsSwapInvariant t test
    → (xs ys : List ℕ)
    → IsLinearExtension t xs
    → IsLinearExtension t ys
    → AreTraceEquivalent t.conflicts xs ys
    → test xs ≡ test ys
trace_equivalent_orders_agree t up test kept xs ys ix iy alike =
    let joined = trace_equivalent_orders_are_connected t up xs ys ix iy alike in
    preserved-by_swaps t (λ zs. test xs ≡ test zs) (λ us vs iu iv e same. same ∙ kept us vs iu iv e) xs ys ix joined refl
