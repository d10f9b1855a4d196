-- If every pair is ascending, the lowest order lists the items from 0 up. So items without unordered
-- conflicts need no search.
use Rattle.lw_orders.proofs.Common.{ℕ, zero, suc, ◌≡◌, ◌+◌, ◌<◌, List, [], ◌∷◌, ◌++◌, ap, ◌∙◌, refl, arith}
use Rattle.lw_orders.proofs.Common.{true, Some, find, filter_map, append-nil, eq-eqb, cons_option, cond-true}
use Rattle.lw_orders.proofs.Common.{All-weaker, Constraints, AreAscending, unordered_conflicts, orientations}
use Rattle.lw_orders.proofs.Common.{indices, without, is_minimal, greedy_order, lowest_order, orders}
use Rattle.lw_orders.proofs.api.Indices.{index_in-indices_within}
use Rattle.lw_orders.proofs.LowestOrder.{Ranks, is_minimal-least_rank}

-- If every pair is ascending, the greedy order of the n items from k up lists them from k up.
pub greedy_order-ascending : (pairs : List (ℕ × ℕ))
    → Ranks (λ i. i) pairs
    → (n k : ℕ)
    → greedy_order n pairs (indices k n) ≡ Some (indices k n)
greedy_order-ascending pairs up zero k = refl
greedy_order-ascending pairs up (suc n) k =
    let free : is_minimal pairs (indices k (suc n)) k ≡ true =
    is_minimal-least_rank (λ i. i) (indices k (suc n)) k (λ i l. (index_in-indices_within k (suc n) i l).0) pairs up in
    let first : find (is_minimal pairs (indices k (suc n))) (indices k (suc n)) ≡ Some k =
    cond-true (is_minimal pairs (indices k (suc n)) k) (Some k) _ free in
    let rest : without (indices k (suc n)) k ≡ indices (suc k) n = rw (eq-eqb k k refl) refl in
    rw first (rw rest (rw (greedy_order-ascending pairs up n (suc k)) refl))

-- If every preserved pair is ascending and no conflict is unordered, the only order lists the items from 0 up.
pub orders-of_ascending : (t : Constraints)
    → AreAscending t.len t.preserved
    → unordered_conflicts t ≡ []
    → orders t ≡ indices 0 t.len ∷ []
orders-of_ascending t up is_nil =
    let one : lowest_order t.len (t.preserved ++ []) ≡ Some (indices 0 t.len) =
    ap (lowest_order t.len) (append-nil t.preserved)
    ∙ greedy_order-ascending t.preserved
    (All-weaker (λ p. (p.0 < p.1) × (p.1 < t.len)) (λ p. p.0 < p.1) (λ p h. h.0) t.preserved up) t.len 0 in
    ap (λ ps. filter_map (λ ds. lowest_order t.len (t.preserved ++ ds)) (orientations ps)) is_nil ∙ ap (λ o. cons_option o []) one

-- The `n + 1` numbers from k up are the first n of them, followed by `k + n`.
indices-from_suc : (k n : ℕ) → indices k (suc n) ≡ indices k n ++ (k + n) ∷ []
indices-from_suc k zero = ap (λ i. i ∷ []) (let e : k ≡ k + 0 = omega arith in e)
indices-from_suc k (suc n) =
    ap (λ xs. k ∷ xs)
    (indices-from_suc (suc k) n ∙ ap (λ i. indices (suc k) n ++ i ∷ []) (let e : suc k + n ≡ k + suc n = omega arith in e))

-- The numbers below n + 1 are those below n, followed by n.
pub indices-suc : (n : ℕ) → indices 0 (n + 1) ≡ indices 0 n ++ n ∷ []
indices-suc n =
    ap (indices 0) (let e : n + 1 ≡ suc n = omega arith in e)
    ∙ (indices-from_suc 0 n ∙ ap (λ i. indices 0 n ++ i ∷ []) (let e : 0 + n ≡ n = omega arith in e))
