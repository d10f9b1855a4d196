-- The maximum of two numbers, as the code computes it. The longest prefix that some form accepts, and the longest thread of a printed test,
-- are such maxima.
use Rattle.lw_statements.proofs.Common.{◌≡◌, ℕ, ◌<◌, ◌≤◌, max, Bool, true, false, refl, arith, eqb, ltb}
use Rattle.lw_statements.proofs.Common.{ltb-true, ltb-false, nat_cmp, ord_max}

-- The code's `max` of two numbers is their maximum.
pub ord_max-is_max : (a b : ℕ) → ord_max nat_cmp a b ≡ max a b
ord_max-is_max a b = go (ltb b a) (eqb b a) refl refl
  where
    -- By the comparisons of the two numbers.
    go : (t u : Bool) → ltb b a ≡ t → eqb b a ≡ u → ord_max nat_cmp a b ≡ max a b
    go true u e f = rw e (let lt : b < a = ltb-true b a e in omega arith)
    go false true e f = rw (e, f) (let le : a ≤ b = ltb-false b a e in omega arith)
    go false false e f = rw (e, f) (let le : a ≤ b = ltb-false b a e in omega arith)
