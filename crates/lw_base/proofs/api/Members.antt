-- Membership in lists: in the empty list, and in a list with one more item at its head. What the crates above
-- use of membership.
use Rattle.lw_base.proofs.Common.{◌≡◌, zero, suc, ◌⊎◌, inl, inr, List, [], ◌∷◌, arith, Contains}

-- The empty list has no member.
pub not-Contains-nil : {X : Type 0} (x : X) → Contains [] x → ⊥
not-Contains-nil x (k, l, e) = absurd (omega arith)

-- A list contains its head.
pub Contains-head : {X : Type 0} (x y : X) (xs : List X) → x ≡ y → Contains (x ∷ xs) y
Contains-head x y xs e = (0, omega arith, e)

-- A member of the tail is a member of the list.
pub Contains-tail : {X : Type 0} (x y : X) (xs : List X) → Contains xs y → Contains (x ∷ xs) y
Contains-tail x y xs (k, l, e) = (suc k, omega arith, e)

-- A member of a list is its head or a member of its tail.
pub Contains-cons : {X : Type 0} (x y : X) (xs : List X) → Contains (x ∷ xs) y → (x ≡ y) ⊎ Contains xs y
Contains-cons x y xs (zero, l, e) = inl e
Contains-cons x y xs (suc k, l, e) = inr (k, omega arith, e)
