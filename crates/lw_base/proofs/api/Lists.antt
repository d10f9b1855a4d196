-- Items of a list by their indices. Proofs of nearly all crates use this.
use Rattle.lw_base.proofs.Common.{◌≡◌, ◌≢◌, ℕ, zero, suc, ◌<◌, ◌≤◌, Some, ◌⊎◌, inl, inr, ⊎_elim, List, []}
use Rattle.lw_base.proofs.Common.{◌∷◌, ◌++◌, length, take, drop, refl, sym, ap, ◌∙◌, subst, arith, slice_get}
use Rattle.lw_base.proofs.Common.{slice_set, set-get_or, cases_eq, same_Some, get_or_from_slice_get, Option}
use Rattle.lw_base.proofs.Common.{None, set_word_if_some, length-set}
-- The item at an index in range.
pub use Rattle.std.proofs.lemmas.Option.{slice_get-get_or as at_index}

-- If the first items of two lists differ, the lists differ.
pub not-cons_eq-if_heads_differ : {X : Type 0} (a b : X) (u v : List X) → (a ≡ b → ⊥) → a ∷ u ≡ b ∷ v → ⊥
not-cons_eq-if_heads_differ a b u v differ same = differ cc

-- If two lists are equal, their first items are equal.
pub cons-head_eq : {X : Type 0} (a b : X) (u v : List X) → a ∷ u ≡ b ∷ v → a ≡ b
cons-head_eq a b u v same = cc

-- If a list has the item x at index k, the list is its first k items, then x, then its items after k.
pub take_drop-at : {X : Type 0} (xs : List X) (k : ℕ) (x : X) → slice_get xs k ≡ Some x → xs ≡ take k xs ++ x ∷ drop (suc k) xs
take_drop-at [] k x e = absurd cc
take_drop-at {X} (y ∷ xs) zero x e = let f : y ≡ x = cc in ap (λ (z : X). z ∷ xs) f
take_drop-at {X} (y ∷ xs) (suc k) x e = ap (λ (zs : List X). y ∷ zs) (take_drop-at xs k x e)

-- If a list has the item x at index k, its rest from k on is x and then its items after k.
pub drop-cons_at : {X : Type 0} (xs : List X) (k : ℕ) (x : X) → slice_get xs k ≡ Some x → drop k xs ≡ x ∷ drop (suc k) xs
drop-cons_at [] k x e = absurd cc
drop-cons_at {X} (y ∷ xs) zero x e = let f : y ≡ x = cc in ap (λ (z : X). z ∷ xs) f
drop-cons_at (y ∷ xs) (suc k) x e = drop-cons_at xs k x e

-- If n is at least a list's length, nothing remains of the list after its first n items.
pub drop-past_end : {X : Type 0} (xs : List X) (n : ℕ) → length xs ≤ n → drop n xs ≡ []
drop-past_end [] zero le = refl
drop-past_end [] (suc n) le = refl
drop-past_end (x ∷ xs) zero le = absurd (omega (arith, le))
drop-past_end (x ∷ xs) (suc n) le = drop-past_end xs n (omega (arith, le))

-- If an index is in range, the list has an item there.
pub slice_get-in_range : {X : Type 0} (xs : List X) (k : ℕ) → k < length xs → (x : X) × (slice_get xs k ≡ Some x)
slice_get-in_range [] k lt = absurd (omega arith)
slice_get-in_range (x ∷ xs) zero lt = (x, refl)
slice_get-in_range (x ∷ xs) (suc k) lt = slice_get-in_range xs k (omega (arith, lt))

-- If a list has the item x at index k, its first k + 1 items are its first k items and then x.
pub take-suc : {X : Type 0} (xs : List X) (k : ℕ) (x : X) → slice_get xs k ≡ Some x → take (suc k) xs ≡ take k xs ++ x ∷ []
take-suc [] k x e = absurd cc
take-suc {X} (y ∷ xs) zero x e = let f : y ≡ x = cc in ap (λ (z : X). z ∷ []) f
take-suc {X} (y ∷ xs) (suc k) x e = ap (λ (zs : List X). y ∷ zs) (take-suc xs k x e)

-- An item of a list xs with y appended is an item of xs, at the same index, or it is y, and the index is the length of xs.
pub slice_get-append_cases : {X : Type 0} (xs : List X) (y z : X) (k : ℕ)
    → slice_get (xs ++ y ∷ []) k ≡ Some z
    → (slice_get xs k ≡ Some z) ⊎ ((k ≡ length xs) × (y ≡ z))
slice_get-append_cases [] y z zero e = inr (refl, cc)
slice_get-append_cases [] y z (suc k) e = absurd cc
slice_get-append_cases (x ∷ xs) y z zero e = inl e
slice_get-append_cases {X} (x ∷ xs) y z (suc k) e = go (slice_get-append_cases xs y z k e)
  where
    -- By the cases of the tail, with each index increased by one.
    go : (slice_get xs k ≡ Some z) ⊎ ((k ≡ length xs) × (y ≡ z))
        → (slice_get (x ∷ xs) (suc k) ≡ Some z) ⊎ ((suc k ≡ length (x ∷ xs)) × (y ≡ z))
    go (inl f) = inl f
    go (inr f) = inr (ap suc f.0, f.1)

-- In the list xs ++ y ∷ ys the item at the index that is the length of xs is y.
pub slice_get-append_middle : {X : Type 0} (xs : List X) (y : X) (ys : List X) (k : ℕ)
    → k ≡ length xs
    → slice_get (xs ++ y ∷ ys) k ≡ Some y
slice_get-append_middle {X} [] y ys k e = ap (slice_get (y ∷ ys)) e
slice_get-append_middle (x ∷ xs) y ys zero e = absurd (omega (arith, e))
slice_get-append_middle (x ∷ xs) y ys (suc k) e = slice_get-append_middle xs y ys k (omega (arith, e))

-- If a list has an item at index i, then x is at i after it is set there.
pub slice_get-slice_set_same : {A : Type 0}
    → (xs : List A) (i : ℕ) (x y : A)
    → slice_get xs i ≡ Some y
    → slice_get (slice_set xs i x) i ≡ Some x
slice_get-slice_set_same [] i x y e = absurd cc
slice_get-slice_set_same (z ∷ xs) zero x y e = refl
slice_get-slice_set_same (z ∷ xs) (suc i) x y e = slice_get-slice_set_same xs i x y e

-- Setting an item at i leaves the item at every other index j unchanged.
pub slice_get-slice_set_other : {A : Type 0}
    → (xs : List A) (i j : ℕ) (x : A)
    → i ≢ j
    → slice_get (slice_set xs i x) j ≡ slice_get xs j
slice_get-slice_set_other (z ∷ xs) zero zero x ne = absurd (ne refl)
slice_get-slice_set_other (z ∷ xs) (suc i) (suc j) x ne = slice_get-slice_set_other xs i j x (λ e. ne (ap suc e))
slice_get-slice_set_other _ _ _ x ne = refl

-- If x is the item at index i already, setting it there leaves the list unchanged.
pub set-get_same : {X : Type 0} (xs : List X) (i : ℕ) (x : X) → slice_get xs i ≡ Some x → slice_set xs i x ≡ xs
set-get_same xs i x at = ap (slice_set xs i) (sym (get_or_from_slice_get xs i x x at)) ∙ set-get_or xs i x

-- The property P holds of each index of a list, with its item.
abbrev pub AtEach : {X : Type 0} → (ℕ → X → Type 0) → List X → Type 0
AtEach {X} P xs = (u : ℕ) (y : X) → slice_get xs u ≡ Some y → P u y

-- If P holds of each index with its item, and of an index i in range with x, then it holds of each index with its item after x
-- is set at i.
pub AtEach-set : {X : Type 0} (P : ℕ → X → Type 0) (xs : List X) (i : ℕ) (x : X)
    → i < length xs
    → AtEach P xs
    → P i x
    → AtEach P (slice_set xs i x)
AtEach-set P xs i x within before here u y at = go (cases_eq u i)
  where
    -- By whether the index u is the one that was set.
    go : (u ≡ i) ⊎ (u ≡ i → ⊥) → P u y
    go (inl e) =
        let there : slice_get (slice_set xs i x) u ≡ Some x =
        ap (slice_get (slice_set xs i x)) e
        ∙ slice_get-slice_set_same xs i x (slice_get-in_range xs i within).0 (slice_get-in_range xs i within).1 in
        let same : x ≡ y = cc in
        subst (λ (k : ℕ). P k y) (sym e) (subst (P i) same here)
    go (inr other) = before u y (sym (slice_get-slice_set_other xs i u x (λ e. other (sym e))) ∙ at)

-- The property P holds of each index of two lists, with their items.
abbrev pub OfFellows : {X Y : Type 0} → (ℕ → X → Y → Type 0) → List X → List Y → Type 0
OfFellows {X} {Y} P xs ys = (u : ℕ) (a : X) (b : Y) → slice_get xs u ≡ Some a → slice_get ys u ≡ Some b → P u a b

-- Items of two lists are fellows: they are at the same index.
pub record AreFellows {X Y : Type 0} (xs : List X) (ys : List Y) (t : ℕ) (a : X) (b : Y) : Type 0 where
  pub left : slice_get xs t ≡ Some a
  pub right : slice_get ys t ≡ Some b

-- If two lists have items at index t, P holds of the items of both at every other index, and P holds of t with x and y, then P
-- holds at every index after x and y are set at t.
pub OfFellows-set_both : {X Y : Type 0} {old : X} {was : Y} (P : ℕ → X → Y → Type 0) (xs : List X) (ys : List Y) (t : ℕ) (x : X)
    (y : Y)
    → AreFellows xs ys t old was
    → OfFellows (λ u a b. t ≢ u → P u a b) xs ys
    → P t x y
    → OfFellows P (slice_set xs t x) (slice_set ys t y)
OfFellows-set_both {X} {Y} {old} {was} P xs ys t x y fellows others now u a b e f =
    ⊎_elim here
    (λ ne. others u a b (sym (slice_get-slice_set_other xs t u x ne) ∙ e) (sym (slice_get-slice_set_other ys t u y ne) ∙ f) ne)
    (cases_eq t u)
  where
    -- At the index t the items are x and y.
    here : t ≡ u → P u a b
    here same =
        let left : x ≡ a =
        same_Some x a
        (sym (slice_get-slice_set_same xs t x old fellows.left) ∙ ap (λ (k : ℕ). slice_get (slice_set xs t x) k) same ∙ e) in
        let right : y ≡ b =
        same_Some y b
        (sym (slice_get-slice_set_same ys t y was fellows.right) ∙ ap (λ (k : ℕ). slice_get (slice_set ys t y) k) same ∙ f) in
        subst (λ k. P k a b) same (subst (λ (c : X). P t c b) left (subst (λ (d : Y). P t x d) right now))

-- Setting the word of a register, or of none, preserves the number of registers.
pub length-set_word_if_some : (regs : List ℕ) (d : Option ℕ) (w : ℕ) → length (set_word_if_some regs d w) ≡ length regs
length-set_word_if_some regs None w = refl
length-set_word_if_some regs (Some d) w = length-set regs d w
