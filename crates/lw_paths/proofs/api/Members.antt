-- Membership in singletons, in a `map` and in a `flat_map`. The lemmas of `lw_base` about membership are exported again.
use Rattle.lw_paths.proofs.Common.{◌≡◌, List, [], ◌∷◌, map, refl, sym, ap, subst, inl, inr, arith, Contains}
use Rattle.lw_paths.proofs.Common.{flat_map, Contains-append_left, Contains-append_right}
use Rattle.lw_paths.proofs.Common.{Contains-append_cases}
pub use Rattle.lw_base.proofs.api.Members.{not-Contains-nil, Contains-head, Contains-tail, Contains-cons}

-- If a singleton contains y, then y is its element.
pub Contains-singleton : {X : Type 0} (x y : X) → Contains (x ∷ []) y → y ≡ x
Contains-singleton x y is_member =
    elim (Contains-cons x y [] is_member) [ inl is_head ↦ sym is_head | inr in_tail ↦ absurd (not-Contains-nil y in_tail) ]

-- If a list contains x, the list of images contains the image of x.
pub Contains-map : {X Y : Type 0} (f : X → Y) (xs : List X) (x : X) → Contains xs x → Contains (map f xs) (f x)
Contains-map f [] x (k, l, e) = absurd (omega arith)
Contains-map f (z ∷ xs) x is_member = elim (Contains-cons z x xs is_member) [
  | inl is_head ↦ Contains-head (f z) (f x) (map f xs) (ap f is_head)
  | inr in_tail ↦ Contains-tail (f z) (f x) (map f xs) (Contains-map f xs x in_tail)
]

-- If a list of images contains y, the list contains an element whose image is y.
pub Contains-map_inv : {X Y : Type 0} (f : X → Y) (xs : List X) (y : Y)
    → Contains (map f xs) y
    → (x : X) × Contains xs x × (f x ≡ y)
Contains-map_inv f [] y (k, l, e) = absurd (omega arith)
Contains-map_inv f (z ∷ xs) y is_member = elim (Contains-cons (f z) y (map f xs) is_member) [
  | inl is_head ↦ (z, Contains-head z z xs refl, is_head)
  | inr in_tail ↦ (let g = Contains-map_inv f xs y in_tail in (g.0, Contains-tail z g.0 xs g.1, g.2))
]

-- If xs contains x, and the list of x contains y, the `flat_map` contains y.
pub Contains-flat_map : {X Y : Type 0} (f : X → List Y) (xs : List X) (x : X) (y : Y)
    → Contains xs x
    → Contains (f x) y
    → Contains (flat_map f xs) y
Contains-flat_map f [] x y (k, l, e) is_member = absurd (omega arith)
Contains-flat_map f (z ∷ xs) x y is_member h = elim (Contains-cons z x xs is_member) [
  | inl is_head ↦ Contains-append_left (f z) (flat_map f xs) y (subst (λ w. Contains (f w) y) (sym is_head) h)
  | inr in_tail ↦ Contains-append_right (f z) (flat_map f xs) y (Contains-flat_map f xs x y in_tail h)
]

-- If the `flat_map` contains y, the list of some element of xs contains y.
pub Contains-flat_map_inv : {X Y : Type 0} (f : X → List Y) (xs : List X) (y : Y)
    → Contains (flat_map f xs) y
    → (x : X) × Contains xs x × Contains (f x) y
Contains-flat_map_inv f [] y (k, l, e) = absurd (omega arith)
Contains-flat_map_inv f (z ∷ xs) y is_member = elim (Contains-append_cases (f z) (flat_map f xs) y is_member) [
  | inl h ↦ (z, Contains-head z z xs refl, h)
  | inr r ↦ (let g = Contains-flat_map_inv f xs y r in (g.0, Contains-tail z g.0 xs g.1, g.2))
]
