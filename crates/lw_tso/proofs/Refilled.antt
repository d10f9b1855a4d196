-- A list xs that is overwritten item by item, until f of its items equals g of another list's items, ys. For
-- the loops of `machine.rt` that write into lists of the right length and allocate nothing.
use Rattle.lw_tso.proofs.Common.{most_locations, ◌≡◌, ℕ, ◌+◌, ◌<◌, ◌≤◌, List, [], ◌∷◌, ◌++◌, length, map, set}
use Rattle.lw_tso.proofs.Common.{take, get_or, Some, refl, sym, ap, ap₂, ◌∙◌, arith, slice_get, get_or-take}
use Rattle.lw_tso.proofs.Common.{length-take, take_all, map-append, map-set, map_more, take_more}
use Rattle.lw_tso.proofs.Common.{take_more_set, get_or-range_with_len, range_with_len, set-get_same}

-- Before index i, f of xs' items equals g of those of ys, and both lists have an item at i.
pub record RefilledUpTo {X Y Z : Type 0} (f : X → Z) (g : Y → Z) (xs : List X) (ys : List Y) (i : ℕ) : Type 0 where
  pub so_far : map f (take i xs) ≡ map g (take i ys)
  pub first_in_range : i < length xs
  pub second_in_range : i < length ys

-- If the property holds up to i, and f of x is g of the item of ys at i, then it holds up to i + 1 after x is set at i.
pub RefilledUpTo-next : {X Y Z : Type 0} (f : X → Z) (g : Y → Z) (xs : List X) (ys : List Y) (i : ℕ) (x : X) (d : Y)
    → RefilledUpTo f g xs ys i
    → f x ≡ g (get_or ys i d)
    → map f (take (i + 1) (set xs i x)) ≡ map g (take (i + 1) ys)
RefilledUpTo-next f g xs ys i x d upto is =
    ap (map f) (take_more_set xs i x upto.first_in_range)
    ∙ map-append f (take i xs) (x ∷ [])
    ∙ rw (upto.so_far, is) refl
    ∙ sym (map_more g ys i d upto.second_in_range)

-- If the first k items of xs and ys have equal images, both lists have the same length, and that is at most k, then all items
-- have equal images.
pub RefilledUpTo-all : {X Y Z : Type 0} (f : X → Z) (g : Y → Z) (xs : List X) (ys : List Y) {k : ℕ}
    → map f (take k xs) ≡ map g (take k ys)
    → length xs ≡ length ys
    → length ys ≤ k
    → map f xs ≡ map g ys
RefilledUpTo-all f g xs ys {k = k} so_far many past =
    ap (map f) (sym (take_all k xs (omega arith))) ∙ so_far ∙ ap (map g) (take_all k ys past)

-- If x has the same image as the item at i, setting x at i preserves the list of images.
pub map-set_same_image : {X Y : Type 0} (f : X → Y) (xs : List X) (i : ℕ) (x y : X)
    → slice_get xs i ≡ Some y
    → f x ≡ f y
    → map f (set xs i x) ≡ map f xs
map-set_same_image f xs i x y at same = map-set f xs i x ∙ rw same (sym (map-set f xs i y) ∙ ap (map f) (set-get_same xs i y at))

-- If l was read at index i of the first n of all locations, and i is in range, then l is i.
pub all_locations-at : (n i l : ℕ) {all : List ℕ}
    → all ≡ range_with_len 0 most_locations
    → i < length (take n all)
    → l ≡ get_or (take n all) i l
    → l ≡ i
all_locations-at n i l {all = all} are within is =
    let inside = length-take n all in
    is
    ∙ get_or-take n all i l (omega (arith, within, inside))
    ∙ ap (λ (xs : List ℕ). get_or xs i l) are
    ∙ get_or-range_with_len 0 most_locations i l (omega (arith, within, inside, ap length are))
    ∙ (omega arith)

-- If the first i items of xs and ys are equal, both have an item at i, and w is that of ys, then after w is set at i in xs the
-- first i + 1 are equal.
pub take-set_next : (xs ys : List ℕ) (i : ℕ) {j : ℕ} (w : ℕ)
    → j ≡ i
    → i < length xs
    → i < length ys
    → take i xs ≡ take i ys
    → w ≡ get_or ys i 0
    → take (i + 1) (set xs j w) ≡ take (i + 1) ys
take-set_next xs ys i w index within there so_far is =
    ap (λ k. take (i + 1) (set xs k w)) index
    ∙ take_more_set xs i w within
    ∙ ap₂ (λ zs z. zs ++ z ∷ []) so_far is
    ∙ sym (take_more ys i 0 there)
