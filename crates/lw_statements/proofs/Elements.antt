-- An item of a list: what holds of all items holds of it, and the list is split there. And properties of
-- optional items. The loops over cells and threads go by these lemmas.
use Rattle.lw_statements.proofs.Common.{◌≡◌, ℕ, suc, ◌+◌, ◌<◌, Option, Some, None, List, [], ◌∷◌, ◌++◌}
use Rattle.lw_statements.proofs.Common.{length, get_or, take, drop, refl, sym, ap, ◌∙◌, subst, arith}
use Rattle.lw_statements.proofs.Common.{slice_get, All, option_map, AllByRecursion, cons_option, ForSome}
use Rattle.lw_statements.proofs.Common.{slice_get_within, get_or_from_slice_get, at_index}
use Rattle.lw_statements.proofs.Common.{slice_get-append_middle, take_drop-at, take-suc}

-- What holds of all items holds of the one at an index.
pub All-get : {X : Type 0} (P : X → Type 0) (xs : List X) (k : ℕ) (x : X) → slice_get xs k ≡ Some x → All P xs → P x
All-get P xs k x is all = subst P (get_or_from_slice_get xs k x x is) (all k x (slice_get_within xs k x is))

-- What holds of all items holds of one in the middle.
pub All-middle : {X : Type 0} (P : X → Type 0) (front rest : List X) (x : X) → All P (front ++ x ∷ rest) → P x
All-middle P front rest x all = All-get P _ (length front) x (slice_get-append_middle front x rest (length front) refl) all

-- A loop's item is the one at its index in the list.
pub slice_get-of_get_or : {X : Type 0} (xs : List X) (k : ℕ) (x : X) → k < length xs → x ≡ get_or xs k x → slice_get xs k ≡ Some x
slice_get-of_get_or xs k x within is = at_index xs k x within ∙ ap Some (sym is)

-- A list is split at an item into the items before it, the item, and those after it.
pub take-item-drop : {X : Type 0} (xs : List X) (k : ℕ) (x : X)
    → k < length xs
    → x ≡ get_or xs k x
    → xs ≡ take k xs ++ x ∷ drop (suc k) xs
take-item-drop xs k x within is = take_drop-at xs k x (slice_get-of_get_or xs k x within is)

-- The items before the next index are those before this index, followed by the one there.
pub take_further : {X : Type 0} (xs : List X) (k : ℕ) (x : X)
    → k < length xs
    → x ≡ get_or xs k x
    → take (k + 1) xs ≡ take k xs ++ x ∷ []
take_further {X} xs k x within is =
    let next : k + 1 ≡ suc k = omega arith in
    ap (λ (n : ℕ). take n xs) next ∙ take-suc xs k x (slice_get-of_get_or xs k x within is)

-- What holds of an optional item and of a list holds of the list with the item prepended.
pub AllByRecursion-cons_option : {X : Type 0} (P : X → Type 0) (o : Option X) (xs : List X)
    → ForSome o P
    → AllByRecursion P xs
    → AllByRecursion P (cons_option o xs)
AllByRecursion-cons_option P None xs here all = all
AllByRecursion-cons_option P (Some x) xs here all = (here x refl, all)

-- If the image of an optional item is present, it is the image of that item.
pub option_map-Some_inv : {X Y : Type 0} (f : X → Y) (o : Option X) (y : Y)
    → Some y ≡ option_map f o
    → (x : X) × (o ≡ Some x) × (y ≡ f x)
option_map-Some_inv f None y e = absurd cc
option_map-Some_inv f (Some x) y e = (x, refl, cc)
