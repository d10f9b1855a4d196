-- Items of two lists at the same index, and of a list of images. For states of two machines that are compared
-- thread by thread.
use Rattle.lw_base.proofs.Common.{◌≡◌, ℕ, zero, suc, Bool, true, List, [], ◌∷◌, length, map, Some, refl, sym}
use Rattle.lw_base.proofs.Common.{ap₂, ◌∙◌, arith, slice_get, zip, list_all, and_parts, and_from}

-- If y is at index k of a list of images, the list has an item there whose image is y.
pub slice_get-map_inv : {X Y : Type 0} (f : X → Y) (xs : List X) (k : ℕ) (y : Y)
    → slice_get (map f xs) k ≡ Some y
    → (x : X) × (slice_get xs k ≡ Some x) × (y ≡ f x)
slice_get-map_inv f [] k y at = absurd cc
slice_get-map_inv f (x ∷ xs) zero y at = (x, refl, cc)
slice_get-map_inv f (x ∷ xs) (suc k) y at = slice_get-map_inv f xs k y at

-- If two lists have one length, and each item's image by f is its fellow's by g, their lists of images are equal.
pub maps_equal-at_each_index : {X Y Z : Type 0} (f : X → Z) (g : Y → Z) (xs : List X) (ys : List Y)
    → length xs ≡ length ys
    → ((k : ℕ) (x : X) (y : Y) → slice_get xs k ≡ Some x → slice_get ys k ≡ Some y → f x ≡ g y)
    → map f xs ≡ map g ys
maps_equal-at_each_index f g [] [] as_many alike = refl
maps_equal-at_each_index f g (x ∷ xs) (y ∷ ys) as_many alike =
    ap₂ (λ z zs. z ∷ zs) (alike 0 x y refl refl)
    (maps_equal-at_each_index f g xs ys (omega arith) (λ k a b at and. alike (suc k) a b at and))
maps_equal-at_each_index f g _ _ as_many alike = absurd (omega arith)

-- If the pair of the items at each index that two lists share passes a test, all pairs of the zipped lists pass it.
pub list_all_zip-of_each : {X Y : Type 0} (test : X × Y → Bool) (xs : List X) (ys : List Y)
    → ((k : ℕ) (x : X) (y : Y) → slice_get xs k ≡ Some x → slice_get ys k ≡ Some y → test (x, y) ≡ true)
    → list_all test (zip xs ys) ≡ true
list_all_zip-of_each test (x ∷ xs) (y ∷ ys) each =
    and_from (test (x, y)) (list_all test (zip xs ys)) (each 0 x y refl refl)
    (list_all_zip-of_each test xs ys (λ k a b at and. each (suc k) a b at and))
list_all_zip-of_each test _ _ each = refl

-- If all pairs of two zipped lists pass a test, so does the pair of the items at each index that both lists have.
pub list_all_zip-at_index : {X Y : Type 0} (test : X × Y → Bool) (xs : List X) (ys : List Y) (k : ℕ) (x : X) (y : Y)
    → list_all test (zip xs ys) ≡ true
    → slice_get xs k ≡ Some x
    → slice_get ys k ≡ Some y
    → test (x, y) ≡ true
list_all_zip-at_index test [] ys k x y all at and = absurd cc
list_all_zip-at_index test (a ∷ xs) [] k x y all at and = absurd cc
list_all_zip-at_index {X} {Y} test (a ∷ xs) (b ∷ ys) zero x y all at and =
    ap₂ (λ v w. test (v, w)) (sym cc) (sym cc) ∙ (and_parts (test (a, b)) (list_all test (zip xs ys)) all).0
list_all_zip-at_index test (a ∷ xs) (b ∷ ys) (suc k) x y all at and =
    list_all_zip-at_index test xs ys k x y (and_parts (test (a, b)) (list_all test (zip xs ys)) all).1 at and
