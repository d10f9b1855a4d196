-- Properties of all elements of a list, by recursion. Proofs of the crates that read and print texts use this.
use Rattle.lw_base.proofs.Common.{◌≡◌, ℕ, zero, suc, ◌+◌, ◌<◌, ◌≤◌, Bool, true, false, List, [], ◌∷◌, ◌++◌}
use Rattle.lw_base.proofs.Common.{map, refl, arith, All, filter, flat_map, AllByRecursion, range_with_len}

-- If P holds of each item of a list by its index (`All`), it holds of all items by recursion (`AllByRecursion`).
pub AllByRecursion-of_All : {X : Type 0} (xs : List X) (P : X → Type 0) → All P xs → AllByRecursion P xs
AllByRecursion-of_All [] P all = tt
AllByRecursion-of_All (x ∷ xs) P all =
    (all 0 x (omega arith), AllByRecursion-of_All xs P (λ k d lt. all (suc k) d (omega (arith, lt))))

-- If P holds of all items of two lists, it holds of all items of their concatenation.
pub AllByRecursion-append : {X : Type 0} (P : X → Type 0) (xs ys : List X)
    → AllByRecursion P xs
    → AllByRecursion P ys
    → AllByRecursion P (xs ++ ys)
AllByRecursion-append P [] ys h k = k
AllByRecursion-append P (x ∷ xs) ys h k = (h.0, AllByRecursion-append P xs ys h.1 k)

-- If P holds of all items of a list, it holds of all that are left by a filter.
pub AllByRecursion-filter : {X : Type 0} (P : X → Type 0) (p : X → Bool) (xs : List X)
    → AllByRecursion P xs
    → AllByRecursion P (filter p xs)
AllByRecursion-filter P p [] h = tt
AllByRecursion-filter P p (x ∷ xs) h = one P p x xs (p x) refl h.0 (AllByRecursion-filter P p xs h.1)
  where
    -- By whether the head passes the filter's test.
    one : {X : Type 0} (P : X → Type 0) (p : X → Bool) (x : X) (xs : List X) (b : Bool)
        → p x ≡ b
        → P x
        → AllByRecursion P (filter p xs)
        → AllByRecursion P (filter p (x ∷ xs))
    one P p x xs true e h k = rw e (h, k)
    one P p x xs false e h k = rw e k

-- If P implies Q of each item, and P holds of all items of a list, so does Q.
pub All-mono : {X : Type 0} (P Q : X → Type 0) → ((x : X) → P x → Q x) → (xs : List X) → AllByRecursion P xs → AllByRecursion Q xs
All-mono P Q f [] h = tt
All-mono P Q f (x ∷ xs) h = (f x h.0, All-mono P Q f xs h.1)

-- If P holds of the image of each number of a range, it holds of all images of the range.
pub AllByRecursion-map_range : {X : Type 0} (P : X → Type 0) (f : ℕ → X) (a n : ℕ)
    → ((k : ℕ) → a ≤ k → k < a + n → P (f k))
    → AllByRecursion P (map f (range_with_len a n))
AllByRecursion-map_range P f a zero h = tt
AllByRecursion-map_range P f a (suc n) h = (
  h a (omega arith) (omega arith),
  AllByRecursion-map_range P f (a + 1) n (λ k le lt. h k (omega (arith, le)) (omega (arith, lt))),
)

-- If P holds of all items of the list of each number of a range, it holds of all items of the concatenated lists.
pub AllByRecursion-flat_map_range : {X : Type 0} (P : X → Type 0) (f : ℕ → List X) (a n : ℕ)
    → ((k : ℕ) → a ≤ k → k < a + n → AllByRecursion P (f k))
    → AllByRecursion P (flat_map f (range_with_len a n))
AllByRecursion-flat_map_range P f a zero h = tt
AllByRecursion-flat_map_range P f a (suc n) h =
    AllByRecursion-append P (f a) (flat_map f (range_with_len (a + 1) n)) (h a (omega arith) (omega arith))
    (AllByRecursion-flat_map_range P f (a + 1) n (λ k le lt. h k (omega (arith, le)) (omega (arith, lt))))

-- If P holds of the image of every value, it holds of all images of a list.
pub AllByRecursion-every_image : {X Y : Type 0} (P : Y → Type 0) (f : X → Y)
    → ((x : X) → P (f x))
    → (xs : List X)
    → AllByRecursion P (map f xs)
AllByRecursion-every_image P f each [] = tt
AllByRecursion-every_image P f each (x ∷ xs) = (each x, AllByRecursion-every_image P f each xs)

-- If P holds of the image of each item of a list, it holds of all items of the list of images.
pub AllByRecursion-map : {X Y : Type 0} (P : Y → Type 0) (f : X → Y) (xs : List X)
    → AllByRecursion (λ x. P (f x)) xs
    → AllByRecursion P (map f xs)
AllByRecursion-map P f [] h = tt
AllByRecursion-map P f (x ∷ xs) h = (h.0, AllByRecursion-map P f xs h.1)

-- If P holds of all items of a list of images, it holds of the image of each item of the list.
pub All-map_inv : {X Y : Type 0} (P : Y → Type 0) (f : X → Y) (xs : List X)
    → AllByRecursion P (map f xs)
    → AllByRecursion (λ x. P (f x)) xs
All-map_inv P f [] h = tt
All-map_inv P f (x ∷ xs) h = (h.0, All-map_inv P f xs h.1)

-- If P holds of all items of a concatenation, it holds of all items of both lists.
pub All-append_inv : {X : Type 0} (P : X → Type 0) (xs ys : List X)
    → AllByRecursion P (xs ++ ys)
    → AllByRecursion P xs × AllByRecursion P ys
All-append_inv P [] ys h = (tt, h)
All-append_inv P (x ∷ xs) ys h = let more = All-append_inv P xs ys h.1 in ((h.0, more.0), more.1)
