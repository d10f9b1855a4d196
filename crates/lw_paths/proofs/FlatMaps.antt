-- Laws of `flat_map`.
use Rattle.lw_paths.proofs.Common.{◌≡◌, List, [], ◌∷◌, ◌++◌, map, refl, ap, ap₂, ◌∙◌, Contains, flat_map}
use Rattle.lw_paths.proofs.Common.{flat_map-append, map-append}
use Rattle.lw_paths.proofs.api.Members.{Contains-head, Contains-tail}

-- Functions that agree on all elements of a list give the same `flat_map`.
pub flat_map-same : {X Y : Type 0} (f g : X → List Y) (xs : List X)
    → ((x : X) → Contains xs x → f x ≡ g x)
    → flat_map f xs ≡ flat_map g xs
flat_map-same f g [] h = refl
flat_map-same f g (x ∷ xs) h =
    ap₂ (λ a b. a ++ b) (h x (Contains-head x x xs refl)) (flat_map-same f g xs (λ y c. h y (Contains-tail x y xs c)))

-- The `flat_map` of f over the `flat_map` of g is that of f over each list of g.
pub flat_map-of_flat_map : {X Y Z : Type 0} (f : Y → List Z) (g : X → List Y) (xs : List X)
    → flat_map f (flat_map g xs) ≡ flat_map (λ x. flat_map f (g x)) xs
flat_map-of_flat_map f g [] = refl
flat_map-of_flat_map f g (x ∷ xs) = flat_map-append f _ _ ∙ ap (λ b. flat_map f (g x) ++ b) (flat_map-of_flat_map f g xs)

-- The `map` of f over a `flat_map` of g is the `flat_map` of the images of each list of g.
pub map-flat_map : {X Y Z : Type 0} (f : Y → Z) (g : X → List Y) (xs : List X)
    → map f (flat_map g xs) ≡ flat_map (λ x. map f (g x)) xs
map-flat_map f g [] = refl
map-flat_map f g (x ∷ xs) = map-append f (g x) (flat_map g xs) ∙ ap (λ b. map f (g x) ++ b) (map-flat_map f g xs)
