-- Lists without duplicates.
use Rattle.std.specs.Prelude.{List, [], ◌∷◌, Contains}

-- The list has no duplicates.
abbrev pub IsDuplicateFree : {X : Type 0} → List X → Type 0
IsDuplicateFree [] = Unit {0}
IsDuplicateFree (x ∷ xs) = (Contains xs x → ⊥) × IsDuplicateFree xs
