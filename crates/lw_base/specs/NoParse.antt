-- What a refusal states: that the input does not parse.
use Rattle.std.specs.Prelude.{◌≢◌, List}

-- The property holds of nothing.
abbrev pub HoldsOfNothing : {X : Type 0} → (X → Type 0) → Type 0
HoldsOfNothing {X} P = (x : X) → P x → ⊥

-- The parser R accepts nothing: no value and no rest of the input are related by it.
abbrev pub ParsesNothing : {X T : Type 0} → (X → List T → Type 0) → Type 0
ParsesNothing {X} {T} R = (x : X) (rest : List T) → R x rest → ⊥

-- The property holds of nothing, unless the cause is that memory ran out.
abbrev pub HoldsOfNothingOrOutOfMemory : {C X : Type 0} → C → C → (X → Type 0) → Type 0
HoldsOfNothingOrOutOfMemory memory cause P = cause ≢ memory → HoldsOfNothing P

-- The parser R accepts nothing, unless the cause is that memory ran out.
abbrev pub ParsesNothingOrOutOfMemory : {C X T : Type 0} → C → C → (X → List T → Type 0) → Type 0
ParsesNothingOrOutOfMemory memory cause R = cause ≢ memory → ParsesNothing R

-- The parser R accepts nothing with the property P, unless the cause is that memory ran out.
abbrev pub ParsesNothingWithOrOutOfMemory : {C X T : Type 0} → C → C → (X → List T → Type 0) → (X → Type 0) → Type 0
ParsesNothingWithOrOutOfMemory {C} {X} {T} memory cause R P =
    cause ≢ memory → (x : X) (rest : List T) → R x rest → P x → ⊥
