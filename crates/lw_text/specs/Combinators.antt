-- Parser combinators, for tokens of any type T and elements of any type X. `P ts x rest` means: ts is an x, followed by rest.
use Rattle.std.specs.Prelude.{◌≡◌, ◌⊎◌, Bool, true, false, List, [], ◌∷◌}

-- `ts` parses as the sequence `xs`, each element by `P`, and leaves `rest`.
abbrev pub ParsesMany : {T X : Type 0} → (List T → X → List T → Type 0) → List T → List X → List T → Type 0
ParsesMany P ts [] rest = ts ≡ rest
ParsesMany {T} P ts (x ∷ xs) rest = (mid : List T) × P ts x mid × ParsesMany P mid xs rest

-- `ts` parses as one or more elements, each by `P`, separated by `sep` and closed by `close`, and leaves `rest`.
abbrev pub ParsesSepBy : {T X : Type 0} → (List T → X → List T → Type 0) → T → T → List T → List X
    → List T → Type 0
ParsesSepBy P sep close ts [] rest = ⊥
ParsesSepBy P sep close ts (x ∷ []) rest = P ts x (close ∷ rest)
ParsesSepBy {T} P sep close ts (x ∷ y ∷ xs) rest =
    (mid : List T) × P ts x (sep ∷ mid) × ParsesSepBy P sep close mid (y ∷ xs) rest

-- `ts` parses as the sequence `xs`, each element by `P` and none where `stop` is true, and leaves `rest`, where it is true.
abbrev pub ParsesManyTill : {T X : Type 0} → (List T → Bool) → (List T → X → List T → Type 0) → List T
    → List X → List T → Type 0
ParsesManyTill stop P ts [] rest = (ts ≡ rest) × (stop ts ≡ true)
ParsesManyTill {T} stop P ts (x ∷ xs) rest =
    (stop ts ≡ false) × ((mid : List T) × P ts x mid × ParsesManyTill stop P mid xs rest)

-- `ts` parses as the sequence `xs`, each element by `P` and followed by `sep`, which is optional after the last, then `close`, and leaves
-- `rest`.
abbrev pub ParsesSepEndBy : {T X : Type 0} → (List T → X → List T → Type 0) → T → T → List T → List X
    → List T → Type 0
ParsesSepEndBy P sep close ts [] rest = ts ≡ close ∷ rest
ParsesSepEndBy {T} P sep close ts (x ∷ xs) rest =
    (mid : List T) × P ts x mid
    × (((xs ≡ []) × (mid ≡ close ∷ rest))
    ⊎ ((next : List T) × (mid ≡ sep ∷ next) × ParsesSepEndBy P sep close next xs rest))
