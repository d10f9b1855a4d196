-- Tokens in memory without their offsets, and the spans of tokens in their text.
use Rattle.std.specs.Prelude.{◌≡◌, ℕ, ◌+◌, ◌≤◌, List, [], ◌∷◌, ◌++◌, length, take, drop, map}
use Rattle.lw_base.specs.Types.{Bytes, TokenList}
use Rattle.lw_text.specs.declared.token.Token.{Token}
use Rattle.lw_text.specs.PlacedTokens.{PlacedToken}

-- The tokens without their offsets.
abbrev pub token_texts : List Token → TokenList
token_texts ts = map (λ t. t.text.now) ts

-- The second list is a suffix of the first.
abbrev pub IsSuffix : {X : Type 0} → List X → List X → Type 0
IsSuffix {X} before after = (front : List X) × (before ≡ front ++ after)

-- Each token is the slice of its span, and the spans are in order, without overlap, between two offsets.
abbrev pub Spans : Bytes → ℕ → List PlacedToken → ℕ → Type 0
Spans text from [] to = from ≤ to
Spans text from (t ∷ ts) to =
    (from ≤ t.at) × (take (length t.text) (drop t.at text) ≡ t.text) × Spans text (t.at + length t.text) ts to
