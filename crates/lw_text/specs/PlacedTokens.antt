-- The token stream of a text with the offsets of its tokens, as a plain list.
use Rattle.std.specs.Prelude.{◌≡◌, ℕ, ◌+◌, List, [], ◌∷◌, length, map}
use Rattle.lw_base.specs.Types.{Bytes, TokenList}
use Rattle.lw_text.specs.Tokens.{Trivia, IsFirstToken}

-- A token: the offset of its first byte in the text, and its bytes.
pub record PlacedToken : Type 0 where
  pub at : ℕ
  pub text : Bytes

-- The tokens without their offsets.
abbrev pub texts_of_tokens : List PlacedToken → TokenList
texts_of_tokens ts = map (λ t. t.text) ts

-- The rest of a text of length `len` begins with this token, at its offset, and then rest.
abbrev pub IsPlacedToken : ℕ → Bytes → PlacedToken → Bytes → Type 0
IsPlacedToken len text t rest = IsFirstToken text t.text rest × (t.at + length t.text + length rest ≡ len)

-- The rest of a text of length `len` is these tokens, each at its offset, with blanks and comments between and around them.
abbrev pub PlacedTokens : ℕ → Bytes → List PlacedToken → Type 0
PlacedTokens len text [] = Trivia text []
PlacedTokens len text (t ∷ ts) =
    (rest : Bytes) × IsFirstToken text t.text rest × (t.at + length t.text + length rest ≡ len) × PlacedTokens len rest ts
