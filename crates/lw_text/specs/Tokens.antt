-- The tokens of a text. A token is its bytes.
-- All relations have the same form: `R text x rest` means that the text is an x, followed by rest. docs/FORMAT.md defines the format, which
-- is close to herd's litmus tests.
use Rattle.std.specs.Prelude.{◌≡◌, ℕ, ◌+◌, ◌*◌, ◌<◌, ◌^◌, ◌⊎◌, ◌==◌, ◌&&◌, ◌||◌, Bool, true, false, [], ◌∷◌, ◌++◌, length, codes}
use Rattle.std.specs.List.{list_any, AllByRecursion}
use Rattle.std.specs.Str.{bytes_eq}
use Rattle.std.specs.Char.{digit_value}
use Rattle.lw_base.specs.Types.{Bytes, TokenList}
use Rattle.lw_base.specs.Characters.{byte, is_blank, is_name_byte, first_byte_is}
use Rattle.lw_base.specs.Names.{IsName}

-- Tests whether the text begins with these two bytes.
abbrev pub begins_pair : ℕ → ℕ → Bytes → Bool
begins_pair a b [] = false
begins_pair a b (c ∷ text) = c == a && first_byte_is (λ d. d == b) text

-- Tests whether the text begins with a `(*`.
abbrev pub opens_comment : Bytes → Bool
opens_comment text = begins_pair (byte "(") (byte "*") text

-- Tests whether the text begins with a `(*` or a `*)`.
abbrev pub begins_comment_sign : Bytes → Bool
begins_comment_sign text = opens_comment text || begins_pair (byte "*") (byte ")") text

-- The text after a `(*` continues to the `*)` that closes it, with whole comments between, followed by rest.
pub data Comment : Bytes → Bytes → Type 0 where
  closed : {rest : Bytes} → Comment (byte "*" ∷ byte ")" ∷ rest) rest
  nested : {text inner rest : Bytes} → Comment text inner → Comment inner rest
      → Comment (byte "(" ∷ byte "*" ∷ text) rest
  other : {b : ℕ} {text rest : Bytes} → begins_comment_sign (b ∷ text) ≡ false → Comment text rest
      → Comment (b ∷ text) rest

-- The text is trivia, which may lie between tokens, followed by rest: blanks and comments.
pub data Trivia : Bytes → Bytes → Type 0 where
  none : {rest : Bytes} → Trivia rest rest
  blank : {b : ℕ} {text rest : Bytes} → is_blank b ≡ true → Trivia text rest
      → Trivia (b ∷ text) rest
  comment : {text after rest : Bytes} → Comment text after → Trivia after rest
      → Trivia (byte "(" ∷ byte "*" ∷ text) rest

-- Tests whether the text begins with trivia.
abbrev pub begins_trivia : Bytes → Bool
begins_trivia text = first_byte_is is_blank text || opens_comment text

-- Digits of this base, after a prefix with the value n, have the value v.
abbrev pub Digits : ℕ → ℕ → Bytes → ℕ → Type 0
Digits base n [] v = n ≡ v
Digits base n (d ∷ ds) v = (digit_value d < base) × Digits base (base * n + digit_value d) ds v

-- The text is a number below 2^32: decimal digits, or `0x` and hexadecimal digits of either case.
abbrev pub IsNumber : Bytes → ℕ → Type 0
IsNumber w n =
    (n < 2 ^ 32) × (((0 < length w) × Digits 10 0 w n)
    ⊎ ((ds : Bytes) × (w ≡ codes "0x" ++ ds) × (0 < length ds) × Digits 16 0 ds n))

-- The bytes of a run are a name or a number.
abbrev pub IsNameOrNumber : Bytes → Type 0
IsNameOrNumber w = IsName w ⊎ ((n : ℕ) × IsNumber w n)

-- A run is a longest sequence of letters, digits and `_`, and it is a name or a number.
pub record IsNameRun (w rest : Bytes) : Type 0 where
  pub are_name_bytes : AllByRecursion (λ b. is_name_byte b ≡ true) w
  pub longest : first_byte_is is_name_byte rest ≡ false
  pub kind : IsNameOrNumber w

-- The symbols of two bytes.
abbrev pub two_byte_symbols : TokenList
two_byte_symbols = codes ":=" ∷ codes "!=" ∷ codes "/\\" ∷ codes "\\/" ∷ []

-- Tests whether two bytes are a symbol.
abbrev pub is_two_byte_symbol : ℕ → ℕ → Bool
is_two_byte_symbol b c = list_any (λ s. bytes_eq s (b ∷ c ∷ [])) two_byte_symbols

-- The symbols of one byte.
abbrev pub one_byte_symbols : Bytes
one_byte_symbols = codes "{}[]()|;:,$=+~"

-- Tests whether a byte is a symbol.
abbrev pub is_one_byte_symbol : ℕ → Bool
is_one_byte_symbol b = list_any (λ s. s == b) one_byte_symbols

-- A symbol: the longest that begins there. The `(` of a `(*` is none.
abbrev pub IsSymbol : Bytes → Bytes → Type 0
IsSymbol [] rest = ⊥
IsSymbol (b ∷ []) rest =
    (is_one_byte_symbol b ≡ true) × (first_byte_is (is_two_byte_symbol b) rest ≡ false) × (opens_comment (b ∷ rest) ≡ false)
IsSymbol (b ∷ c ∷ []) rest = is_two_byte_symbol b c ≡ true
IsSymbol (b ∷ c ∷ d ∷ more) rest = ⊥

-- The text t is a token if rest follows it.
abbrev pub IsToken : Bytes → Bytes → Type 0
IsToken t rest = IsNameRun t rest ⊎ IsSymbol t rest

-- The text is trivia, the token t, and rest.
abbrev pub IsFirstToken : Bytes → Bytes → Bytes → Type 0
IsFirstToken text t rest = Trivia text (t ++ rest) × IsToken t rest

-- The text is these tokens, with trivia between and around them.
abbrev pub Tokens : Bytes → TokenList → Type 0
Tokens text [] = Trivia text []
Tokens text (t ∷ ts) = (rest : Bytes) × IsFirstToken text t rest × Tokens rest ts
