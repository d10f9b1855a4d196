-- Texts that spell tokens, if what follows them is right. The crates that print tests use this.
use Rattle.lw_text.proofs.Common.{byte, most_name_bytes, ◌≡◌, ℕ, zero, suc, ◌+◌, ◌*◌, ◌<◌, ◌≤◌, ◌^◌, inl, inr}
use Rattle.lw_text.proofs.Common.{Bool, true, false, not, List, [], ◌∷◌, ◌++◌, length, refl, sym, ap, ◌∙◌}
use Rattle.lw_text.proofs.Common.{subst, arith, append_assoc, append-nil, length-append, ◌==◌, ◌&&◌, nat_lt}
use Rattle.lw_text.proofs.Common.{IsUtf8, IsAscii, decimal, ltb-true, AllByRecursion, list_all, AllDigits}
use Rattle.lw_text.proofs.Common.{digits_value_after, digit_value, is_ascii_digit, not-true, and_parts}
use Rattle.lw_text.proofs.Common.{nat_tests, decimal_is_IsNumeral, length-decimal-le, IsUtf8-nil}
use Rattle.lw_text.proofs.Common.{IsUtf8-append, IsUtf8-from_ascii, digit_from_value, Bytes, TokenList}
use Rattle.lw_text.proofs.Common.{is_blank, is_name_byte, first_byte_is, IsName, opens_comment, blank, Digits}
use Rattle.lw_text.proofs.Common.{IsNumber, IsNameOrNumber, is_two_byte_symbol, is_one_byte_symbol, Tokens}
use Rattle.lw_text.proofs.Common.{is_blank-passes, name_bytes_ascii}
use Rattle.lw_text.specs.Tokens.{none}

-- ---- what may follow a text: anything, no name byte, a blank, no `*`, or nothing that makes a symbol with `:`

-- Anything may follow.
abbrev pub Anything : Bytes → Type 0
Anything rest = Unit {0}

-- No name byte follows.
abbrev pub EndsName : Bytes → Type 0
EndsName rest = first_byte_is is_name_byte rest ≡ false

-- A blank follows.
abbrev pub IsBlankNext : Bytes → Type 0
IsBlankNext rest = first_byte_is is_blank rest ≡ true

-- No `*` follows, so `(` opens no comment.
abbrev pub HasNoStar : Bytes → Type 0
HasNoStar rest = first_byte_is (λ b. b == byte "*") rest ≡ false

-- No byte follows that makes a two-byte symbol with `:`.
abbrev pub HasNoEquals : Bytes → Type 0
HasNoEquals rest = first_byte_is (is_two_byte_symbol (byte ":")) rest ≡ false

-- The text spells these tokens before any text of which `Follows` holds; it is UTF-8 and has at most `most` bytes.
pub record Spells (Follows : Bytes → Type 0) (most : ℕ) (text : Bytes) (tokens : TokenList) : Type 0 where
  pub before : (rest : Bytes) (more : TokenList) → Follows rest → Tokens rest more → Tokens (text ++ rest) (tokens ++ more)
  pub short : length text ≤ most
  pub utf8 : IsUtf8 text

-- The empty text spells no token.
pub Spells-nothing : (F : Bytes → Type 0) → Spells F 0 [] []
Spells-nothing F = record { before = λ rest more f t. t; short = omega arith; utf8 = IsUtf8-nil }

-- The concatenation of two texts spells the tokens of both, if the second may follow the first.
pub Spells-append : {F G : Bytes → Type 0} {m n : ℕ} {a b : Bytes} {ts us : TokenList}
    → ((rest : Bytes) → G rest → F (b ++ rest))
    → Spells F m a ts
    → Spells G n b us
    → Spells G (m + n) (a ++ b) (ts ++ us)
Spells-append {F} {G} {m} {n} {a} {b} {ts} {us} joint p q = record {
  before = λ rest more g t.
      rw (append_assoc a b rest, append_assoc ts us more)
      (p.before (b ++ rest) (us ++ more) (joint rest g) (q.before rest more g t));
  short = omega (arith, length-append a b, p.short, q.short);
  utf8 = IsUtf8-append a b p.utf8 q.utf8;
}

-- A text that anything may follow, concatenated with another, spells the tokens of both.
pub Spells-append_anything : {G : Bytes → Type 0} {m n : ℕ} {a b : Bytes} {ts us : TokenList}
    → Spells Anything m a ts
    → Spells G n b us
    → Spells G (m + n) (a ++ b) (ts ++ us)
Spells-append_anything p q = Spells-append (λ rest g. tt) p q

-- A text that spells tokens before what F allows spells them before what G allows, if G allows no more.
pub Spells-before : {F : Bytes → Type 0} (G : Bytes → Type 0) {m : ℕ} {a : Bytes} {ts : TokenList}
    → ((rest : Bytes) → G rest → F rest)
    → Spells F m a ts
    → Spells G m a ts
Spells-before G less p = record { before = λ rest more g t. p.before rest more (less rest g) t; short = p.short; utf8 = p.utf8 }

-- What spells tokens in at most m bytes does so in at most n, if m ≤ n.
pub Spells-mono : {F : Bytes → Type 0} {m : ℕ} {a : Bytes} {ts : TokenList} (n : ℕ) → m ≤ n → Spells F m a ts → Spells F n a ts
Spells-mono n le p = record { before = p.before; short = omega (arith, p.short, le); utf8 = p.utf8 }

-- A text that spells tokens before the end is, as a whole, these tokens.
pub Tokens-Spells : {F : Bytes → Type 0} {m : ℕ} {a : Bytes} {ts : TokenList} → F [] → Spells F m a ts → Tokens a ts
Tokens-Spells {a = a} {ts = ts} end p =
    subst (λ (t : Bytes). Tokens t ts) (append-nil a)
    (subst (λ (us : TokenList). Tokens (a ++ []) us) (append-nil ts) (p.before [] [] end none))

-- ---- blanks

-- If a text is a list of tokens, it is the same list with a blank before it.
Tokens-blank : (b : ℕ) (rest : Bytes) (ts : TokenList) → is_blank b ≡ true → Tokens rest ts → Tokens (b ∷ rest) ts
Tokens-blank b rest [] h t = blank h t
Tokens-blank b rest (u ∷ us) h t = (t.0, (blank h t.1.0, t.1.1), t.2)

-- One byte below 128 is ASCII.
IsAscii-one : (b : ℕ) → b < 128 → IsAscii (b ∷ [])
IsAscii-one b h zero = h
IsAscii-one b h (suc i) = omega arith

-- A blank spells no token.
pub Spells-blank : (b : ℕ) → is_blank b ≡ true → b < 128 → Spells Anything 1 (b ∷ []) []
Spells-blank b h low = record {
  before = λ rest more f t. Tokens-blank b rest more h t;
  short = omega arith;
  utf8 = IsUtf8-from_ascii (b ∷ []) (IsAscii-one b low);
}

-- A space spells no token.
pub Spells-space : Spells Anything 1 (byte " " ∷ []) []
Spells-space = Spells-blank (byte " ") refl (omega arith)

-- The end of a line spells no token.
pub Spells-newline : Spells Anything 1 (byte "\n" ∷ []) []
Spells-newline = Spells-blank (byte "\n") refl (omega arith)

-- A blank ends a name.
pub blank_ends_name : (rest : Bytes) → IsBlankNext rest → EndsName rest
blank_ends_name [] h = refl
blank_ends_name (b ∷ rest) h = not-true (is_name_byte b) (is_blank-passes (λ c. not (is_name_byte c)) b refl h)

-- ---- symbols

-- A byte that starts no two-byte symbol makes none with what follows.
no_two_byte_symbol-first_byte : (b : ℕ)
    → ((c : ℕ) → is_two_byte_symbol b c ≡ false)
    → (rest : Bytes)
    → first_byte_is (is_two_byte_symbol b) rest ≡ false
no_two_byte_symbol-first_byte b h [] = refl
no_two_byte_symbol-first_byte b h (c ∷ rest) = h c

-- A one-byte symbol spells itself, if what follows makes it no other symbol.
pub Spells-symbol : {F : Bytes → Type 0} (b : ℕ)
    → is_one_byte_symbol b ≡ true
    → ((rest : Bytes) → F rest → first_byte_is (is_two_byte_symbol b) rest ≡ false)
    → ((rest : Bytes) → F rest → opens_comment (b ∷ rest) ≡ false)
    → b < 128
    → Spells F 1 (b ∷ []) ((b ∷ []) ∷ [])
Spells-symbol b single alone plain low = record {
  before = λ rest more f t. (rest, (none, inr (single, alone rest f, plain rest f)), t);
  short = omega arith;
  utf8 = IsUtf8-from_ascii (b ∷ []) (IsAscii-one b low);
}

-- A one-byte symbol that starts no two-byte symbol and no comment spells one token.
pub Spells-single_symbol : (b : ℕ)
    → is_one_byte_symbol b ≡ true
    → ((c : ℕ) → is_two_byte_symbol b c ≡ false)
    → (b == byte "(") ≡ false
    → b < 128
    → Spells Anything 1 (b ∷ []) ((b ∷ []) ∷ [])
Spells-single_symbol b single alone plain low =
    Spells-symbol b single (λ rest f. no_two_byte_symbol-first_byte b alone rest) (λ rest f. rw plain refl) low

-- Two bytes below 128 are ASCII.
IsAscii-two : (b c : ℕ) → b < 128 → c < 128 → IsAscii (b ∷ c ∷ [])
IsAscii-two b c h k zero = h
IsAscii-two b c h k (suc i) = IsAscii-one c k i

-- Two bytes that make a symbol spell it, whatever follows.
pub Spells-pair : (b c : ℕ)
    → is_two_byte_symbol b c ≡ true
    → b < 128
    → c < 128
    → Spells Anything 2 (b ∷ c ∷ []) ((b ∷ c ∷ []) ∷ [])
Spells-pair b c pair h k = record {
  before = λ rest more f t. (rest, (none, inr pair), t);
  short = omega arith;
  utf8 = IsUtf8-from_ascii (b ∷ c ∷ []) (IsAscii-two b c h k);
}

-- ---- words

-- A number or a name spells one token, if no name byte follows.
pub Spells-run : (n : ℕ) (w : Bytes)
    → AllByRecursion (λ b. is_name_byte b ≡ true) w
    → IsNameOrNumber w
    → length w ≤ n
    → Spells EndsName n w (w ∷ [])
Spells-run n w all kind short = record {
  before = λ rest more f t. (rest, (none, inl (record { are_name_bytes = all; longest = f; kind = kind })), t);
  short = short;
  utf8 = IsUtf8-from_ascii w (name_bytes_ascii w all);
}

-- Tests whether a text is a name: it has a name byte and at most `most_name_bytes`, of which the first is no digit.
abbrev pub is_name_text : Bytes → Bool
is_name_text w =
    (nat_lt 0 (length w) && nat_lt (length w) (suc most_name_bytes))
    && (list_all is_name_byte w && not (first_byte_is is_ascii_digit w))

-- What a test says of all items of a list holds of each.
pub list_all-AllByRecursion : {X : Type 0} (p : X → Bool) (w : List X) → list_all p w ≡ true → AllByRecursion (λ b. p b ≡ true) w
list_all-AllByRecursion p [] h = tt
list_all-AllByRecursion p (b ∷ w) h = let both = and_parts (p b) (list_all p w) h in (both.0, list_all-AllByRecursion p w both.1)

-- A text that passes the test is a name.
pub name_by_test : (w : Bytes) → is_name_text w ≡ true → IsName w
name_by_test w h =
    let halves =
    and_parts (nat_lt 0 (length w) && nat_lt (length w) (suc most_name_bytes))
    (list_all is_name_byte w && not (first_byte_is is_ascii_digit w)) h in
    let long = and_parts (nat_lt 0 (length w)) (nat_lt (length w) (suc most_name_bytes)) halves.0 in
    let bytes = and_parts (list_all is_name_byte w) (not (first_byte_is is_ascii_digit w)) halves.1 in
    let most : length w < suc most_name_bytes = ltb-true (length w) (suc most_name_bytes) long.1 in (
      record {
        not_empty = ltb-true 0 (length w) long.0;
        are_name_bytes = list_all-AllByRecursion is_name_byte w bytes.0;
        front = not-true (first_byte_is is_ascii_digit w) bytes.1;
      },
      omega (arith, most),
    )

-- A name spells one token.
pub Spells-name : (w : Bytes) → IsName w → Spells EndsName most_name_bytes w (w ∷ [])
Spells-name w name = Spells-run most_name_bytes w name.0.are_name_bytes (inl name) name.1

-- ---- numbers

-- Decimal digits represent the number that they evaluate to.
Digits-AllDigits : (n : ℕ) (ds : Bytes) (v : ℕ) → AllDigits 10 ds → digits_value_after 10 n ds ≡ v → Digits 10 n ds v
Digits-AllDigits n [] v all e = e
Digits-AllDigits n (d ∷ ds) v all e = (
  all.0,
  Digits-AllDigits (10 * n + digit_value d) ds v all.1 (ap (λ (m : ℕ). digits_value_after 10 m ds) (sym (omega arith)) ∙ e),
)

-- A number's decimal digits are a number.
pub decimal_is_number : (n : ℕ) → n < 2 ^ 32 → IsNumber (decimal n) n
decimal_is_number n h =
    let is = decimal_is_IsNumeral n (omega (arith, h)) in (h, inl (is.0.0, Digits-AllDigits 0 (decimal n) n is.0.1 is.1))

-- A decimal digit is a name byte.
digit_is_name_byte : (d : ℕ) → (byte "0" ≤ d) × (d ≤ byte "9") → is_name_byte d ≡ true
digit_is_name_byte d h = grind (arith, nat_tests)

-- All decimal digits are name bytes.
digits_are_name_bytes : (ds : Bytes) → AllDigits 10 ds → AllByRecursion (λ b. is_name_byte b ≡ true) ds
digits_are_name_bytes [] all = tt
digits_are_name_bytes (d ∷ ds) all = (digit_is_name_byte d (digit_from_value d all.0), digits_are_name_bytes ds all.1)

-- The decimal digits of a number are name bytes.
pub decimal_is_name_run : (n : ℕ) → n < 2 ^ 32 → AllByRecursion (λ b. is_name_byte b ≡ true) (decimal n)
decimal_is_name_run n h = digits_are_name_bytes (decimal n) (decimal_is_IsNumeral n (omega (arith, h))).0.1

-- The maximum length of a number below `2 ^ 32` in decimal, in bytes.
abbrev pub most_number_bytes : ℕ
most_number_bytes = 10

-- A number below `2 ^ 32` is short in decimal.
pub decimal_is_short : (n : ℕ) → n < 2 ^ 32 → length (decimal n) ≤ most_number_bytes
decimal_is_short n h = length-decimal-le most_number_bytes n (omega arith) (omega (arith, h)) (omega (arith, h))

-- The decimal digits of a number spell one token.
pub Spells-number : (n : ℕ) → n < 2 ^ 32 → Spells EndsName most_number_bytes (decimal n) (decimal n ∷ [])
Spells-number n h =
    Spells-run most_number_bytes (decimal n) (decimal_is_name_run n h) (inr (n, decimal_is_number n h)) (decimal_is_short n h)
