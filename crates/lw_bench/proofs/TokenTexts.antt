-- Texts as sequences of tokens, by a test that computes: for the texts of examples, which are given byte by
-- byte. ExampleTexts proves so that the bytes of the example are its tokens.
use Rattle.lw_bench.proofs.Common.{byte, ◌≡◌, ℕ, zero, suc, ◌<◌, ◌==◌, ◌&&◌, ◌⊎◌, not, Bool, true, false}
use Rattle.lw_bench.proofs.Common.{if◌then◌else◌, Option, Some, None, [], ◌∷◌, ◌++◌, refl, sym, inl, inr}
use Rattle.lw_bench.proofs.Common.{arith, Bytes, and_parts, false≢true, nat_lt, none-some, same_Some, ◌||◌}
use Rattle.lw_bench.proofs.Common.{digit_value, is_ascii_digit, list_all, IsAscii, eqb-true, ltb-true}
use Rattle.lw_bench.proofs.Common.{not-true, nat_tests, TokenList, first_byte_is, is_blank, is_name_byte}
use Rattle.lw_bench.proofs.Common.{Comment, closed, other, begins_comment_sign, none, blank, IsNameOrNumber}
use Rattle.lw_bench.proofs.Common.{IsSymbol, IsToken, Tokens, is_two_byte_symbol, is_one_byte_symbol}
use Rattle.lw_bench.proofs.Common.{opens_comment, list_all-AllByRecursion, is_name_text, name_by_test}

-- ---- one token

-- Tests whether a text is one digit, or a name.
abbrev is_name_or_digit_text : Bytes → Bool
is_name_or_digit_text (d ∷ []) = is_ascii_digit d || is_name_text (d ∷ [])
is_name_or_digit_text w = is_name_text w

-- Tests whether a text is a name or a digit, and ends before this rest.
abbrev is_word_text : Bytes → Bytes → Bool
is_word_text t rest = list_all is_name_byte t && (not (first_byte_is is_name_byte rest) && is_name_or_digit_text t)

-- Tests whether a text is a symbol, and ends before this rest.
abbrev is_symbol_text : Bytes → Bytes → Bool
is_symbol_text [] rest = false
is_symbol_text (b ∷ []) rest =
    is_one_byte_symbol b && (not (first_byte_is (is_two_byte_symbol b) rest) && not (opens_comment (b ∷ rest)))
is_symbol_text (b ∷ c ∷ []) rest = is_two_byte_symbol b c
is_symbol_text (b ∷ c ∷ d ∷ more) rest = false

-- Tests whether a text is a token, and ends before this rest.
abbrev pub is_token_text : Bytes → Bytes → Bool
is_token_text t rest = is_word_text t rest || is_symbol_text t rest

-- If a disjunction of tests is true, the first or the second is.
or_true-cases : (a b : Bool) → (a || b) ≡ true → (a ≡ true) ⊎ (b ≡ true)
or_true-cases true b h = inl refl
or_true-cases false b h = inr h

-- A decimal digit is below ten.
digit_value_below_10 : (d : ℕ) → is_ascii_digit d ≡ true → digit_value d < 10
digit_value_below_10 d h = grind (arith, nat_tests)

-- A text that passes `is_name_or_digit_text` is a name or a number.
IsNameOrNumber-by_test : (w : Bytes) → is_name_or_digit_text w ≡ true → IsNameOrNumber w
IsNameOrNumber-by_test [] h = inl (name_by_test [] h)
IsNameOrNumber-by_test (d ∷ []) h = go (or_true-cases (is_ascii_digit d) (is_name_text (d ∷ [])) h)
  where
    -- By whether the byte is a digit or a name.
    go : (is_ascii_digit d ≡ true) ⊎ (is_name_text (d ∷ []) ≡ true) → IsNameOrNumber (d ∷ [])
    go (inl digit) =
        let small = digit_value_below_10 d digit in
        inr (digit_value d, (omega (arith, small), inl (omega arith, (small, omega arith))))
    go (inr name) = inl (name_by_test (d ∷ []) name)
IsNameOrNumber-by_test (d ∷ e ∷ w) h = inl (name_by_test (d ∷ e ∷ w) h)

-- A text that passes `is_symbol_text` is a symbol.
IsSymbol-by_test : (t rest : Bytes) → is_symbol_text t rest ≡ true → IsSymbol t rest
IsSymbol-by_test [] rest h = absurd (false≢true h)
IsSymbol-by_test (b ∷ []) rest h =
    let parts = and_parts (is_one_byte_symbol b) _ h in
    let alone = and_parts (not (first_byte_is (is_two_byte_symbol b) rest)) _ parts.1 in
    (parts.0, not-true _ alone.0, not-true _ alone.1)
IsSymbol-by_test (b ∷ c ∷ []) rest h = h
IsSymbol-by_test (b ∷ c ∷ d ∷ more) rest h = absurd (false≢true h)

-- A text that passes `is_token_text` is a token.
pub IsToken-by_test : (t rest : Bytes) → is_token_text t rest ≡ true → IsToken t rest
IsToken-by_test t rest h = go (or_true-cases (is_word_text t rest) (is_symbol_text t rest) h)
  where
    -- By whether the text passes as a name or number, or as a symbol.
    go : (is_word_text t rest ≡ true) ⊎ (is_symbol_text t rest ≡ true) → IsToken t rest
    go (inl word) =
        let parts = and_parts (list_all is_name_byte t) _ word in
        let ends = and_parts (not (first_byte_is is_name_byte rest)) _ parts.1 in
        inl (record {
          are_name_bytes = list_all-AllByRecursion is_name_byte t parts.0;
          longest = not-true _ ends.0;
          kind = IsNameOrNumber-by_test t ends.1;
        })
    go (inr symbol) = inr (IsSymbol-by_test t rest symbol)

-- ---- sequences

-- Returns what follows a token, if the text starts with it.
abbrev rest_after : Bytes → Bytes → Option Bytes
rest_after [] text = Some text
rest_after (a ∷ t) [] = None
rest_after (a ∷ t) (b ∷ text) = if a == b then rest_after t text else None

-- The text is the token, followed by the rest.
rest_after-append : (t text rest : Bytes) → rest_after t text ≡ Some rest → text ≡ t ++ rest
rest_after-append [] text rest h = same_Some text rest h
rest_after-append (a ∷ t) [] rest h = absurd (none-some rest h)
rest_after-append (a ∷ t) (b ∷ text) rest h = go (a == b) refl h (rest_after-append t text rest)
  where
    -- By whether the first bytes are equal.
    go : (same : Bool)
        → (a == b) ≡ same
        → (if same then rest_after t text else None) ≡ Some rest
        → (rest_after t text ≡ Some rest → text ≡ t ++ rest)
        → b ∷ text ≡ (a ∷ t) ++ rest
    go true is found on = rw (sym (eqb-true a b is), on found) refl
    go false is found on = absurd (none-some rest found)

-- Tests whether t is a token before the rest, and `more` is true of that; false if the text does not start with t.
abbrev token_then : (Bytes → Bool) → Bytes → Option Bytes → Bool
token_then more t None = false
token_then more t (Some rest) = is_token_text t rest && more rest

-- Tests whether the text is a sequence of these tokens, with at most n blanks and tokens.
unfoldable pub are_tokens : ℕ → Bytes → TokenList → Bool
are_tokens zero text ts = false
are_tokens (suc n) [] [] = true
are_tokens (suc n) [] (t ∷ ts) = false
are_tokens (suc n) (b ∷ text) [] = is_blank b && are_tokens n text []
are_tokens (suc n) (b ∷ text) (t ∷ ts) =
    if is_blank b then are_tokens n text (t ∷ ts) else token_then (λ rest. are_tokens n rest ts) t (rest_after t (b ∷ text))

module _ (t : Bytes) (ts : TokenList) (more : Bytes → Bool) (rows : (rest : Bytes) → more rest ≡ true → Tokens rest ts) where
  -- If the token is next and the rest passes, the text is a sequence of these tokens.
  Tokens-first : (text : Bytes) (o : Option Bytes) → rest_after t text ≡ o → token_then more t o ≡ true → Tokens text (t ∷ ts)
  Tokens-first text None is h = absurd (false≢true h)
  Tokens-first text (Some rest) is h =
      let parts = and_parts (is_token_text t rest) _ h in
      rw (rest_after-append t text rest is) (rest, (none, IsToken-by_test t rest parts.0), rows rest parts.1)

  -- The text starts with a blank and the rest is these tokens, or it starts with the token.
  blank_or_first : (b : ℕ) (text : Bytes) (is : Bool) (so : Bool)
      → is_blank b ≡ is
      → (so ≡ true → Tokens text (t ∷ ts))
      → (if is then so else token_then more t (rest_after t (b ∷ text))) ≡ true
      → Tokens (b ∷ text) (t ∷ ts)
  blank_or_first b text true so is on h = let row = on h in (row.0, (blank is row.1.0, row.1.1), row.2)
  blank_or_first b text false so is on h = Tokens-first (b ∷ text) (rest_after t (b ∷ text)) refl h

-- A text that passes `are_tokens` is a sequence of these tokens.
pub Tokens-by_test : (n : ℕ) (text : Bytes) (ts : TokenList) → are_tokens n text ts ≡ true → Tokens text ts
unfolding are_tokens
Tokens-by_test zero text ts h = absurd (false≢true h)
Tokens-by_test (suc n) [] [] h = none
Tokens-by_test (suc n) [] (t ∷ ts) h = absurd (false≢true h)
Tokens-by_test (suc n) (b ∷ text) [] h =
    let parts = and_parts (is_blank b) _ h in blank parts.0 (Tokens-by_test n text [] parts.1)
Tokens-by_test (suc n) (b ∷ text) (t ∷ ts) h =
    blank_or_first t ts (λ rest. are_tokens n rest ts) (λ rest so. Tokens-by_test n rest ts so) b text (is_blank b)
    (are_tokens n text (t ∷ ts)) refl (λ so. Tokens-by_test n text (t ∷ ts) so) h

-- ---- a comment without inner comments

-- Tests whether a byte is neither `(` nor `*`.
abbrev is_plain : ℕ → Bool
is_plain b = not (b == byte "(") && not (b == byte "*")

-- A comment without `(` and `*` inside ends at its `*)`.
pub plain_comment : (inside rest : Bytes) → list_all is_plain inside ≡ true → Comment (inside ++ byte "*" ∷ byte ")" ∷ rest) rest
plain_comment [] rest h = closed
plain_comment (b ∷ inside) rest h =
    let parts = and_parts (is_plain b) _ h in
    let apart = and_parts (not (b == byte "(")) (not (b == byte "*")) parts.0 in
    let unmarked : begins_comment_sign (b ∷ (inside ++ byte "*" ∷ byte ")" ∷ rest)) ≡ false =
    rw (not-true _ apart.0, not-true _ apart.1) refl in
    other unmarked (plain_comment inside rest parts.1)

-- ---- bytes

-- A text whose bytes are all below 128 is ASCII.
pub ascii_by_test : (w : Bytes) → list_all (λ b. nat_lt b 128) w ≡ true → IsAscii w
ascii_by_test [] h i = omega arith
ascii_by_test (b ∷ w) h zero = ltb-true b 128 (and_parts (nat_lt b 128) _ h).0
ascii_by_test (b ∷ w) h (suc i) = ascii_by_test w (and_parts (nat_lt b 128) _ h).1 i
