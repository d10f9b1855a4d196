-- Runs of name bytes and symbols: how a token starts, and that the token at a position is unique. So a lexer
-- that takes the longest run, or the longer symbol, finds the only token.
use Rattle.lw_text.proofs.Common.{byte, most_name_bytes, IsOfKind, Symbol, is_ascii_digit, ◌≡◌, ℕ, ◌<◌, inl}
use Rattle.lw_text.proofs.Common.{inr, Bool, true, false, not, [], ◌∷◌, ◌++◌, length, take, drop, refl, sym}
use Rattle.lw_text.proofs.Common.{ap, ◌∙◌, subst, arith, ◌==◌, nat_lt, slice_index_or, bytes_eq, ltb-true}
use Rattle.lw_text.proofs.Common.{eqb-true, AllByRecursion, list_all, bytes_eq-Decides, not-true}
use Rattle.lw_text.proofs.Common.{false_from_ne_true, Bytes, is_blank, is_name_byte, first_byte_is}
use Rattle.lw_text.proofs.Common.{list_all-member, byte_eq-sound, is_blank-passes, slice_index_or-ascii}
use Rattle.lw_text.proofs.Common.{begins_trivia, begins_pair, is_one_byte_symbol, is_two_byte_symbol}
use Rattle.lw_text.proofs.Common.{two_byte_symbols, one_byte_symbols, IsNumber, IsNameOrNumber, IsNameRun}
use Rattle.lw_text.proofs.Common.{IsSymbol, IsToken, HoldsOfNothing, ◌≤◌, IsName, if◌then◌else◌, cases_Bool}
use Rattle.lw_text.proofs.Common.{IsLongestRun, FailsInToken, no_number_run, no_name_run, TextCause, Number}
use Rattle.lw_text.proofs.Common.{Name}
use Rattle.lw_text.proofs.api.Numbers.{number_first}
use Rattle.lw_text.proofs.api.Spelling.{list_all-AllByRecursion}

-- ---- runs of bytes

-- The longest prefix of the text whose bytes pass a test, and the rest of the text.
pub record IsLongestPrefix (p : ℕ → Bool) (text w rest : Bytes) : Type 0 where
  pub parts : text ≡ w ++ rest
  pub bytes_pass : AllByRecursion (λ b. p b ≡ true) w
  pub longest : first_byte_is p rest ≡ false

-- A text has at most one longest prefix whose bytes pass p, and one rest after it.
pub IsLongestPrefix-unique : (p : ℕ → Bool) (w v : Bytes) {text r s : Bytes}
    → IsLongestPrefix p text w r
    → IsLongestPrefix p text v s
    → (w ≡ v) × (r ≡ s)
IsLongestPrefix-unique p [] [] a c = (refl, sym a.parts ∙ c.parts)
IsLongestPrefix-unique p [] (b ∷ v) a c =
    absurd (let h = ap (first_byte_is p) (sym a.parts ∙ c.parts) in
    let i = a.longest in
    cc (c.bytes_pass.0))
IsLongestPrefix-unique p (b ∷ w) [] a c =
    absurd (let h = ap (first_byte_is p) (sym a.parts ∙ c.parts) in
    let i = c.longest in
    cc (a.bytes_pass.0))
IsLongestPrefix-unique p (b ∷ w) (d ∷ v) {text} {r} {s} a c =
    let same : b ∷ (w ++ r) ≡ d ∷ (v ++ s) = sym a.parts ∙ c.parts in
    let both : (w ≡ v) × (r ≡ s) =
    IsLongestPrefix-unique p w v {text = w ++ r} (record { parts = refl; bytes_pass = a.bytes_pass.1; longest = a.longest })
    (record { parts = cc; bytes_pass = c.bytes_pass.1; longest = c.longest }) in
    (cc, both.1)

-- All bytes are letters, digits or `_`.
abbrev pub AreNameBytes : Bytes → Type 0
AreNameBytes w = AllByRecursion (λ b. is_name_byte b ≡ true) w

-- A test that all one-byte symbols of the list pass is passed by each byte that is one.
each_one_byte_symbol : (q : ℕ → Bool) (b : ℕ) → list_all q one_byte_symbols ≡ true → is_one_byte_symbol b ≡ true → q b ≡ true
each_one_byte_symbol q b all h = list_all-member (λ x y. x == y) byte_eq-sound q one_byte_symbols b all h

-- A test that all two-byte symbols of the list pass is passed by any two bytes that are one.
each_two_byte_symbol : (q : Bytes → Bool) (b c : ℕ)
    → list_all q two_byte_symbols ≡ true
    → is_two_byte_symbol b c ≡ true
    → q (b ∷ c ∷ []) ≡ true
each_two_byte_symbol q b c all h =
    list_all-member bytes_eq (λ x y e. (bytes_eq-Decides x y).0 e) q two_byte_symbols (b ∷ c ∷ []) all h

-- ---- how a token starts

-- A name or a number has at least one byte.
name_or_number_nonempty : (w : Bytes) → IsNameOrNumber w → 0 < length w
name_or_number_nonempty w (inl name) = name.0.not_empty
name_or_number_nonempty w (inr (n, m)) = elim m.1 [ inl d ↦ d.0 | inr h ↦ omega (arith, ap length h.1) ]

-- A run of name bytes starts with one.
pub run_front : (w rest : Bytes) → IsNameRun w rest → first_byte_is is_name_byte (w ++ rest) ≡ true
run_front [] rest h = absurd (let n = name_or_number_nonempty [] h.kind in omega arith)
run_front (b ∷ w) rest h = h.are_name_bytes.0

-- A symbol does not start with a name byte.
pub symbol_front : (t rest : Bytes) → IsSymbol t rest → first_byte_is is_name_byte (t ++ rest) ≡ false
symbol_front (b ∷ []) rest h = not-true (is_name_byte b) (each_one_byte_symbol (λ x. not (is_name_byte x)) b refl h.0)
symbol_front (b ∷ c ∷ []) rest h =
    not-true (is_name_byte b) (each_two_byte_symbol (first_byte_is (λ x. not (is_name_byte x))) b c refl h)
symbol_front _ rest h = absurd h

-- No trivia starts with a byte that passes a test which no blank and no `(` passes.
pub no_trivia-first_byte : (p : ℕ → Bool) (b : ℕ) (text : Bytes)
    → list_all (λ x. not (p x)) (byte " " ∷ byte "\t" ∷ byte "\n" ∷ byte "\r" ∷ []) ≡ true
    → p (byte "(") ≡ false
    → p b ≡ true
    → begins_trivia (b ∷ text) ≡ false
no_trivia-first_byte p b text blanks bracket h =
    let k = false_from_ne_true (is_blank b) (λ e. let i = not-true (p b) (is_blank-passes (λ x. not (p x)) b blanks e) in cc) in
    rw (k, (false_from_ne_true (b == byte "(") (λ e. let i = ap p (eqb-true b (byte "(") e) in cc))) refl

-- No trivia starts where a token does.
pub token_no_trivia : (t rest : Bytes) → IsToken t rest → begins_trivia (t ++ rest) ≡ false
token_no_trivia [] rest (inl w) = absurd (let n = name_or_number_nonempty [] w.kind in omega arith)
token_no_trivia (b ∷ t) rest (inl w) = no_trivia-first_byte (is_name_byte) b (t ++ rest) refl refl w.are_name_bytes.0
token_no_trivia (b ∷ []) rest (inr s) =
    rw ((not-true (is_blank b) (each_one_byte_symbol (λ x. not (is_blank x)) b refl s.0)), s.2) refl
token_no_trivia (b ∷ c ∷ []) rest (inr s) =
    not-true (begins_trivia (b ∷ c ∷ [])) (each_two_byte_symbol (λ w. not (begins_trivia w)) b c refl s)
token_no_trivia _ rest (inr s) = absurd s

-- A token has at least one byte.
pub token_nonempty : (t rest : Bytes) → IsToken t rest → 0 < length t
token_nonempty t rest (inl w) = name_or_number_nonempty t w.kind
token_nonempty [] rest (inr s) = absurd s
token_nonempty (b ∷ t) rest (inr s) = omega arith

-- ---- the token at a position is unique

-- If what follows b makes no two-byte symbol with it, then b and the next byte d are none.
not-two_byte_symbol : (b d : ℕ) (r s : Bytes)
    → r ≡ d ∷ s
    → first_byte_is (is_two_byte_symbol b) r ≡ false
    → is_two_byte_symbol b d ≡ true
    → ⊥
not-two_byte_symbol b d r s e shut pair = let h = ap (first_byte_is (is_two_byte_symbol b)) e in cc

-- The symbol at a position is unique.
symbol-unique : (t r u s : Bytes) → IsSymbol t r → IsSymbol u s → t ++ r ≡ u ++ s → (t ≡ u) × (r ≡ s)
symbol-unique (b ∷ []) r (c ∷ []) s p q e = (cc, cc)
symbol-unique (b ∷ []) r (c ∷ d ∷ []) s p q e =
    absurd (not-two_byte_symbol b d r s (cc) p.1 (let k : c ≡ b = cc in subst (λ x. is_two_byte_symbol x d ≡ true) k q))
symbol-unique (a ∷ b ∷ []) r (c ∷ []) s p q e =
    absurd (not-two_byte_symbol c b s r (cc) q.1 (let k : a ≡ c = cc in subst (λ x. is_two_byte_symbol x b ≡ true) k p))
symbol-unique (a ∷ b ∷ []) r (c ∷ d ∷ []) s p q e = (cc, cc)
symbol-unique [] r u s p q e = absurd p
symbol-unique (a ∷ b ∷ c ∷ t) r u s p q e = absurd p
symbol-unique _ r _ s p q e = absurd q

-- The token at a position is unique: a run of name bytes or a symbol, by its first byte.
pub token-unique : (t r u s : Bytes) → IsToken t r → IsToken u s → t ++ r ≡ u ++ s → (t ≡ u) × (r ≡ s)
token-unique t r u s (inl p) (inl q) e =
    IsLongestPrefix-unique is_name_byte t u {text = t ++ r}
    (record { parts = refl; bytes_pass = p.are_name_bytes; longest = p.longest })
    (record { parts = e; bytes_pass = q.are_name_bytes; longest = q.longest })
token-unique t r u s (inl p) (inr q) e =
    absurd (let h = run_front t r p in
    let k = symbol_front u s q in
    let i = ap (first_byte_is is_name_byte) e in
    cc)
token-unique t r u s (inr p) (inl q) e =
    absurd (let h = symbol_front t r p in
    let k = run_front u s q in
    let i = ap (first_byte_is is_name_byte) e in
    cc)
token-unique t r u s (inr p) (inr q) e = symbol-unique t r u s p q e

-- ---- what the reader of one token must prove

-- If the longest run of name bytes is neither a name nor a number, there is no token.
pub no_token-if_no_kind : {bytes w r : Bytes}
    → IsLongestPrefix is_name_byte bytes w r
    → first_byte_is is_name_byte bytes ≡ true
    → (IsNameOrNumber w → ⊥)
    → (t rest : Bytes)
    → bytes ≡ t ++ rest
    → IsToken t rest
    → ⊥
no_token-if_no_kind {w = w} run front never t rest f (inl p) =
    never (subst IsNameOrNumber
    (IsLongestPrefix-unique is_name_byte t w (record { parts = f; bytes_pass = p.are_name_bytes; longest = p.longest }) run).0
    p.kind)
no_token-if_no_kind run front never t rest f (inr p) =
    let h = symbol_front t rest p in
    let i = ap (first_byte_is is_name_byte) f in
    cc

-- If bytes begin with no name byte, and with no symbol of one or two bytes, they begin with no token.
pub no_token : {bytes rest : Bytes} {b : ℕ}
    → bytes ≡ b ∷ rest
    → is_name_byte b ≡ false
    → ((is_one_byte_symbol b ≡ true) × (begins_pair (byte "(") (byte "*") bytes ≡ false) → ⊥)
    → ((c d : ℕ) (more : Bytes) → bytes ≡ c ∷ d ∷ more → is_two_byte_symbol c d ≡ true → ⊥)
    → (t more : Bytes)
    → bytes ≡ t ++ more
    → IsToken t more
    → ⊥
no_token e no_word no_single short t more f (inl p) =
    let h = run_front t more p in
    let i = ap (first_byte_is is_name_byte) (sym e ∙ f) in
    cc
no_token {b = b} e no_word no_single short (c ∷ []) more f (inr p) =
    let k : b ≡ c = let i = sym e ∙ f in cc in
    no_single (rw (← k) at p.0, subst (λ l. begins_pair (byte "(") (byte "*") l ≡ false) (sym f) p.2)
no_token e no_word no_single short (c ∷ d ∷ []) more f (inr p) = short c d more f p
no_token e no_word no_single short _ more f (inr p) = p

-- Two bytes at the start that are a symbol are the token.
pub long_symbol : (bytes t rest : Bytes)
    → ((b c : ℕ) × (more : Bytes) × (bytes ≡ b ∷ c ∷ more) × (is_two_byte_symbol b c ≡ true))
    → t ≡ take 2 bytes
    → rest ≡ drop 2 bytes
    → (bytes ≡ t ++ rest) × IsToken t rest × IsOfKind Symbol t
long_symbol bytes t rest (b, c, more, e, p) f g = rw (f, g, e) (refl, inr p, symbol_front (b ∷ c ∷ []) more p)

-- If b makes no symbol with any next byte, what follows b makes no two-byte symbol with it.
no_two_byte_symbol : (more : Bytes) (b : ℕ)
    → ((d : ℕ) (l : Bytes) → more ≡ d ∷ l → is_two_byte_symbol b d ≡ true → ⊥)
    → first_byte_is (is_two_byte_symbol b) more ≡ false
no_two_byte_symbol [] b h = refl
no_two_byte_symbol (d ∷ l) b h = false_from_ne_true (is_two_byte_symbol b d) (h d l refl)

-- A one-byte symbol is the token, if no two-byte symbol starts there.
pub short_symbol : {bytes more t rest : Bytes} {b : ℕ}
    → bytes ≡ b ∷ more
    → ((c d : ℕ) (l : Bytes) → bytes ≡ c ∷ d ∷ l → is_two_byte_symbol c d ≡ true → ⊥)
    → (is_one_byte_symbol b ≡ true) × (begins_pair (byte "(") (byte "*") bytes ≡ false)
    → t ≡ take 1 bytes
    → rest ≡ drop 1 bytes
    → (bytes ≡ t ++ rest) × IsToken t rest × IsOfKind Symbol t
short_symbol {bytes} {more} {t} {rest} {b} e no_pair single f g =
    let longer = no_two_byte_symbol more b (λ d l k. no_pair b d l (e ∙ ap (λ x. b ∷ x) k)) in
    let is : IsSymbol (b ∷ []) more = (single.0, longer, subst (λ x. begins_pair (byte "(") (byte "*") x ≡ false) e single.1) in
    rw (f, g, e) (refl, inr is, symbol_front (b ∷ []) more is)

-- ---- the kind of a run of name bytes, by its first byte

-- The empty text is neither a name nor a number.
pub not-IsNameOrNumber-if_empty : {w : Bytes} → w ≡ [] → IsNameOrNumber w → ⊥
not-IsNameOrNumber-if_empty {w} is kind = let some = name_or_number_nonempty w kind in omega (arith, ap length is)

-- A run that starts with a digit and is no number is no name either.
pub no_name-if_digit_first : {w r : Bytes} {b : ℕ}
    → w ≡ b ∷ r
    → is_ascii_digit b ≡ true
    → HoldsOfNothing (IsNumber w)
    → IsNameOrNumber w
    → ⊥
no_name-if_digit_first is digit never (inl name) =
    let front = name.0.front in
    let begin = ap (first_byte_is is_ascii_digit) is in
    cc
no_name-if_digit_first is digit never (inr (n, number)) = never n number

-- A run that does not start with a digit is a name if it is short enough.
pub short_run_is_name : {w r : Bytes} {b : ℕ}
    → w ≡ b ∷ r
    → AreNameBytes w
    → is_ascii_digit b ≡ false
    → length w ≤ most_name_bytes
    → IsName w
short_run_is_name is all other short = (
  record { not_empty = omega (arith, ap length is); are_name_bytes = all; front = ap (first_byte_is is_ascii_digit) is ∙ other },
  short,
)

-- A run that does not start with a digit and is too long is neither a name nor a number.
pub not-IsNameOrNumber-if_long : {w r : Bytes} {b : ℕ}
    → w ≡ b ∷ r
    → is_ascii_digit b ≡ false
    → (length w ≤ most_name_bytes → ⊥)
    → IsNameOrNumber w
    → ⊥
not-IsNameOrNumber-if_long is other long (inl name) = long name.1
not-IsNameOrNumber-if_long {w} is other long (inr (n, number)) =
    let front = number_first w n number in
    let begin = ap (first_byte_is is_ascii_digit) is in
    cc

-- ---- all bytes of a symbol are below 128

-- If the test says that all bytes of a list are below 128, the byte at each index is.
ascii_below_128 : (w : Bytes) → list_all (λ b. nat_lt b 128) w ≡ true → (i : ℕ) → slice_index_or w i 0 < 128
ascii_below_128 w h =
    slice_index_or-ascii (λ b. nat_lt b 128) (λ b k. ltb-true b 128 k) w (list_all-AllByRecursion (λ b. nat_lt b 128) w h)

-- The bytes of a two-byte symbol are below 128.
pub long_ascii : (bytes t : Bytes)
    → ((b c : ℕ) × (more : Bytes) × (bytes ≡ b ∷ c ∷ more) × (is_two_byte_symbol b c ≡ true))
    → t ≡ take 2 bytes
    → (i : ℕ)
    → slice_index_or t i 0 < 128
long_ascii bytes t (b, c, more, e, p) f i =
    let low =
    list_all-member bytes_eq (λ x y h. (bytes_eq-Decides x y).0 h) (λ w. list_all (λ d. nat_lt d 128) w) two_byte_symbols
    (b ∷ c ∷ []) refl p in
    subst (λ w. slice_index_or w i 0 < 128) (sym (f ∙ ap (take 2) e)) (ascii_below_128 (b ∷ c ∷ []) low i)

-- The byte of a one-byte symbol is below 128.
pub short_ascii : (bytes more t : Bytes) (b : ℕ)
    → bytes ≡ b ∷ more
    → is_one_byte_symbol b ≡ true
    → t ≡ take 1 bytes
    → (i : ℕ)
    → slice_index_or t i 0 < 128
short_ascii bytes more t b e single f i =
    let low = list_all-member _ byte_eq-sound (λ d. list_all (λ d. nat_lt d 128) (d ∷ [])) one_byte_symbols b refl single in
    subst (λ w. slice_index_or w i 0 < 128) (sym (f ∙ ap (take 1) e)) (ascii_below_128 (b ∷ []) low i)

-- A run that is neither a name nor a number fails, for the cause that its first byte says.
pub run_fails : {bytes w rest more : Bytes} {first : ℕ} {cause : TextCause}
    → IsLongestRun bytes w rest
    → bytes ≡ first ∷ more
    → is_name_byte first ≡ true
    → (IsNameOrNumber w → ⊥)
    → cause ≡ (if is_ascii_digit first then Number else Name)
    → FailsInToken bytes cause
run_fails {bytes} {w} {rest} {more} {first} {cause} run begins name none is = elim (cases_Bool (is_ascii_digit first)) [
  | inl digit ↦
      no_number_run w rest run (ap (first_byte_is is_ascii_digit) begins ∙ digit) (λ n number. none (inr (n, number)))
      (is ∙ ap (λ b. if b then Number else Name) digit)
  | inr other ↦
      no_name_run w rest run (ap (first_byte_is is_name_byte) begins ∙ name) (ap (first_byte_is is_ascii_digit) begins ∙ other)
      (λ is_name. none (inl is_name)) (is ∙ ap (λ b. if b then Number else Name) other)
]
