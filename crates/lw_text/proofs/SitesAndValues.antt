-- Numbers, values, sites and initializers have unique parses; and the tokens that close and separate lists of
-- them. The smallest step of the proof that a text has one frame.
use Rattle.lw_text.proofs.Common.{◌≡◌, ℕ, ◌<◌, ◌⊎◌, inl, inr, Bool, true, false, not, [], ◌∷◌, length, ap}
use Rattle.lw_text.proofs.Common.{subst, arith, codes, ◌&&◌, ◌||◌, ◌==◌, sym, ◌∙◌, is_ascii_digit, and_parts}
use Rattle.lw_text.proofs.Common.{or_cases, not-true, HoldsOfNothing, ParsesNothing, is_name_byte}
use Rattle.lw_text.proofs.Common.{first_byte_is, Bytes, TokenList, Arch, IsName, IsUnreservedName}
use Rattle.lw_text.proofs.Common.{is_reserved, IsRegisterName, register_of_name-unique, IsNumber, SiteSyntax}
use Rattle.lw_text.proofs.Common.{InMemory, InThread, IsSite, Value, IsInitializer}
use Rattle.lw_text.proofs.api.Numbers.{number_first, bracket_no_number, number-unique}
use Rattle.lw_text.proofs.Lists.{IsDeterministic}

-- No token is both a number and a name, since a number starts with a digit.
pub not-number_and_name : (w : Bytes) (n : ℕ) → IsNumber w n → IsName w → ⊥
not-number_and_name w n p q =
    let h = number_first w n p in
    let k = q.0.front in
    cc

-- If tokens begin with `=` and then a token that is no number, they begin with no value.
pub no_value-if_no_number : (ts l m : TokenList) (t : Bytes)
    → ts ≡ codes "=" ∷ l
    → l ≡ t ∷ m
    → HoldsOfNothing (IsNumber t)
    → ParsesNothing (Value ts)
no_value-if_no_number ts l m t e f none v rest (w, g, number) =
    let same : w ≡ t = cc in none v (subst (λ w. IsNumber w v) same number)

-- If tokens begin with a value, the value and what follows it are unique.
pub Value-unique : (ts r s : TokenList) (v w : ℕ) → Value ts v r → Value ts w s → (v ≡ w) × (r ≡ s)
Value-unique ts r s v w (a, e, is_v) (b, f, is_w) =
    let same : b ≡ a = cc in (number-unique a v w is_v (subst (λ x. IsNumber x w) same is_w), cc)

-- A value takes at least one token.
pub Value-shorter : (ts rest : TokenList) (v : ℕ) → Value ts v rest → length rest < length ts
Value-shorter ts rest v p = omega (arith, ap length p.1)

-- ---- sites

-- `[` is no name.
pub bracket_no_name : IsName (codes "[") → ⊥
bracket_no_name n = let h = n.0.are_name_bytes.0 in cc

-- Tokens do not start both with a name and with `[`.
not-name_and_bracket_next : {ts l m : TokenList} {x : Bytes} → IsName x → ts ≡ x ∷ l → ts ≡ codes "[" ∷ m → ⊥
not-name_and_bracket_next {x = x} name e f = let k : x ≡ codes "[" = cc in bracket_no_name (subst IsName k name)

-- Tokens do not start both with a name and with a number.
not-name_and_number_next : {ts l m : TokenList} {x w : Bytes} {n : ℕ} → IsName x → IsNumber w n → ts ≡ x ∷ l → ts ≡ w ∷ m → ⊥
not-name_and_number_next {x = x} {w = w} {n = n} name number e f =
    let k : x ≡ w = cc in not-number_and_name w n number (subst IsName k name)

-- Tokens do not start both with a number and with `[`.
not-number_and_bracket_next : {ts l m : TokenList} {w : Bytes} {n : ℕ} → IsNumber w n → ts ≡ w ∷ l → ts ≡ codes "[" ∷ m → ⊥
not-number_and_bracket_next {w = w} {n = n} number e f =
    let k : w ≡ codes "[" = cc in bracket_no_number n (subst (λ w. IsNumber w n) k number)

-- The parse of a site is unique: `x`, `[x]` and `t : r` start with tokens of three kinds.
pub IsSite-unique : (arch : Arch) → IsDeterministic (IsSite arch)
IsSite-unique arch ts (InMemory x) (InMemory y) r s (p, inl e) (q, inl f) = let k : x ≡ y = cc in (ap InMemory k, cc)
IsSite-unique arch ts (InMemory x) (InMemory y) r s (p, inl e) (q, inr f) = absurd (not-name_and_bracket_next p.0 e f)
IsSite-unique arch ts (InMemory x) (InMemory y) r s (p, inr e) (q, inl f) = absurd (not-name_and_bracket_next q.0 f e)
IsSite-unique arch ts (InMemory x) (InMemory y) r s (p, inr e) (q, inr f) = let k : x ≡ y = cc in (ap InMemory k, cc)
IsSite-unique arch ts (InMemory x) (InThread t n) r s (p, inl e) (w, v, f, number, register) =
    absurd (not-name_and_number_next p.0 number e f)
IsSite-unique arch ts (InMemory x) (InThread t n) r s (p, inr e) (w, v, f, number, register) =
    absurd (not-number_and_bracket_next number f e)
IsSite-unique arch ts (InThread t n) (InMemory x) r s (w, v, e, number, register) (p, inl f) =
    absurd (not-name_and_number_next p.0 number f e)
IsSite-unique arch ts (InThread t n) (InMemory x) r s (w, v, e, number, register) (p, inr f) =
    absurd (not-number_and_bracket_next number e f)
IsSite-unique arch ts (InThread t n) (InThread u m) r s (w, v, e, is_t, is_n) (w', v', f, is_u, is_m) =
    let words : w' ≡ w = cc in
    let names : v' ≡ v = cc in
    let threads : t ≡ u = number-unique w t u is_t (subst (λ x. IsNumber x u) words is_u) in
    let registers : n ≡ m = register_of_name-unique arch v n m is_n (subst (λ x. IsRegisterName arch x m) names is_m) in
    (cc, cc)

-- A site takes at least one token.
pub IsSite-shorter : (arch : Arch) (ts rest : TokenList) (s : SiteSyntax) → IsSite arch ts s rest → length rest < length ts
IsSite-shorter arch ts rest (InMemory x) (p, inl e) = omega (arith, ap length e)
IsSite-shorter arch ts rest (InMemory x) (p, inr e) = omega (arith, ap length e)
IsSite-shorter arch ts rest (InThread t r) p = omega (arith, ap length p.2)

-- A site starts with a location's name, a number or `[`.
first_token_of_site : (arch : Arch) (ts rest : TokenList) (s : SiteSyntax)
    → IsSite arch ts s rest
    → (t : Bytes) (l : TokenList)
    → ts ≡ t ∷ l
    → IsUnreservedName t ⊎ (((n : ℕ) × IsNumber t n) ⊎ (t ≡ codes "["))
first_token_of_site arch ts rest (InMemory x) (p, inl e) t l f = let k : x ≡ t = cc in inl (subst IsUnreservedName k p)
first_token_of_site arch ts rest (InMemory x) (p, inr e) t l f = inr (inr cc)
first_token_of_site arch ts rest (InThread u r) (w, v, e, number, register) t l f =
    let k : w ≡ t = cc in inr (inl (u, subst (λ w. IsNumber w u) k number))

-- Tests whether a token starts no site, by its first byte or because it is a reserved name.
abbrev pub starts_no_site : Bytes → Bool
starts_no_site [] = false
starts_no_site (b ∷ w) = not (is_ascii_digit b) && (not (b == 91) && (not (is_name_byte b) || is_reserved (b ∷ w)))

-- No site starts with a token for which `starts_no_site` is true.
pub no_site : (w : Bytes)
    → starts_no_site w ≡ true
    → (arch : Arch) (ts rest mid : TokenList) (site : SiteSyntax)
    → ts ≡ w ∷ rest
    → IsSite arch ts site mid
    → ⊥
no_site [] h arch ts rest mid site e p = absurd cc
no_site (b ∷ w) h arch ts rest mid site e p =
    let first = and_parts (not (is_ascii_digit b)) (not (b == 91) && (not (is_name_byte b) || is_reserved (b ∷ w))) h in
    let more = and_parts (not (b == 91)) (not (is_name_byte b) || is_reserved (b ∷ w)) first.1 in
    elim (first_token_of_site arch ts mid site p (b ∷ w) rest e) [
      | inl x ↦ elim (or_cases (not (is_name_byte b)) (is_reserved (b ∷ w)) more.1) [
        | inl f ↦
            let g = x.0.0.are_name_bytes.0 in
            let i = not-true (is_name_byte b) f in
            cc
        | inr r ↦ let g = x.1 in cc
      ]
      | inr (inl n) ↦
          let g = number_first _ n.0 n.1 in
          let i = not-true (is_ascii_digit b) first.0 in
          cc
      | inr (inr k) ↦
          let g = ap (first_byte_is (λ x. x == 91)) k in
          let i = not-true (b == 91) more.0 in
          cc
    ]

-- The empty list of tokens begins with no site.
pub no_site-if_empty : (arch : Arch) (ts rest : TokenList) (s : SiteSyntax) → ts ≡ [] → IsSite arch ts s rest → ⊥
no_site-if_empty arch ts rest (InMemory x) e (p, inl f) = cc
no_site-if_empty arch ts rest (InMemory x) e (p, inr f) = cc
no_site-if_empty arch ts rest (InThread t r) e p = let f = p.2 in cc

-- ---- initializers

-- The parse of an initializer, which is a site and then its word, is unique.
pub IsInitializer-unique : (arch : Arch) → IsDeterministic (IsInitializer arch)
IsInitializer-unique arch ts a b r s p q =
    let e = IsSite-unique arch ts a.site b.site p.0 q.0 p.1 q.1 in
    let f = Value-unique p.0 r s a.word b.word p.2 (subst (λ l. Value l b.word s) (sym e.1) q.2) in
    (ap (λ x. record { site = x; word = a.word }) e.0 ∙ ap (λ w. record { site = b.site; word = w }) f.0, f.1)

-- If tokens begin with a site that no value follows, they begin with no initializer.
pub no_initializer-if_no_value : (arch : Arch) (ts mid : TokenList) (site : SiteSyntax)
    → IsSite arch ts site mid
    → ParsesNothing (Value mid)
    → ParsesNothing (IsInitializer arch ts)
no_initializer-if_no_value arch ts mid site s never e rest p =
    never e.word rest (subst (λ l. Value l e.word rest) (IsSite-unique arch ts e.site site p.0 mid p.1 s).1 p.2)

-- The token that closes the initial block.
abbrev pub brace : Bytes
brace = codes "}"

-- The token that closes the list of names.
abbrev pub bracket : Bytes
bracket = codes "]"

-- The token that separates the elements of a list.
abbrev pub semicolon : Bytes
semicolon = codes ";"
