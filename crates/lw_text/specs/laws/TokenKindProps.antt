-- That a token is of a kind is a proposition, as a ghost field requires of its fact. The field cites these proofs; there is no definition
-- here.
use Rattle.std.specs.Prelude.{◌≡◌, ℕ, ◌+◌, ◌*◌, ◌<◌, ◌⊎◌, [], ◌∷◌, ◌++◌, length, codes}
use Rattle.std.specs.Char.{digit_value}
use Rattle.std.specs.Coded.{×_prop, le_prop}
use Rattle.std.proofs.Props.{props}
use Rattle.std.proofs.Common.{inl, inr, sym, ◌∙◌, ap, subst, drop, arith}
use Rattle.lw_base.specs.Types.{Bytes}
use Rattle.lw_text.specs.declared.token_kind.TokenKind.{TokenKind}
use Rattle.lw_text.specs.declared.token_kind.TokenKind.TheVariants.{Name, Number, Symbol}
use Rattle.lw_text.specs.Tokens.{Digits, IsNumber}
use Rattle.lw_text.specs.TokenKinds.{IsOfKind}

-- `Digits` is a proposition.
Digits-prop : (base n : ℕ) (ds : Bytes) (v : ℕ) → IsProp (Digits base n ds v)
Digits-prop base n [] v = hlevel props
Digits-prop base n (d ∷ ds) v = ×_prop le_prop (Digits-prop base (base * n + digit_value d) ds v)

-- That decimal digits are a number is a proposition.
Decimal-prop : (w : Bytes) (n : ℕ) → IsProp ((0 < length w) × Digits 10 0 w n)
Decimal-prop w n = ×_prop le_prop (Digits-prop 10 0 w n)

-- The text after `0x` is these digits of this number.
abbrev AreHexadecimalDigits : Bytes → ℕ → Bytes → Type 0
AreHexadecimalDigits w n ds = (w ≡ codes "0x" ++ ds) × (0 < length ds) × Digits 16 0 ds n

-- `AreHexadecimalDigits` is a proposition.
AreHexadecimalDigits-prop : (w : Bytes) (n : ℕ) (ds : Bytes) → IsProp (AreHexadecimalDigits w n ds)
AreHexadecimalDigits-prop w n ds = hlevel (props, Digits-prop)

-- That hexadecimal digits are a number is a proposition.
Hexadecimal-prop : (w : Bytes) (n : ℕ)
    → IsProp ((ds : Bytes) × (w ≡ codes "0x" ++ ds) × (0 < length ds) × Digits 16 0 ds n)
Hexadecimal-prop w n p q =
    let same : p.0 ≡ q.0 = ap (λ l. drop 2 l) (sym p.1 ∙ q.1) in
    subst (λ ds. (b : AreHexadecimalDigits w n ds) → p ≡ (ds, b.0, b.1, b.2)) same
    (λ b. ap (λ c. (p.0, c.0, c.1, c.2)) (AreHexadecimalDigits-prop w n p.0 (p.1, p.2, p.3) b)) (q.1, q.2, q.3)

-- Decimal digits do not begin with `0x`.
pub no_both : (w ds : Bytes) (n : ℕ) → Digits 10 0 w n → w ≡ codes "0x" ++ ds → ⊥
no_both w ds n d e = let h = subst (λ l. Digits 10 0 l n) e d in omega (arith, h.1.0)

-- `IsNumber` is a proposition: a token is a number in one of the two notations.
IsNumber-prop : (w : Bytes) (n : ℕ) → IsProp (IsNumber w n)
IsNumber-prop w n = ×_prop le_prop one
  where
    one : IsProp (((0 < length w) × Digits 10 0 w n)
        ⊎ ((ds : Bytes) × (w ≡ codes "0x" ++ ds) × (0 < length ds) × Digits 16 0 ds n))
    one (inl d) (inl e) = ap inl (Decimal-prop w n d e)
    one (inl d) (inr h) = absurd (no_both w h.0 n d.1 h.1)
    one (inr h) (inl d) = absurd (no_both w h.0 n d.1 h.1)
    one (inr h) (inr k) = ap inr (Hexadecimal-prop w n h k)

-- `IsOfKind` is a proposition.
pub IsOfKind-prop : (kind : TokenKind) (w : Bytes) → IsProp (IsOfKind kind w)
IsOfKind-prop Name w = hlevel props
IsOfKind-prop (Number n) w = IsNumber-prop w n
IsOfKind-prop Symbol w = hlevel props
