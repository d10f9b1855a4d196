-- How the tokens of numbers start, and that each represents only one number. The crates of the languages use this.
use Rattle.lw_text.proofs.Common.{◌≡◌, ℕ, ◌<◌, inl, inr, true, [], ◌∷◌, ap, subst, arith, codes, digit_value}
use Rattle.lw_text.proofs.Common.{is_ascii_digit, nat_tests, first_byte_is, Bytes, Digits, IsNumber, no_both}
use Rattle.lw_text.proofs.Numbers.{Digits-unique}

-- A digit below ten is a decimal digit.
decimal_first : (b : ℕ) → digit_value b < 10 → is_ascii_digit b ≡ true
decimal_first b h = grind (arith, nat_tests)

-- A number starts with a digit.
pub number_first : (w : Bytes) (n : ℕ) → IsNumber w n → first_byte_is is_ascii_digit w ≡ true
number_first [] n (b, inl d) = absurd (omega arith)
number_first (x ∷ w) n (b, inl d) = decimal_first x d.1.0
number_first w n (b, inr h) = ap (first_byte_is is_ascii_digit) h.1

-- `[` is no number.
pub bracket_no_number : (n : ℕ) → IsNumber (codes "[") n → ⊥
bracket_no_number n h = let k = number_first (codes "[") n h in cc

-- A token represents at most one number, in either notation.
pub number-unique : (w : Bytes) (m n : ℕ) → IsNumber w m → IsNumber w n → m ≡ n
number-unique w m n (a, inl p) (b, inl q) = Digits-unique 10 0 w m n p.1 q.1
number-unique w m n (a, inl p) (b, inr q) = absurd (no_both w q.0 m p.1 q.1)
number-unique w m n (a, inr p) (b, inl q) = absurd (no_both w p.0 n q.1 p.1)
number-unique w m n (a, inr p) (b, inr q) =
    let f = p.1 in
    let g = q.1 in
    let e : q.0 ≡ p.0 = cc in
    Digits-unique 16 0 p.0 m n p.3 (subst (λ l. Digits 16 0 l n) e q.3)
