-- The number that digits represent, as a loop computes it digit by digit. The loop of `digits` goes by
-- `DigitsContinueAt`.
use Rattle.lw_text.proofs.Common.{◌≡◌, ℕ, ◌+◌, ◌*◌, ◌^◌, ◌<◌, ◌≤◌, [], ◌∷◌, sym, ap, ◌∙◌, subst, arith}
use Rattle.lw_text.proofs.Common.{mul-le-mul_left, mul_comm, Option, Some, None, IfNone, digit_value, Bytes}
use Rattle.lw_text.proofs.Common.{Digits}

-- Further digits do not make a number smaller.
pub Digits-grow : (base n : ℕ) (ds : Bytes) (v : ℕ) → 1 ≤ base → Digits base n ds v → n ≤ v
Digits-grow base n [] v h d = omega (arith, d)
Digits-grow base n (x ∷ ds) v h d = omega (arith, Digits-grow base (base * n + digit_value x) ds v h d.1, mul-le-mul_left n h)

-- Digits represent at most one number.
pub Digits-unique : (base n : ℕ) (ds : Bytes) (v w : ℕ) → Digits base n ds v → Digits base n ds w → v ≡ w
Digits-unique base n [] v w d e = sym d ∙ e
Digits-unique base n (x ∷ ds) v w d e = Digits-unique base (base * n + digit_value x) ds v w d.1 e.1

-- The invariant of the loop over digits: all of them represent what the rest represents after the number n.
pub record DigitsContinueAt (base : ℕ) (digits : Bytes) (n : ℕ) (rest : Bytes) : Type 0 where
  pub whole_if_rest : (v : ℕ) → Digits base n rest v → Digits base 0 digits v
  pub rest_if_whole : (v : ℕ) → Digits base 0 digits v → Digits base n rest v

module _ {base : ℕ} {digits : Bytes} {n : ℕ} {rest next : Bytes} {x : ℕ} (r : DigitsContinueAt base digits n rest)
    (e : rest ≡ x ∷ next) where
  -- The digits from this one on represent the same number.
  Digits-from_value : (v : ℕ) → Digits base 0 digits v → Digits base n (x ∷ next) v
  Digits-from_value v d = subst (λ l. Digits base n l v) e (r.rest_if_whole v d)

  -- If one more digit makes the number `2 ^ 32` or more, the digits represent no smaller number.
  pub not-Digits-if_too_large : 1 ≤ base → 2 ^ 32 ≤ base * n + digit_value x → (v : ℕ) → v < 2 ^ 32 → Digits base 0 digits v → ⊥
  not-Digits-if_too_large pos large v lt d =
      omega (arith, large, lt, Digits-grow base (base * n + digit_value x) next v pos (Digits-from_value v d).1)

  -- One more digit preserves the invariant, with the number extended by it.
  pub DigitsContinueAt-next : (m : ℕ) → m ≡ base * n + digit_value x → digit_value x < base → DigitsContinueAt base digits m next
  DigitsContinueAt-next m f small = rw f (record {
    whole_if_rest = λ v d. r.whole_if_rest v (subst (λ l. Digits base n l v) (sym e) (small, d));
    rest_if_whole = λ v d. (Digits-from_value v d).1;
  })

-- The number with one more digit, as the code computes it, is the one of `Digits`.
pub next_value : (base n x b d : ℕ) → b ≡ base → d ≡ digit_value x → n * b + d ≡ base * n + digit_value x
next_value base n x b d e f = rw (e, f) (ap (λ y. y + digit_value x) (mul_comm n base))

-- A fact that holds in every case holds if an option is `None`.
pub IfNone-of_fact : {A : Type 0} (o : Option A) (P : Type 0) → P → IfNone o P
IfNone-of_fact None P p = p
IfNone-of_fact (Some x) P p = tt
