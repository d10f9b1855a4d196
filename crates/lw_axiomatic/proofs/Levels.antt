-- Numbers in levels of equal size: they order pairs of numbers by the first and then by the second, without a
-- bound on either. Ranks of events are made so: by a rank in global happens-before, and among equal ones by
-- position or thread.
use Rattle.lw_axiomatic.proofs.Common.{◌≡◌, ℕ, zero, suc, ◌+◌, ◌<◌, ◌≤◌, inl, inr, List, [], ◌∷◌, length}
use Rattle.lw_axiomatic.proofs.Common.{refl, ap, arith, cases_order, Instr, thread_code}

-- Returns the first number of the n-th level, if each level has `width` numbers.
pub level : ℕ → ℕ → ℕ
level width zero = 0
level width (suc n) = level width n + width

-- The first level begins at 0.
level-zero : (width : ℕ) → level width zero ≡ 0
unfolding level
level-zero width = refl

-- A level begins where the one before it ends.
pub level-suc : (width n : ℕ) → level width (suc n) ≡ level width n + width
unfolding level
level-suc width n = refl

-- A higher level begins at a number no lower.
pub level-le : (width a b : ℕ) → a ≤ b → level width a ≤ level width b
level-le width zero b le = omega (arith, level-zero width)
level-le width (suc a) zero le = absurd (omega (arith, le))
level-le width (suc a) (suc b) le = omega (arith, level-le width a b (omega (arith, le)), level-suc width a, level-suc width b)

-- A level ends before a higher one begins.
pub level-lt : (width a b : ℕ) → a < b → level width a + width ≤ level width b
level-lt width a b less = omega (arith, level-le width (suc a) b (omega (arith, less)), level-suc width a)

-- If level a begins at or below a number of level b, a is at most b.
pub level-below : (width a b s : ℕ) → s < width → level width a ≤ level width b + s → a ≤ b
level-below width a b s low le = elim (cases_order a b) [
  | inl same ↦ omega (arith, same)
  | inr (inl less) ↦ omega (arith, less)
  | inr (inr more) ↦ absurd (omega (arith, level-lt width b a more, low, le))
]

-- A number is in one level only, and at one place in it.
pub level-unique : (width a b s t : ℕ) → s < width → t < width → level width a + s ≡ level width b + t → (a ≡ b) × (s ≡ t)
level-unique width a b s t low lower same = elim (cases_order a b) [
  | inl one ↦ (one, omega (arith, same, ap (level width) one))
  | inr (inl less) ↦ absurd (omega (arith, level-lt width a b less, low, same))
  | inr (inr more) ↦ absurd (omega (arith, level-lt width b a more, lower, same))
]

-- Returns the number of all instructions of a program: no thread has more.
pub size : List (List Instr) → ℕ
size [] = 0
size (code ∷ program) = length code + size program

-- No thread of a program has more instructions than all threads have together.
pub length-size : (program : List (List Instr)) (t : ℕ) → length (thread_code program t) ≤ size program
unfolding size
length-size [] t = let is_nil : thread_code {S = Instr} [] t ≡ [] = refl in omega (arith, ap length is_nil)
length-size (code ∷ program) zero = let first : thread_code (code ∷ program) zero ≡ code = refl in omega (arith, ap length first)
length-size (code ∷ program) (suc t) =
    let later : thread_code (code ∷ program) (suc t) ≡ thread_code program t = refl in
    omega (arith, ap length later, length-size program t)
