-- The block for a number of bytes has room for them, and its class is one of the 60.
use Rattle.std.proofs.Common.{◌≡◌, ℕ, ◌-◌, ◌*◌, ◌/◌, ◌^◌, ◌<◌, ◌≤◌, max, ap, subst, sym, arith, pow_mono, ⊎_elim}
use Rattle.std.proofs.lemmas.Bool.{cases_lt}
use Rattle.std.proofs.lemmas.Nat.{leading_length}
use Rattle.lw_arena.specs.Sizes.{block_class, block_units}

-- The class of the block for n bytes is one of the 60, and that block has room for them.
pub record FitsClass (n : ℕ) : Type 0 where
  pub bounded : block_class n < 60
  pub holds : n ≤ block_units n * 16

-- Each number of bytes below `2 ^ 63`, the most that is requested, has one of the 60 classes, and its block has room for the bytes.
pub FitsClass-of_size : (n : ℕ) → n < 2 ^ 63 → FitsClass n
FitsClass-of_size n small =
    let x : ℕ = (max n 1 - 1) / 16 in
    let length = leading_length 64 x (omega arith) in
    let is : block_class n ≡ length.0 = omega (arith, length.1) in
    let units : block_units n ≡ 2 ^ length.0 = ap (λ (m : ℕ). 2 ^ m) is in
    record {
      bounded =
          subst (λ (m : ℕ). m < 60) (sym is)
          (⊎_elim (λ below. below) (λ above. absurd (omega (arith, pow_mono above, length.3))) (cases_lt length.0 60));
      holds = omega (arith, units, length.2);
    }

-- Each block has at least one unit.
pub block_units-positive : (n : ℕ) → 1 ≤ block_units n
block_units-positive n = omega (arith, pow_mono {i = 0} {j = block_class n} (omega arith))
