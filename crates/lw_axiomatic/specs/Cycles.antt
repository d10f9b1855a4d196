-- Cycles, as closed walks.
use Rattle.std.specs.Prelude.{◌≡◌, ℕ, zero, suc}

module _ {E : Type 0} (R : E → E → Type 0) where
  -- There is a walk of n steps along the relation from a to b.
  abbrev pub Walk : ℕ → E → E → Type 0
  Walk zero a b = a ≡ b
  Walk (suc n) a b = (c : E) × R a c × Walk n c b

  -- No walk of one step or more is closed.
  abbrev pub HasNoCycle : Type 0
  HasNoCycle = (n : ℕ) (e : E) → Walk (suc n) e e → ⊥
