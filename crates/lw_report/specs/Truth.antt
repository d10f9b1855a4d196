-- The truth of a proposition in an outcome.
use Rattle.std.specs.Prelude.{ℕ, Bool, true, false, not, ◌==◌, ◌&&◌, ◌||◌}
use Rattle.lw_base.specs.Formula.{Formula, Yes, No, Reg_is, Word_is, Not, And, Or}
use Rattle.lw_base.specs.FinalWords.{final_word}
use Rattle.lw_base.specs.Outcomes.{FinalState}
use Rattle.lw_base.specs.declared.head.Seen.{Seen}
use Rattle.lw_base.specs.declared.head.Seen.TheVariants.{Register, Location}

-- Tests whether a proposition is true in an outcome.
abbrev pub is_true : Formula → FinalState → Bool
is_true Yes o = true
is_true No o = false
is_true (Reg_is t r n) o = final_word o (Register t r) == n
is_true (Word_is x n) o = final_word o (Location x) == n
is_true (Not p) o = not (is_true p o)
is_true (And p q) o = is_true p o && is_true q o
is_true (Or p q) o = is_true p o || is_true q o
