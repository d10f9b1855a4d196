-- The observed names: those in the condition, and those in the list.
use Rattle.std.specs.Prelude.{ℕ, Bool, false, ◌||◌, List, ◌++◌, length, filter}
use Rattle.std.specs.List.{list_any}
use Rattle.lw_base.specs.Formula.{Formula, Yes, No, Reg_is, Word_is, Not, And, Or}
use Rattle.lw_base.specs.FinalWords.{final_words}
use Rattle.lw_base.specs.Heads.{TestHead}
use Rattle.lw_base.specs.Outcomes.{FinalState}
use Rattle.lw_base.specs.declared.head.Seen.{Seen}
use Rattle.lw_base.specs.declared.head.Seen.TheVariants.{Register, Location}
use Rattle.lw_base.specs.SeenLists.{seen_eq, all_registers, locations}

-- Tests whether a proposition names a register or a location.
abbrev pub is_named : Formula → Seen → Bool
is_named Yes s = false
is_named No s = false
is_named (Reg_is t r n) s = seen_eq (Register t r) s
is_named (Word_is x n) s = seen_eq (Location x) s
is_named (Not p) s = is_named p s
is_named (And p q) s = is_named p s || is_named q s
is_named (Or p q) s = is_named p s || is_named q s

-- Tests whether a register or a location is in the condition or in the list.
abbrev pub is_observed : TestHead → Seen → Bool
is_observed head s = is_named head.proposition s || list_any (λ l. seen_eq l s) head.listed

-- The observed names: registers by thread and index, then locations by index.
abbrev pub observed : TestHead → List Seen
observed head = filter (is_observed head) (all_registers head.threads ++ locations (length head.locs))

-- The words of the observed names in an outcome.
abbrev pub observed_words : TestHead → FinalState → List ℕ
observed_words head o = final_words (observed head) o
