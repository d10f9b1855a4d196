-- The words of registers and locations in an outcome.
use Rattle.std.specs.Prelude.{◌≡◌, ℕ, slice_index, slice_index_or, List, [], map, Contains}
use Rattle.lw_base.specs.Outcomes.{FinalState}
use Rattle.lw_base.specs.declared.head.Seen.{Seen}
use Rattle.lw_base.specs.declared.head.Seen.TheVariants.{Register, Location}

-- The final word of a register or a location.
abbrev pub final_word : FinalState → Seen → ℕ
final_word o (Register t r) = slice_index (slice_index_or o.regs t []) r
final_word o (Location x) = slice_index o.words x

-- The final words of some registers and locations.
abbrev pub final_words : List Seen → FinalState → List ℕ
final_words names o = map (final_word o) names

-- Some outcome of a list has the final words of outcome o at these names.
abbrev pub ContainsWordsOf : List Seen → List FinalState → FinalState → Type 0
ContainsWordsOf names outcomes o = (p : FinalState) × Contains outcomes p × (final_words names p ≡ final_words names o)
