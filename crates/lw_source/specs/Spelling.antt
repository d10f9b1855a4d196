-- The spelling of the statements of a source test, by docs/FORMAT.md.
use Rattle.std.specs.Prelude.{ℕ, List, [], ◌∷◌, codes}
use Rattle.lw_base.specs.Types.{Bytes}
use Rattle.lw_litmus.specs.declared.stmt.Stmt.{Stmt}
use Rattle.lw_litmus.specs.declared.stmt.Stmt.TheVariants as stmt
use Rattle.lw_litmus.specs.Sources.{source_language}
use Rattle.lw_statements.specs.declared.slot.Slot.{Slot}
use Rattle.lw_statements.specs.declared.slot.Slot.TheVariants.{Keyword, Register, Location, Value, Number, Label}
use Rattle.lw_statements.specs.Spellings.{Spelling, Filling}
use Rattle.lw_source.specs.declared.language.SourceKeyword.{SourceKeyword}
use Rattle.lw_source.specs.declared.language.SourceKeyword.TheVariants as keyword
use Rattle.lw_source.specs.declared.language.SourceForm.{SourceForm}
use Rattle.lw_source.specs.declared.language.SourceForm.TheVariants.{Store, Load, Swap, FetchAdd, Set, Sum, IfEqual, IfNotEqual, Goto}

-- The text of a keyword of the source language.
abbrev pub source_keyword_text : SourceKeyword → Bytes
source_keyword_text keyword.Assign = codes ":="
source_keyword_text keyword.Swap = codes "swap"
source_keyword_text keyword.FetchAdd = codes "fetchadd"
source_keyword_text keyword.Plus = codes "+"
source_keyword_text keyword.If = codes "if"
source_keyword_text keyword.Equals = codes "="
source_keyword_text keyword.Differs = codes "!="
source_keyword_text keyword.Goto = codes "goto"

-- All forms of source statements.
abbrev pub source_forms : List SourceForm
source_forms = Store ∷ Load ∷ Swap ∷ FetchAdd ∷ Set ∷ Sum ∷ IfEqual ∷ IfNotEqual ∷ Goto ∷ []

-- The slots of a form, one for each token: `x := v`, `d := x`, `d := swap x a`, `d := fetchadd x a`, `d := v`, `d := a + v`, `if a = n goto
-- L`, `if a != n goto L`, `goto L`.
abbrev pub source_slots : SourceForm → List (Slot SourceKeyword)
source_slots Store = Location ∷ Keyword keyword.Assign ∷ Value ∷ []
source_slots Load = Register ∷ Keyword keyword.Assign ∷ Location ∷ []
source_slots Swap = Register ∷ Keyword keyword.Assign ∷ Keyword keyword.Swap ∷ Location ∷ Register ∷ []
source_slots FetchAdd = Register ∷ Keyword keyword.Assign ∷ Keyword keyword.FetchAdd ∷ Location ∷ Register ∷ []
source_slots Set = Register ∷ Keyword keyword.Assign ∷ Value ∷ []
source_slots Sum = Register ∷ Keyword keyword.Assign ∷ Register ∷ Keyword keyword.Plus ∷ Value ∷ []
source_slots IfEqual = Keyword keyword.If ∷ Register ∷ Keyword keyword.Equals ∷ Number ∷ Keyword keyword.Goto ∷ Label ∷ []
source_slots IfNotEqual = Keyword keyword.If ∷ Register ∷ Keyword keyword.Differs ∷ Number ∷ Keyword keyword.Goto ∷ Label ∷ []
source_slots Goto = Keyword keyword.Goto ∷ Label ∷ []

-- The statement of a form, from the index of its location, the index of its label's statement, and the values of its slots. Slots are named
-- by the letter of the form, by the keyword, which has no value, or as a location or a label.
abbrev pub statement : ℕ → ℕ → (form : SourceForm) → Filling (source_slots form) → Stmt
statement x target Store (location, (assign, (v, end))) = stmt.Store x v
statement x target Load (d, (assign, (location, end))) = stmt.Load d x
statement x target Swap (d, (assign, (swap, (location, (a, end))))) = stmt.Swap d x a
statement x target FetchAdd (d, (assign, (fetch_add, (location, (a, end))))) = stmt.FetchAdd d x a
statement x target Set (d, (assign, (v, end))) = stmt.Set d v
statement x target Sum (d, (assign, (a, (plus, (v, end))))) = stmt.Sum d a v
statement x target IfEqual (if_word, (a, (equals, (n, (goto, (label, end)))))) = stmt.IfEq a n target
statement x target IfNotEqual (if_word, (a, (differs, (n, (goto, (label, end)))))) = stmt.IfNe a n target
statement x target Goto (goto, (label, end)) = stmt.Goto target

-- The spelling of the source language: its keywords, forms, slots and statements.
abbrev pub source_spelling : Spelling SourceKeyword SourceForm Stmt
source_spelling = record {
  language = source_language;
  text_of = source_keyword_text;
  forms = source_forms;
  slots_of = source_slots;
  statement = statement;
}
