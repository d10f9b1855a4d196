-- The spelling of the source language satisfies the rule of cells. So the laws of lw_statements hold of source tests.
use Rattle.std.proofs.Common.{ℕ, refl, arith}
use Rattle.lw_base.specs.declared.operand.Operand.TheVariants.{Register, Number}
use Rattle.lw_statements.specs.Grammars.{IsGrammar}
use Rattle.lw_statements.specs.Spellings.{Filling}
use Rattle.lw_statements.specs.Bindings.{IsMade, IsSpelling}
use Rattle.lw_statements.proofs.api.Forms.{IsGrammar-of_spelling}
use Rattle.lw_source.specs.declared.language.SourceForm.{SourceForm}
use Rattle.lw_source.specs.declared.language.SourceForm.TheVariants.{Store, Load, Swap, FetchAdd, Set, Sum}
use Rattle.lw_source.specs.declared.language.SourceForm.TheVariants.{IfEqual, IfNotEqual, Goto}
use Rattle.lw_source.specs.Spelling.{source_slots, source_spelling}
use Rattle.lw_source.specs.Grammar.{source_grammar}
use Rattle.lw_source.specs.inner.Operands.{statement_of_operands}

-- `statement_of_operands` makes each form's statement from the operands that its tokens give: x is the index of its location, and `to` its
-- target.
IsMade-each_form : (x to : ℕ) (form : SourceForm) (f : Filling (source_slots form))
    → IsMade source_spelling statement_of_operands x to form f
IsMade-each_form x to Store (n, (_, (Register r, _))) =
    record { statement_is = refl; located = refl; target_is = refl; operands_in_range = λ p q. (p, q) }
IsMade-each_form x to Store (n, (_, (Number m, _))) =
    record { statement_is = refl; located = refl; target_is = refl; operands_in_range = λ p q. (p, q) }
IsMade-each_form x to Load (d, (_, (n, _))) =
    record { statement_is = refl; located = refl; target_is = refl; operands_in_range = λ p q. (p, q) }
IsMade-each_form x to Swap (d, (_, (_, (n, (a, _))))) =
    record { statement_is = refl; located = refl; target_is = refl; operands_in_range = λ p q. (p, q) }
IsMade-each_form x to FetchAdd (d, (_, (_, (n, (a, _))))) =
    record { statement_is = refl; located = refl; target_is = refl; operands_in_range = λ p q. (p, q) }
IsMade-each_form x to Set (d, (_, (Register r, _))) =
    record { statement_is = refl; located = refl; target_is = refl; operands_in_range = λ p q. (p, q) }
IsMade-each_form x to Set (d, (_, (Number m, _))) =
    record { statement_is = refl; located = refl; target_is = refl; operands_in_range = λ p q. (p, q) }
IsMade-each_form x to Sum (d, (_, (a, (_, (Register r, _))))) =
    record { statement_is = refl; located = refl; target_is = refl; operands_in_range = λ p q. (p, q) }
IsMade-each_form x to Sum (d, (_, (a, (_, (Number m, _))))) =
    record { statement_is = refl; located = refl; target_is = refl; operands_in_range = λ p q. (p, q) }
IsMade-each_form x to IfEqual (_, (a, (_, (n, (_, (l, _)))))) =
    record { statement_is = refl; located = refl; target_is = refl; operands_in_range = λ p q. (p, q) }
IsMade-each_form x to IfNotEqual (_, (a, (_, (n, (_, (l, _)))))) =
    record { statement_is = refl; located = refl; target_is = refl; operands_in_range = λ p q. (p, q) }
IsMade-each_form x to Goto (_, (l, _)) =
    record { statement_is = refl; located = refl; target_is = refl; operands_in_range = λ p q. (p, q) }

-- The spelling of the source language is lawful: its forms are distinguishable, and its statements made from their operands.
pub source_forms_are_spelled : IsSpelling source_spelling statement_of_operands
source_forms_are_spelled = record {
  countable = omega arith;
  disjoint = refl;
  statements = refl;
  names = refl;
  clear = refl;
  words = refl;
  makes_statements = IsMade-each_form;
}

-- The grammar of the source language satisfies the rule of cells.
pub source_grammar_is_lawful : IsGrammar source_grammar
source_grammar_is_lawful = IsGrammar-of_spelling source_spelling statement_of_operands source_forms_are_spelled
