-- The spelling of x86 satisfies the rule of cells: its forms are distinguishable, and each instruction is
-- made from the operands that its tokens give. So all laws of lw_statements hold for x86.
use Rattle.lw_x86.proofs.Common.{ℕ, refl, arith, rules, Number, IsGrammar, Filling, IsMade, IsSpelling}
use Rattle.lw_x86.proofs.Common.{IsGrammar-of_spelling, X86Form, Compare, x86_slots, x86_spelling}
use Rattle.lw_x86.proofs.Common.{x86_grammar, instruction_of_operands}
use Rattle.lw_base.specs.declared.operand.Operand.TheVariants.{Register}
use Rattle.lw_x86.specs.declared.language.X86Form.TheVariants.{Store, Set, Add}

-- `instruction_of_operands` makes each form's instruction from the operands that its tokens give: x is the index of its location, and `to`
-- its target. Only forms with a slot for a value need rows of their own, since a register and a number are different cases.
IsMade-each_form : (x to : ℕ) (form : X86Form) (f : Filling (x86_slots form))
    → IsMade x86_spelling instruction_of_operands x to form f
IsMade-each_form x to Store (_, (_, (y, (_, (_, (Register r, _)))))) =
    record { statement_is = refl; located = refl; target_is = refl; operands_in_range = λ p q. (p, q) }
IsMade-each_form x to Store (_, (_, (y, (_, (_, (Number n, _)))))) =
    record { statement_is = refl; located = refl; target_is = refl; operands_in_range = λ p q. (p, q) }
IsMade-each_form x to Set (_, (d, (_, (Register r, _)))) =
    record { statement_is = refl; located = refl; target_is = refl; operands_in_range = λ p q. (p, q) }
IsMade-each_form x to Set (_, (d, (_, (Number n, _)))) =
    record { statement_is = refl; located = refl; target_is = refl; operands_in_range = λ p q. (p, q) }
IsMade-each_form x to Add (_, (d, (_, (Register r, _)))) =
    record { statement_is = refl; located = refl; target_is = refl; operands_in_range = λ p q. ((p.0, p), q) }
IsMade-each_form x to Add (_, (d, (_, (Number n, _)))) =
    record { statement_is = refl; located = refl; target_is = refl; operands_in_range = λ p q. ((p.0, p), q) }
IsMade-each_form x to Compare (_, (d, (_, (Register r, _)))) =
    record { statement_is = refl; located = refl; target_is = refl; operands_in_range = λ p q. (p, q) }
IsMade-each_form x to Compare (_, (d, (_, (Number n, _)))) =
    record { statement_is = refl; located = refl; target_is = refl; operands_in_range = λ p q. (p, q) }
IsMade-each_form x to form f =
    record { statement_is = refl; located = refl; target_is = refl; operands_in_range = λ p q. search rules }

-- The spelling of x86 is lawful: its forms are distinguishable, and its instructions made from their operands.
pub x86_forms_are_spelled : IsSpelling x86_spelling instruction_of_operands
x86_forms_are_spelled = record {
  countable = omega arith;
  disjoint = refl;
  statements = refl;
  names = refl;
  clear = refl;
  words = refl;
  makes_statements = IsMade-each_form;
}

-- The grammar of x86 satisfies the rule of cells.
pub x86_grammar_is_lawful : IsGrammar x86_grammar
x86_grammar_is_lawful = IsGrammar-of_spelling x86_spelling instruction_of_operands x86_forms_are_spelled
