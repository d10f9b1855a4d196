-- Terminals in memory, as terminals of the grammar of propositions. Used only within the crate.
use Rattle.lw_base.specs.Formula.{Formula, Yes, No, Reg_is, Word_is}
use Rattle.lw_text.specs.declared.terminal.Terminal.{Terminal}
use Rattle.lw_text.specs.declared.terminal.Terminal.TheVariants as made
use Rattle.lw_text.specs.declared.terminal.Atom.{Atom}
use Rattle.lw_text.specs.declared.terminal.Atom.TheVariants.{Always, Never, WordIs, RegIs}
use Rattle.lw_text.specs.Propositions.{Open, Close, Negation, Conjunction, Disjunction, Atom as says}
use Rattle.lw_text.specs.Propositions as syntax

-- The formula of an atom in memory.
abbrev pub atom_formula : Atom → Formula
atom_formula Always = Yes
atom_formula Never = No
atom_formula (WordIs loc n) = Word_is loc n
atom_formula (RegIs t r n) = Reg_is t r n

-- The terminal of the grammar, with an atom's formula.
abbrev pub terminal_of : Terminal → syntax.Terminal Formula
terminal_of made.Open = Open
terminal_of made.Close = Close
terminal_of made.Negation = Negation
terminal_of made.Conjunction = Conjunction
terminal_of made.Disjunction = Disjunction
terminal_of (made.Atom a) = says (atom_formula a)
