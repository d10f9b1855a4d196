-- Propositions over final states. Processors, registers and locations are their indices.
use Rattle.std.specs.Prelude.{ℕ, ◌+◌, suc}

-- A proposition over final states: true, false, a register or a location has a word, and the connectives.
pub data Formula : Type 0 where
  Yes : Formula
  No : Formula
  Reg_is : (cpu reg word : ℕ) → Formula
  Word_is : (loc word : ℕ) → Formula
  Not : (p : Formula) → Formula
  And : (p q : Formula) → Formula
  Or : (p q : Formula) → Formula

-- The number of atoms and connectives of a formula.
abbrev pub nodes : Formula → ℕ
nodes Yes = 1
nodes No = 1
nodes (Reg_is cpu reg word) = 1
nodes (Word_is loc word) = 1
nodes (Not p) = suc (nodes p)
nodes (And p q) = suc (nodes p + nodes q)
nodes (Or p q) = suc (nodes p + nodes q)
