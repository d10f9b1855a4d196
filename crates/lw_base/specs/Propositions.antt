-- The formula of a `Prop` in memory, without the addresses of its boxes.
use Rattle.lw_base.specs.declared.proposition.Prop.{Prop, Always, Never, RegIs, WordIs, Neg', Both', Either'}
use Rattle.lw_base.specs.Formula.{Formula, Yes, No, Reg_is, Word_is, Not, And, Or}

-- The formula of a `Prop`, by recursion.
abbrev pub formula_of : {A : Type 0} → Prop A → Formula
formula_of Always = Yes
formula_of Never = No
formula_of (RegIs cpu reg word) = Reg_is cpu reg word
formula_of (WordIs loc word) = Word_is loc word
formula_of (Neg' a p) = Not (formula_of p)
formula_of (Both' a p b q) = And (formula_of p) (formula_of q)
formula_of (Either' a p b q) = Or (formula_of p) (formula_of q)
