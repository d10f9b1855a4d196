-- At each round `prop` is the part with as many negations as the index says, and `before` is unchanged.
use Rattle.lw_text.proofs.Common.{◌≡◌, formula_of, negations}
use Rattle.lw_text.proofs.open_group.conjoined.Given as goal

abbrev pub invariant-loop-taken : goal.invariant-loop-taken
invariant-loop-taken g l =
    record { before : l.before ≡ l.fn.before; negated : formula_of l.prop ≡ negations l.taken (formula_of l.fn.part) }
