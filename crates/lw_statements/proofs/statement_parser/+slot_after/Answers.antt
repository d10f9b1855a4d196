-- `slot_after` promises the slot after those that accept the tokens, or that there is none. By recursion on
-- the slots: no slots (`no_slot-if_empty`), no tokens left (`slot_next`), or one token fewer (`slot_further`).
use Rattle.lw_statements.proofs.Common.{true≢false, sym, ◌∙◌}
use Rattle.lw_statements.proofs.Fronts.{no_slot-if_empty, slot_next, slot_further}
use Rattle.lw_statements.proofs.statement_parser.+slot_after.Goals as goal

pub returns-in_default : goal.returns-in_default
returns-in_default g t c = no_slot-if_empty g.L.StatementReader.spelling _ _ c.in_default.ensures.cases

pub returns-in_default-split_first : goal.returns-in_default-split_first
returns-in_default-split_first g t c =
    rw c.in-Some.ensures.cases.0
    (slot_next g.L.StatementReader.spelling _ c.in-Some.slot.now _ c.in_default-split_first.ensures.cases)

pub returns-then-not-fits_slot : goal.returns-then-not-fits_slot
returns-then-not-fits_slot g t c =
    rw (c.in-Some.ensures.cases.0, c.in-Some-split_first.ensures.cases.0)
    (λ next h. true≢false (sym (c.fits_slot.ensures.1 h.0) ∙ c.if-not-fits_slot.true))

pub returns : goal.returns
returns g t c =
    rw (c.in-Some.ensures.cases.0, c.in-Some-split_first.ensures.cases.0)
    (slot_further g.L.StatementReader.spelling _ c.in-Some.slot.now _ _ _ (c.fits_slot.ensures.0 c.if-not-fits_slot.false)
    c.slot_after.ensures)
