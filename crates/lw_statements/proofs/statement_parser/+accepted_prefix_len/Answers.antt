-- `accepted_prefix_len` promises the number of tokens that the slots accept, up to the first that its slot
-- does not. By recursion on the slots: no slots, no tokens, a token that does not fit, or one more
-- (`IsAcceptedLength-no_slots`, `IsAcceptedLength-no_tokens`, `IsAcceptedLength-cons`).
use Rattle.lw_statements.proofs.Common.{◌<◌, length, ap, true≢false, sym, ◌∙◌, rules, arith, length-map}
use Rattle.lw_statements.proofs.Common.{Token}
use Rattle.lw_statements.proofs.SlotTokens.{IsAcceptedLength-no_slots, IsAcceptedLength-no_tokens}
use Rattle.lw_statements.proofs.SlotTokens.{IsAcceptedLength-cons, IsAcceptedLength-in_range}
use Rattle.lw_statements.proofs.statement_parser.+accepted_prefix_len.Goals as goal

pub returns-in_default : goal.returns-in_default
returns-in_default g t c = IsAcceptedLength-no_slots g.L.StatementReader.spelling _ _ c.in_default.ensures.cases

pub returns-in_default-split_first : goal.returns-in_default-split_first
returns-in_default-split_first g t c =
    IsAcceptedLength-no_tokens g.L.StatementReader.spelling _ _ c.in_default-split_first.ensures.cases

pub returns-then-not-fits_slot : goal.returns-then-not-fits_slot
returns-then-not-fits_slot g t c =
    rw (c.in-Some.ensures.cases.0, c.in-Some-split_first.ensures.cases.0)
    (λ stands. true≢false (sym (c.fits_slot.ensures.1 stands) ∙ c.if-not-fits_slot.true))

pub returns : goal.returns
returns g t c =
    rw (c.in-Some.ensures.cases.0, c.in-Some-split_first.ensures.cases.0)
    (IsAcceptedLength-cons g.L.StatementReader.spelling _ c.in-Some.slot.now _ _ _
    (c.fits_slot.ensures.0 c.if-not-fits_slot.false) c.accepted_prefix_len.ensures)

pub overflow_add-result : goal.overflow_add-result
overflow_add-result g t c =
    let within : c.accepted_prefix_len.result < length c.args.tokens.now = omega (
      arith,
      (IsAcceptedLength-in_range g.L.StatementReader.spelling _ _ _ c.accepted_prefix_len.ensures).1,
      length-map c.in-Some-split_first.tokens.now (λ (u : Token). u.text.now),
      ap length c.in-Some-split_first.ensures.cases.0,
    ) in
    search rules
