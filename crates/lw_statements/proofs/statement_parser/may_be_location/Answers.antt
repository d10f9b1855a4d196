-- `may_be_location` promises to be true exactly if some form has a location after the tokens. The form of the
-- early exit is the witness; at the loop's end no form has one (`All-take_all`).
use Rattle.lw_statements.proofs.Common.{refl, sym, ◌∙◌, true≢false, token_texts, IsLocationSlot}
use Rattle.lw_statements.proofs.Fronts.{HasNone}
use Rattle.lw_statements.proofs.SlotTokens.{All-take_suc, All-take_all}
use Rattle.lw_statements.proofs.statement_parser.may_be_location.Goals as goal

pub returns-then-location_next : goal.returns-then-location_next
returns-then-location_next g c =
    let within = rw c.forms-form-items.ensures at c.loop-form-test.true in
    let next = rw c.slots.ensures at (c.location_next.ensures.0 c.if-location_next.true) in (
      λ holds.
          (c.form-item.result, (c.loop-form.form-index, within, sym (rw c.forms-form-items.ensures at c.form-item.is)), next),
      λ there. refl,
    )

pub loop-form-preserved : goal.loop-form-preserved
loop-form-preserved g c =
    let here = rw c.slots.ensures at c.location_next.ensures.1 in
    All-take_suc (HasNone g.L.StatementReader.spelling IsLocationSlot (token_texts c.args.tokens.now)) _ _ _
    (rw c.forms-form-items.ensures at c.loop-form-test.true) (rw c.forms-form-items.ensures at c.form-item.is)
    c.loop-form.invariant (λ next. true≢false (sym (here next) ∙ c.if-location_next.false))

pub returns : goal.returns
returns g c = (
  λ holds. absurd (true≢false (sym holds)),
  λ there.
      absurd (All-take_all (HasNone g.L.StatementReader.spelling IsLocationSlot (token_texts c.args.tokens.now)) _
      c.loop-form.form-index (rw c.forms-form-items.ensures at c.loop-form-test.false) c.loop-form.invariant there.0 there.1
      there.2),
)
