-- `may_be_register` promises to be true exactly if some form has a register after the tokens. The form of the
-- early exit is the witness; at the loop's end no form has one (`All-take_all`).
use Rattle.lw_statements.proofs.Common.{refl, sym, ◌∙◌, true≢false, token_texts, IsRegisterSlot}
use Rattle.lw_statements.proofs.Fronts.{HasNone}
use Rattle.lw_statements.proofs.SlotTokens.{All-take_suc, All-take_all}
use Rattle.lw_statements.proofs.statement_parser.may_be_register.Goals as goal

pub returns-then-register_next : goal.returns-then-register_next
returns-then-register_next g c =
    let within = rw c.forms-form-items.ensures at c.loop-form-test.true in
    let next = rw c.slots.ensures at (c.register_next.ensures.0 c.if-register_next.true) in (
      λ holds.
          (c.form-item.result, (c.loop-form.form-index, within, sym (rw c.forms-form-items.ensures at c.form-item.is)), next),
      λ there. refl,
    )

pub loop-form-preserved : goal.loop-form-preserved
loop-form-preserved g c =
    let here = rw c.slots.ensures at c.register_next.ensures.1 in
    All-take_suc (HasNone g.L.StatementReader.spelling IsRegisterSlot (token_texts c.args.tokens.now)) _ _ _
    (rw c.forms-form-items.ensures at c.loop-form-test.true) (rw c.forms-form-items.ensures at c.form-item.is)
    c.loop-form.invariant (λ next. true≢false (sym (here next) ∙ c.if-register_next.false))

pub returns : goal.returns
returns g c = (
  λ holds. absurd (true≢false (sym holds)),
  λ there.
      absurd (All-take_all (HasNone g.L.StatementReader.spelling IsRegisterSlot (token_texts c.args.tokens.now)) _
      c.loop-form.form-index (rw c.forms-form-items.ensures at c.loop-form-test.false) c.loop-form.invariant there.0 there.1
      there.2),
)
