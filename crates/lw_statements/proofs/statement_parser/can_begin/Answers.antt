-- `can_begin` promises to be true exactly if some statement begins with the token. A form that begins with it
-- is the witness; at the loop's end no form does (`All-take_all`), and a statement's first token is accepted by
-- its form's first slot (`BeginsWith-Fills`).
use Rattle.lw_statements.proofs.Common.{refl, sym, ◌∙◌, true≢false}
use Rattle.lw_statements.proofs.SlotTokens.{BeginsOtherwise, All-take_suc, All-take_all}
use Rattle.lw_statements.proofs.Beginnings.{CanBegin-of_form as can_begin, BeginsWith-Fills}
use Rattle.lw_statements.proofs.statement_parser.can_begin.Goals as goal

pub returns-then-begins_with : goal.returns-then-begins_with
returns-then-begins_with g c =
    let within = rw c.forms-form-items.ensures at c.loop-form-test.true in
    let begins = rw c.slots.ensures at (c.begins_with.ensures.0 c.if-begins_with.true) in (
      λ holds.
          can_begin g.L.StatementReader.spelling c.form-item.result _
          (c.loop-form.form-index, within, sym (rw c.forms-form-items.ensures at c.form-item.is)) begins,
      λ begin. refl,
    )

pub loop-form-preserved : goal.loop-form-preserved
loop-form-preserved g c =
    let spelling = g.L.StatementReader.spelling in
    let here = rw c.slots.ensures at c.begins_with.ensures.1 in
    All-take_suc (BeginsOtherwise spelling c.args.token.now.text.now) _ _ _
    (rw c.forms-form-items.ensures at c.loop-form-test.true) (rw c.forms-form-items.ensures at c.form-item.is)
    c.loop-form.invariant (λ begins. true≢false (sym (here begins) ∙ c.if-begins_with.false))

pub returns : goal.returns
returns g c =
    let spelling = g.L.StatementReader.spelling in (
      λ holds. absurd (true≢false (sym holds)),
      λ begin.
          absurd (All-take_all (BeginsOtherwise spelling c.args.token.now.text.now) _ c.loop-form.form-index
          (rw c.forms-form-items.ensures at c.loop-form-test.false) c.loop-form.invariant begin.1.form begin.2.0
          (BeginsWith-Fills spelling _ begin.0 _ begin.1.filling begin.2.1)),
    )
