-- `read_form` promises a form that the tokens fill, and their bindings, or that there is none. Each round
-- excludes one form (`All-take_suc`), and at the end all are excluded (`All-take_all`).
use Rattle.lw_statements.proofs.Common.{sym, token_texts}
use Rattle.lw_statements.proofs.SlotTokens.{IsOther, All-take_suc, All-take_all}
use Rattle.lw_statements.proofs.statement_parser.read_form.Goals as goal

-- A form that the tokens fill is one of the spelling's, with these bindings.
pub returns-in-Some : goal.returns-in-Some
returns-in-Some g c =
    let read = rw (c.slots.ensures, c.in-Some.is) at c.read_as.ensures in (
      read.0,
      (
        c.loop-form.form-index,
        (rw c.forms-form-items.ensures at c.loop-form-test.true),
        sym (rw c.forms-form-items.ensures at c.form-item.is),
      ),
      read.1,
      read.2,
    )

pub loop-form-preserved : goal.loop-form-preserved
loop-form-preserved g c =
    let spelling = g.L.StatementReader.spelling in
    All-take_suc (IsOther spelling (token_texts c.args.tokens.now)) spelling.forms _ c.form-item.result
    (rw c.forms-form-items.ensures at c.loop-form-test.true) (rw c.forms-form-items.ensures at c.form-item.is)
    c.loop-form.invariant (rw c.slots.ensures at c.in_default.ensures)

pub returns : goal.returns
returns g c form f there =
    let spelling = g.L.StatementReader.spelling in
    All-take_all (IsOther spelling (token_texts c.args.tokens.now)) spelling.forms c.loop-form.form-index
    (rw c.forms-form-items.ensures at c.loop-form-test.false) c.loop-form.invariant form there f
