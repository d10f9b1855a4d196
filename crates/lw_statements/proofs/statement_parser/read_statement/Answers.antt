-- `read_statement` promises the draft of the statement that the tokens are, or that they are none with room,
-- and why. If a form fits, the statement is read (`StatementRead-IsDrafted`) or its location has no room
-- (`StatementRefused-IsNotDrafted`); if none fits, they are no statement (`no_statement-if_no_form`).
use Rattle.lw_statements.proofs.Common.{MatchResult-weaker}
use Rattle.lw_statements.proofs.StatementsRead.{name_among, StatementRead-IsDrafted}
use Rattle.lw_statements.proofs.StatementsRead.{StatementRefused-IsNotDrafted, no_statement-if_no_form}
use Rattle.lw_statements.proofs.statement_parser.read_statement.Goals as goal

pub draft-requires : goal.draft-requires
draft-requires g c =
    let r = rw c.in-Some.is at c.read_form.ensures in
    rw r.3 (name_among g.L.StatementReader.spelling c.args.phrase.now _ r.0 r.1 r.2)

pub returns-in-Some : goal.returns-in-Some
returns-in-Some g c =
    let r = rw c.in-Some.is at c.read_form.ensures in
    MatchResult-weaker c.draft.result c.draft.ensures (λ draft made.
    StatementRead-IsDrafted g.L.StatementReader.spelling c.args.phrase.now _ r.0 r.1 r.2 _ draft _ (rw r.3 at made)) (λ f none.
    StatementRefused-IsNotDrafted g.L.StatementReader.spelling c.args.phrase.now _ r.0 r.1 r.2 g.L.StatementReader.statement_of
    c.requires.lawful _ f c.len-known.ensures.table (rw r.3 at none))

pub refusal-requires-clause-none : goal.refusal-requires-clause-none
refusal-requires-clause-none g c lifetimes lives s says = rw c.in-None.is at c.read_form.ensures s.form s.filling says.0 says.1

pub returns-in-None : goal.returns-in-None
returns-in-None g c =
    let none = rw c.in-None.is at c.read_form.ensures in
    record {
      none = λ known. no_statement-if_no_form g.L.StatementReader.spelling _ _ none;
      cause = c.refusal.ensures.0;
      place = c.refusal.ensures.1;
    }
