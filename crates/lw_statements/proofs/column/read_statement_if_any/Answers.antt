-- `read_statement_if_any` promises the draft of what follows a cell's labels, or why there is none. The interesting
-- case is a thread that is full: whatever follows is refused, as one statement too many if its first token
-- can begin one (`MaybeRefused-surplus`).
use Rattle.lw_statements.proofs.Common.{sym, ◌∙◌, grammar_of, draft_of, Err-clause_known}
use Rattle.lw_statements.proofs.Drafts.{MaybeRead-some, MaybeRead-none, MaybeRefused-StatementRefused}
use Rattle.lw_statements.proofs.Drafts.{MaybeRefused-surplus}
use Rattle.lw_statements.proofs.FirstFaults.{fault_at_first_token}
use Rattle.lw_statements.proofs.column.read_statement_if_any.Goals as goal

pub returns : goal.returns
returns g c =
    MaybeRead-some (grammar_of g.L.StatementReader.spelling) (draft_of g.L.StatementReader.spelling) _ _ _ _ _
    (λ full. c.if-above-max_statements.false (full ∙ sym c.max_statements.ensures)) c.in_ok-read_statement.ensures

pub returns-in_default : goal.returns-in_default
returns-in_default g c = MaybeRead-none _ (draft_of g.L.StatementReader.spelling) _ _ _ c.in_default.ensures.value

pub returns-then-above-max_statements : goal.returns-then-above-max_statements
returns-then-above-max_statements g c =
    let told =
    fault_at_first_token g.L.StatementReader.spelling c.args.phrase.now c.in-Some.first.now c.in-Some.ensures.value
    c.args.locs.now c.args.above c.too_many_statements.result c.too_many_statements.ensures in
    MaybeRefused-surplus _ (draft_of _) c.args.phrase.now _ c.in-Some.ensures.value _ _ _
    (c.if-above-max_statements.true ∙ c.max_statements.ensures) told.0 told.1

pub returns-in_err-read_statement : goal.returns-in_err-read_statement
returns-in_err-read_statement g c =
    Err-clause_known _ _ _ c.from_residual.ensures.1
    (MaybeRefused-StatementRefused _ (draft_of _) c.args.phrase.now c.in-Some.first.now c.in-Some.ensures.value _ _ _
    (λ full. c.if-above-max_statements.false (full ∙ sym c.max_statements.ensures)) c.in_err-read_statement.ensures)
