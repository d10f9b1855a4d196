-- `resolve_cell` promises that a cell's statement is resolved and appended, or that it is not resolvable. The
-- goals by hand go from the cell's tokens to those after its labels, and from the index in the thread to the
-- length of `code`.
use Rattle.lw_statements.proofs.Common.{inl, inr, MatchResult-weaker, Err-clause_known}
use Rattle.lw_statements.proofs.column.resolve_cell.Goals as goal

pub resolve_draft-requires-clause-resolvable : goal.resolve_draft-requires-clause-resolvable
resolve_draft-requires-clause-resolvable g c lifetimes lives =
    rw c.after_labels-phrase.ensures.tokens (rw c.in-Some.is at c.requires.resolvable)

pub returns-in_err-stmt : goal.returns-in_err-stmt
returns-in_err-stmt g c =
    let lost = rw (c.after_labels-phrase.ensures.tokens, c.len.ensures) at c.in_err-stmt.ensures in
    Err-clause_known _ _ _ c.from_residual.ensures.1 (inr (c.in-Some.stmt, c.in-Some.is, lost))

pub returns : goal.returns
returns g c =
    let resolved = rw (c.after_labels-phrase.ensures.tokens, c.len.ensures) at c.in_ok-stmt.ensures in
    MatchResult-weaker c.push.result c.push.ensures (λ done pushed. rw c.in-Some.is (c.in_ok-stmt.stmt, resolved, pushed))
    (λ f memory. inl memory)
