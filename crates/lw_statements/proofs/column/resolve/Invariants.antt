-- At each round `code` has the resolved statements of the cells before the index, for every way in which the
-- column can have been drafted.
use Rattle.lw_statements.proofs.Common.{take, NameTable, ColumnDrafted, grammar_of, draft_of}
use Rattle.lw_statements.proofs.Resolved.{Resolved}
use Rattle.lw_statements.proofs.column.resolve.Given as goal

abbrev pub invariant-loop-row : goal.invariant-loop-row
invariant-loop-row g l =
    (before after : NameTable) (drafted : ColumnDrafted (grammar_of g.L.StatementReader.spelling)
    (draft_of g.L.StatementReader.spelling) l.cells before l.column after)
    → Resolved g.L.StatementReader.spelling after drafted.read.syntax (take l.row l.cells) l.code
