-- At each round the cells before the index are drafted: their labels and statements are in `column`, their
-- locations in the table.
use Rattle.lw_statements.proofs.Common.{take, ColumnDrafted, grammar_of, draft_of}
use Rattle.lw_statements.proofs.column.read_cells.Given as goal

abbrev pub invariant-loop-cell : goal.invariant-loop-cell
invariant-loop-cell g l =
    ColumnDrafted (grammar_of g.L.StatementReader.spelling) (draft_of g.L.StatementReader.spelling) (take l.cell-index l.cells)
    l.fn.locs l.column l.locs
