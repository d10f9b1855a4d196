-- At each round `threads` has the statements of the columns before the index, and the table has their
-- locations.
use Rattle.lw_statements.proofs.Common.{take, all_texts, ColumnsRead, grammar_of}
use Rattle.lw_statements.proofs.read.read_columns.Given as goal

abbrev pub invariant-loop-column : goal.invariant-loop-column
invariant-loop-column g l =
    ColumnsRead (grammar_of g.L.StatementReader.spelling) (all_texts (take l.column-index l.columns)) l.fn.locs l.threads l.locs
