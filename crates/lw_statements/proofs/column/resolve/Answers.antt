-- `resolve` promises the statements of a drafted thread, with the targets of their jumps, or that the thread
-- is refused. Each round resolves one cell (`Resolved-next_row`); if a label is missing or earlier, no reading
-- of the thread exists (`ColumnRefused-unresolved_cell`).
use Rattle.lw_statements.proofs.Common.{length, ap, arith, subst, take_all, Err-clause_known}
use Rattle.lw_statements.proofs.Resolved.{Resolved, as_many_rows, ColumnRead-Resolved, start_within}
use Rattle.lw_statements.proofs.Resolved.{IsResolvable-of_draft, Resolved-none, Resolved-next_row}
use Rattle.lw_statements.proofs.Resolved.{ColumnRefused-unresolved_cell}
use Rattle.lw_statements.proofs.column.resolve.Goals as goal

pub bounds-drafts-row : goal.bounds-drafts-row
bounds-drafts-row g c =
    let rows = as_many_rows _ g.L.StatementReader.statement_of c.requires.lawful _ _ _ _ c.requires.read.2 in
    omega (arith, ap length c.as_slice-drafts.ensures, c.loop-row-test.true)

pub offset_bounds-drafts-row : goal.offset_bounds-drafts-row
offset_bounds-drafts-row g c =
    let rows = as_many_rows _ g.L.StatementReader.statement_of c.requires.lawful _ _ _ _ c.requires.read.2 in
    omega (arith, ap length c.as_slice-drafts.ensures, c.loop-row-test.true)

pub resolve_cell-requires-clause-start : goal.resolve_cell-requires-clause-start
resolve_cell-requires-clause-start g c lifetimes lives =
    let is = rw c.as_slice-drafts.ensures at c.index-drafts-row.is in
    start_within _ g.L.StatementReader.statement_of c.requires.lawful _ _ _ _ c.requires.read.2 c.loop-row.row
    c.index-cells-row.result c.loop-row-test.true c.index-cells-row.is _ is

pub resolve_cell-requires-clause-resolvable : goal.resolve_cell-requires-clause-resolvable
resolve_cell-requires-clause-resolvable g c lifetimes lives =
    let is = rw c.as_slice-drafts.ensures at c.index-drafts-row.is in
    IsResolvable-of_draft g.L.StatementReader.spelling g.L.StatementReader.statement_of c.requires.lawful _ _ _ _
    c.requires.read.2 c.loop-row.row _ c.loop-row-test.true c.index-cells-row.is _ is

pub returns-in_err-resolve_cell : goal.returns-in_err-resolve_cell
returns-in_err-resolve_cell g c =
    let is = rw c.as_slice-drafts.ensures at c.index-drafts-row.is in
    Err-clause_known _ _ _ c.from_residual.ensures.1 (λ before after drafted.
    ColumnRefused-unresolved_cell g.L.StatementReader.spelling g.L.StatementReader.statement_of c.requires.lawful _ before after _
    drafted c.loop-row.row c.index-cells-row.result c.loop-row-test.true c.index-cells-row.is _ is c.loop-row.code
    (c.loop-row.invariant before after drafted) _ c.in_err-resolve_cell.ensures)

pub loop-row-init : goal.loop-row-init
loop-row-init g c before after drafted =
    rw c.new-code.ensures (Resolved-none g.L.StatementReader.spelling after drafted.read.syntax)

pub loop-row-preserved : goal.loop-row-preserved
loop-row-preserved g c before after drafted =
    let is = rw c.as_slice-drafts.ensures at c.index-drafts-row.is in
    Resolved-next_row g.L.StatementReader.spelling g.L.StatementReader.statement_of c.requires.lawful _ before after _ drafted
    c.loop-row.row c.index-cells-row.result c.loop-row-test.true c.index-cells-row.is _ is c.loop-row.code
    (c.loop-row.invariant before after drafted) _ c.in_ok-resolve_cell.ensures

pub returns : goal.returns
returns g c before after drafted =
    ColumnRead-Resolved g.L.StatementReader.spelling g.L.StatementReader.statement_of c.requires.lawful _ before after _ drafted
    c.loop-row.code
    (subst (λ front. Resolved g.L.StatementReader.spelling after drafted.read.syntax front c.loop-row.code)
    (take_all c.loop-row.row c.args.cells.now c.loop-row-test.false) (c.loop-row.invariant before after drafted))
