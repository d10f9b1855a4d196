-- `read_cells` promises the thread's statements, or that the thread is refused. Each round drafts one more
-- cell; after the last the drafts are resolved. A refused cell is split off as cells before, this one, and
-- cells after (`take-item-drop`).
use Rattle.lw_statements.proofs.Common.{take, drop, suc, subst, take_all, MatchResult-weaker, ColumnDrafted}
use Rattle.lw_statements.proofs.Common.{grammar_of, draft_of, Err-clause_known}
use Rattle.lw_statements.proofs.Drafts.{ColumnDrafted-none, column_count_at_most}
use Rattle.lw_statements.proofs.Elements.{take-item-drop, take_further}
use Rattle.lw_statements.proofs.column.read_cells.Goals as goal

pub loop-cell-init : goal.loop-cell-init
loop-cell-init g c =
    ColumnDrafted-none _ (draft_of g.L.StatementReader.spelling) _ _ c.requires.fresh c.len-known.ensures.table.bounded

pub read_cell-requires-clause-bounded : goal.read_cell-requires-clause-bounded
read_cell-requires-clause-bounded g c lifetimes lives = column_count_at_most _ _ _ _ _ _ c.loop-cell.invariant

pub loop-cell-preserved : goal.loop-cell-preserved
loop-cell-preserved g c =
    let more = take_further c.args.cells.now _ c.cell-item.result c.loop-cell-test.true c.cell-item.is in
    rw more (c.in_ok-read_cell.ensures (take c.loop-cell.cell-index c.args.cells.now) c.args.locs.now c.loop-cell.invariant)

pub returns-in_err-read_cell : goal.returns-in_err-read_cell
returns-in_err-read_cell g c =
    let whole = take-item-drop c.args.cells.now _ c.cell-item.result c.loop-cell-test.true c.cell-item.is in
    Err-clause_known _ _ _ c.from_residual.ensures.1
    (rw whole
    (c.in_err-read_cell.ensures (take c.loop-cell.cell-index c.args.cells.now)
    (drop (suc c.loop-cell.cell-index) c.args.cells.now) c.args.locs.now c.loop-cell.invariant))

pub resolve-requires-clause-read : goal.resolve-requires-clause-read
resolve-requires-clause-read g c lifetimes lives = (
  c.args.locs.now,
  c.loop-cell.locs,
  subst (λ cells.
      ColumnDrafted (grammar_of g.L.StatementReader.spelling) (draft_of g.L.StatementReader.spelling) cells c.args.locs.now
      c.loop-cell.column c.loop-cell.locs) (take_all c.loop-cell.cell-index c.args.cells.now c.loop-cell-test.false)
      c.loop-cell.invariant,
)

pub returns : goal.returns
returns g c =
    let drafted =
    subst (λ cells.
    ColumnDrafted (grammar_of g.L.StatementReader.spelling) (draft_of g.L.StatementReader.spelling) cells c.args.locs.now
    c.loop-cell.column c.loop-cell.locs) (take_all c.loop-cell.cell-index c.args.cells.now c.loop-cell-test.false)
    c.loop-cell.invariant in
    MatchResult-weaker c.resolve.result c.resolve.ensures (λ code read. read c.args.locs.now c.loop-cell.locs drafted)
    (λ f refused. refused c.args.locs.now c.loop-cell.locs drafted)
