-- `write_rows` promises the text of all rows. Each round takes one row from those that remain
-- (`numbers_written-push`), and there are as many as the longest thread has cells, which is what `height` ensures.
use Rattle.lw_x86.proofs.Common.{map, cells_of, max_cell_count, numbers_written-push, numbers_written-all}
use Rattle.lw_x86.proofs.CellLists.{printed_row}
use Rattle.lw_x86.proofs.rows.write_rows.Goals as goal

pub loop-row-preserved : goal.loop-row-preserved
loop-row-preserved g c =
    let threads = map (cells_of c.args.program.now.head.locs) c.args.program.now.threads in
    numbers_written-push (printed_row threads) (max_cell_count threads) c.loop-row.row _ _ c.loop-row.invariant _
    (rw c.height-row-end.ensures at c.loop-row-test.true) c.in_ok-write_row.ensures

pub returns : goal.returns
returns g c =
    let threads = map (cells_of c.args.program.now.head.locs) c.args.program.now.threads in
    numbers_written-all (printed_row threads) (max_cell_count threads) c.loop-row.row _ _ c.loop-row.invariant
    (rw c.height-row-end.ensures at c.loop-row-test.false)
