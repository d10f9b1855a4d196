-- `height` promises the greatest number of cells of a thread. Each round takes the maximum with one more
-- thread (`max_cell_count-push`), whose number of cells is what `count_cells` returns (`length-cells_of`).
use Rattle.lw_x86.proofs.Common.{◌<◌, length, arith, ap, cells_of, take_all}
use Rattle.lw_x86.proofs.CellLists.{length-cells_of, max_cell_count-push}
use Rattle.lw_x86.proofs.rows.height.Goals as goal

-- A round takes the maximum with the number of cells of one more thread.
pub loop-code-preserved : goal.loop-code-preserved
loop-code-preserved g c =
    let program = c.args.program.now in
    let counted =
    rw c.as_slice.ensures at
    (length-cells_of program.head.locs c.as_slice.result.now c.count_cells.result c.count_cells.ensures) in
    let lt : c.loop-code.code-index < length program.threads =
    omega (arith, c.loop-code-test.true, ap length c.as_slice-code-items.ensures) in
    let is = rw c.as_slice-code-items.ensures at c.code-item.is in
    max_cell_count-push (cells_of program.head.locs) program.threads c.loop-code.code-index lt is c.loop-code.invariant counted
    c.max-height.ensures

pub returns : goal.returns
returns g c =
    let all = take_all c.loop-code.code-index _ (rw c.as_slice-code-items.ensures at c.loop-code-test.false) in
    rw all at c.loop-code.invariant
