-- `write_cells` promises the cells of all threads in a row, joined by bars. Each round writes a separator and
-- the cell of one thread (`joined_prefix-push`), which is the row's text for this thread (`row_at-get`).
use Rattle.lw_x86.proofs.Common.{arith, append-nil, codes, map, sym, string_bytes, written-append, cells_of}
use Rattle.lw_x86.proofs.Common.{row_at}
use Rattle.lw_x86.proofs.CellLists.{row_length, row_at-get}
use Rattle.lw_x86.proofs.SeparatedTexts.{joined_prefix-push, joined_prefix-whole}
use Rattle.lw_x86.proofs.rows.write_cells.Goals as goal

pub loop-index-init : goal.loop-index-init
loop-index-init g c = sym (append-nil (string_bytes c.args.out.now))

pub write_cell-requires : goal.write_cell-requires
write_cell-requires g c =
    rw (c.as_slice.ensures, c.index-threads-index.is) (c.requires c.loop-index.index _ c.loop-index-test.true)

pub loop-index-preserved : goal.loop-index-preserved
loop-index-preserved g c =
    let cell = rw c.as_slice.ensures at c.in_ok-write_cell.ensures in
    joined_prefix-push (codes " | ") (row_at (map (cells_of c.args.names.now) c.args.threads.now) c.args.row) c.loop-index.index _
    _ c.loop-index.invariant _ _
    (row_at-get c.args.names.now c.args.threads.now c.args.row c.loop-index.index c.index-threads-index.result
    c.loop-index-test.true c.index-threads-index.is) (written-append _ _ _ _ _ c.in_ok-write_separator.ensures cell)

pub returns : goal.returns
returns g c =
    joined_prefix-whole (codes " | ") _ c.loop-index.index _ _ c.loop-index.invariant
    (omega (arith, row_length c.args.names.now c.args.threads.now c.args.row, c.loop-index-test.false))
