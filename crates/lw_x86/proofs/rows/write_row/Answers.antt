-- `write_row` promises the text of one row: a space, the cells, and the end of the line. The cells are what
-- `write_cells` ensures (`OnOk-line_written`); that each thread is well-formed is the program's invariant.
use Rattle.lw_x86.proofs.Common.{codes}
use Rattle.lw_x86.proofs.SeparatedTexts.{OnOk-line_written}
use Rattle.lw_x86.proofs.rows.write_row.Goals as goal

pub write_cells-requires : goal.write_cells-requires
write_cells-requires g c = rw c.as_slice.ensures c.args.program.now.well_formed.code

pub returns : goal.returns
returns g c =
    let cells = rw c.as_slice.ensures at c.in_ok-write_cells.ensures in
    OnOk-line_written _ _ (codes " ") _ _ c.in_ok-push_str.ensures.bytes cells c.push_str-2.ensures.bytes
