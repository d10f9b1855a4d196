-- At each round `out`, followed by the rows from `row` on, is what it had at the start, followed by all rows.
use Rattle.lw_x86.proofs.Common.{◌≡◌, ◌++◌, map, drop, flat_map, string_bytes, range_with_len, cells_of}
use Rattle.lw_x86.proofs.Common.{max_cell_count, rows_text}
use Rattle.lw_x86.proofs.CellLists.{printed_row}
use Rattle.lw_x86.proofs.rows.write_rows.Given as goal

abbrev pub invariant-loop-row : goal.invariant-loop-row
invariant-loop-row g l =
    let threads = map (cells_of l.program.head.locs) l.program.threads in
    string_bytes l.out ++ flat_map (printed_row threads) (drop l.row (range_with_len 0 (max_cell_count threads)))
    ≡ string_bytes l.fn.out ++ rows_text threads
