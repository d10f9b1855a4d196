-- At each round `out` has, after what it had at the start, the row's cells of the threads before the index,
-- joined by bars.
use Rattle.lw_x86.proofs.Common.{◌≡◌, ◌++◌, map, take, codes, string_bytes, joined, cells_of, row_at}
use Rattle.lw_x86.proofs.rows.write_cells.Given as goal

abbrev pub invariant-loop-index : goal.invariant-loop-index
invariant-loop-index g l =
    string_bytes l.out
    ≡ string_bytes l.fn.out ++ joined (codes " | ") (take l.index (row_at (map (cells_of l.names) l.threads) l.row))
