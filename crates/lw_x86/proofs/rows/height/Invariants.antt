-- At each round `height` is the greatest number of cells of the threads before the index.
use Rattle.lw_x86.proofs.Common.{◌≡◌, map, take, cells_of, max_cell_count}
use Rattle.lw_x86.proofs.rows.height.Given as goal

abbrev pub invariant-loop-code : goal.invariant-loop-code
invariant-loop-code g l = l.height ≡ max_cell_count (map (cells_of l.program.head.locs) (take l.code-index l.program.threads))
