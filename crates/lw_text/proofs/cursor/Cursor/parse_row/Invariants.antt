-- At each round the cells up to the cursor have been read, each closed by a `|` (`CellsRead`).
use Rattle.lw_text.proofs.Common.{length, IsSuffix, remaining}
use Rattle.lw_text.proofs.CellPlaces.{CellsRead}
use Rattle.lw_text.proofs.cursor.Cursor.parse_row.Given as goal

abbrev pub invariant-cells : goal.invariant-cells
invariant-cells g l = record {
  read : CellsRead (remaining l.fn.self) (remaining l.self) l.cells;
  advances : IsSuffix (remaining l.fn.self) (remaining l.self);
}

abbrev pub decreases-cells : goal.decreases-cells
decreases-cells g l = length (remaining l.self)
