-- At each round the columns before the iterator's count have their cell of the row, the others are unchanged,
-- and the iterator has the other cells of the row (`Filling`).
use Rattle.lw_text.proofs.Common.{◌≡◌, length}
use Rattle.lw_text.proofs.RowColumns.{Filling}
use Rattle.lw_text.proofs.columns.add_row.Given as goal

abbrev pub invariant-loop-index : goal.invariant-loop-index
invariant-loop-index g l = record {
  filling : Filling l.fn.columns.items l.columns.items l.fn.row l.index-iterator.iter.rest.items l.index-iterator.count;
  len : l.index-iterator.iter.rest.len ≡ length l.index-iterator.iter.rest.items;
}
