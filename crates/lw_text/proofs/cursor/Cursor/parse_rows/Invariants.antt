-- At each round the rows up to the cursor have been read, at most 64, and none begins with a token that ends
-- rows (`AreReadTill`). If the rest fails after these rows, the whole fails as rows.
use Rattle.lw_text.proofs.Common.{most_rows, ◌≤◌, length, Row, begins_stop, all_texts, with_spans}
use Rattle.lw_text.proofs.Common.{placed_cells, RowsFrom, IsSuffix, TokenList, remaining, remaining_texts}
use Rattle.lw_text.proofs.Common.{FailsInRows, TextCause}
use Rattle.lw_text.proofs.Lists.{AreReadTill}
use Rattle.lw_text.proofs.cursor.Cursor.parse_rows.Given as goal

abbrev pub invariant-rows : goal.invariant-rows
invariant-rows g l = record {
  passed : AreReadTill begins_stop (Row l.threads) (remaining_texts l.fn.self) (all_texts l.rows) (remaining_texts l.self);
  cut : RowsFrom (with_spans (remaining l.fn.self)) (placed_cells l.rows) (with_spans (remaining l.self));
  bounded : length l.rows ≤ most_rows;
  advances : IsSuffix (remaining l.fn.self) (remaining l.self);
  fails :
      (rest : TokenList) (cause : TextCause)
      → FailsInRows l.threads rest cause (length l.rows) (remaining_texts l.self)
      → FailsInRows l.threads rest cause 0 (remaining_texts l.fn.self);
}

abbrev pub decreases-rows : goal.decreases-rows
decreases-rows g l = length (remaining_texts l.self)
