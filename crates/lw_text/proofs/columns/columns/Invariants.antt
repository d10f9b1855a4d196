-- At each round `columns` has the columns of the rows taken so far, and these rows with those left in the
-- iterator are all.
use Rattle.lw_text.proofs.Common.{◌≡◌, ◌++◌, length, columns}
use Rattle.lw_text.proofs.columns.columns.Given as goal

abbrev pub invariant-loop-row : goal.invariant-loop-row
invariant-loop-row g l = record {
  made : l.columns.items ≡ columns l.fn.threads l.yielded;
  rest : l.yielded ++ l.row-iterator.rest.items ≡ l.fn.rows;
  len : l.row-iterator.rest.len ≡ length l.row-iterator.rest.items;
}
