-- At each round there are as many empty columns as the index says.
use Rattle.lw_text.proofs.Common.{◌≡◌, [], columns}
use Rattle.lw_text.proofs.columns.empty_columns.Given as goal

abbrev pub invariant-loop-index : goal.invariant-loop-index
invariant-loop-index g l = l.columns.items ≡ columns l._index []
