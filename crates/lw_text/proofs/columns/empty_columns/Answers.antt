-- `empty_columns` promises as many empty columns as threads, which are the columns of no rows. Each round
-- appends one.
use Rattle.lw_text.proofs.Common.{IfOk-from_err, [], ◌≡◌, arith, sym, zero-add, map-range_with_len_more}
use Rattle.lw_text.proofs.Common.{column}
use Rattle.lw_text.proofs.columns.empty_columns.Goals as goal

pub loop-index-preserved : goal.loop-index-preserved
loop-index-preserved g c =
    let index = c.loop-index._index in
    rw (c.in_ok-push.ensures.items, c.loop-index.invariant, c.new.ensures)
    (sym (map-range_with_len_more (column []) 0 index index (zero-add index)))

pub returns-in_err-push : goal.returns-in_err-push
returns-in_err-push g c = IfOk-from_err _ _ c.from_residual.ensures.0

pub returns : goal.returns
returns g c = let all : c.loop-index._index ≡ c.args.threads = omega arith in rw all at c.loop-index.invariant
