-- Proves `reduced_pairs`, which returns the reduced pairs of the items. `reduced_from-push`
-- appends the pairs of the next item, with the last statement and the last drain of its thread.
use Rattle.lw_paths.proofs.Common.{refl, append-nil, drop_all, IfOk-from_err}
use Rattle.lw_paths.proofs.Pushed.{reduced_from-push}
use Rattle.lw_paths.proofs.preserved_order.reduced_pairs.Goals as goal

pub loop-index-preserved : goal.loop-index-preserved
loop-index-preserved g c =
    reduced_from-push g.S.Statement.language c.args.program.now c.args.items.now c.loop-index.index c.loop-index.before
    c.loop-index.last c.loop-index.pairs.items c.loop-index-test.true c.index-items-index.is
    c.needs_earlier_drains-is_after_drains.ensures c.of-last.ensures c.with-last.ensures c.in_ok-push_preserved.ensures
    c.loop-index.invariant

pub loop-index-init : goal.loop-index-init
loop-index-init g c = rw (c.in_ok-pairs.ensures.items, c.all.ensures, c.none-last.ensures) refl

pub returns : goal.returns
returns g c = rw (drop_all c.loop-index.index c.args.items.now c.loop-index-test.false, append-nil) at c.loop-index.invariant

pub returns-in_err-push_preserved : goal.returns-in_err-push_preserved
returns-in_err-push_preserved g c = IfOk-from_err _ _ c.from_residual-in_err-push_preserved.ensures.0
