-- At each round the outcomes of the orders that the iterator has returned are collected, and the runner has
-- the same test.
use Rattle.lw_finals.proofs.Common.{◌≡◌}
use Rattle.lw_finals.proofs.Gathering.{CollectedUpTo}
use Rattle.lw_finals.proofs.collect.collect_orders.Given as goal

abbrev pub invariant-loop-order : goal.invariant-loop-order
invariant-loop-order g l = record {
  same : g.R.OrderRunner.test l.runner ≡ g.R.OrderRunner.test l.fn.runner;
  run :
      CollectedUpTo (g.R.OrderRunner.ends (g.R.OrderRunner.test l.fn.runner) l.items)
      (g.R.OrderRunner.leads (g.R.OrderRunner.test l.fn.runner)) l.initial.order-iterator.to_come l.order-iterator.to_come
      l.fn.found l.found;
}
