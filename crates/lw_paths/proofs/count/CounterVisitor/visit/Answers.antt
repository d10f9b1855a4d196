-- Proves the counter's `visit`, which adds the number of one path assignment's orders to the total.
-- `Counts-if_counted`: the total is within its limit after the visit, so the saturating sum is the sum.
-- `sum_too_large-if_saturated` is for a total above the limit: then so is the exact sum.
use Rattle.lw_paths.proofs.Common.{arith, ◌∙◌}
use Rattle.lw_paths.proofs.api.Counting.{Counts-if_counted, sum_too_large-if_saturated}
use Rattle.lw_paths.proofs.count.CounterVisitor.visit.Goals as goal

-- The orders of the path assignment were counted, and the total is within its limit.
pub returns-clause-ok : goal.returns-clause-ok
returns-clause-ok g c = Counts-if_counted g.S.Statement.language c.args.self.now.program.now c.args.self.now.total _ _ (record {
  items = c.as_slice.result.now;
  orders = c.in-Some.orders;
  items_are = c.as_slice.ensures.value ∙ c.in_ok-fill_few_items.ensures.ok;
  within_item_limit = rw (← c.as_slice.ensures.value) at c.in_ok-fill_few_items.ensures.bounded;
  orders_are = (rw c.in-Some.is at c.in_ok-orders.ensures).0;
  total = c.saturating_add-total.ensures;
  within_order_limit = omega arith;
})

pub count_orders-requires-clause-of_assignment : goal.count_orders-requires-clause-of_assignment
count_orders-requires-clause-of_assignment g c = (_, c.as_slice.ensures.value ∙ c.in_ok-fill_few_items.ensures.ok)

pub returns-then-total-gt-MAX_ORDERS-clause-err : goal.returns-then-total-gt-MAX_ORDERS-clause-err
returns-then-total-gt-MAX_ORDERS-clause-err g c =
    sum_too_large-if_saturated g.S.Statement.language c.args.self.now.program.now c.args.self.now.total _
    (c.as_slice.ensures.value ∙ c.in_ok-fill_few_items.ensures.ok) (rw c.in-Some.is at c.in_ok-orders.ensures).0
    c.saturating_add-total.ensures c.if-total-gt-MAX_ORDERS.true
