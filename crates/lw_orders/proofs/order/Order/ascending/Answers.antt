-- Proves `Order::ascending`, which returns the items below `len` in ascending order. Each round writes one
-- more item at its own index.
use Rattle.lw_orders.proofs.Common.{◌∙◌, sym, ap, arith, length-set, [], ◌∷◌, ◌++◌, take_more_set}
use Rattle.lw_orders.proofs.Ascending.{indices-suc}
use Rattle.lw_orders.proofs.order.Order.ascending.Goals as goal

pub loop-item-preserved : goal.loop-item-preserved
loop-item-preserved c = (
  length-set c.loop-item.items c.loop-item.item c.loop-item.item ∙ c.loop-item.invariant.0,
  take_more_set _ _ _ (omega (arith, c.loop-item.invariant.0, c.requires, c.loop-item-test.true))
      ∙ (ap (λ xs. xs ++ c.loop-item.item ∷ []) c.loop-item.invariant.1 ∙ sym (indices-suc _)),
)
