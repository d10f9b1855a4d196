-- At each round the first `item` entries of the array are the items below `item`.
use Rattle.lw_orders.proofs.Common.{most_items, ◌≡◌, length, take, indices}
use Rattle.lw_orders.proofs.order.Order.ascending.Given as goal

abbrev pub invariant-loop-item : goal.invariant-loop-item
invariant-loop-item l = (length l.items ≡ most_items) × (take l.item l.items ≡ indices 0 l.item)
