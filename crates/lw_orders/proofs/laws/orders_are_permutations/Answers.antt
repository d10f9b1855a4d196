-- Proves the law that the definition of an order by indices says the same as: all items, without duplicates.
-- Each clause is a lemma about indices in lists.
use Rattle.lw_orders.proofs.api.Indices.{AreDistinct-order, IsOrder-all_below, index_in-order_split}
use Rattle.lw_orders.proofs.api.Indices.{IsOrder-of_distinct}
use Rattle.lw_orders.proofs.laws.orders_are_permutations.Goals as goal

pub returns-clause-within : goal.returns-clause-within
returns-clause-within c n order is = IsOrder-all_below n order is

pub returns-clause-once : goal.returns-clause-once
returns-clause-once c n order is = AreDistinct-order n order is

pub returns-clause-found : goal.returns-clause-found
returns-clause-found c n i front rest is = (index_in-order_split n i front rest is).1

pub returns-clause-order : goal.returns-clause-order
returns-clause-order c n xs below once there = IsOrder-of_distinct n xs below once there
