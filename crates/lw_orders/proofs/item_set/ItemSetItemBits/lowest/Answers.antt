-- Proves `lowest` for sets of 128 items: no item below the result is in the set (`has-false_below_lowest`), and the
-- result is, unless the set is empty (`has-lowest`). The code counts trailing zeros.
use Rattle.lw_orders.proofs.Common.{w128}
use Rattle.lw_orders.proofs.Bits.{has-false_below_lowest, has-lowest}
use Rattle.lw_orders.proofs.item_set.ItemSetItemBits.lowest.Goals as goal

pub returns-clause-below : goal.returns-clause-below
returns-clause-below c k l = rw (← c.self.view_is) (has-false_below_lowest w128 c.self.inside.0 k c.self.invariant l)

pub returns-clause-found : goal.returns-clause-found
returns-clause-found c l = rw (← c.self.view_is) (has-lowest w128 c.self.inside.0 c.self.invariant l)
