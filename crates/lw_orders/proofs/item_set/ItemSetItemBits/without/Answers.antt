-- Proves `without` for sets of 128 items: all but one item, by the laws of bits (`has-without`).
use Rattle.lw_orders.proofs.Common.{w128}
use Rattle.lw_orders.proofs.Bits.{has-without}
use Rattle.lw_orders.proofs.item_set.ItemSetItemBits.without.Goals as goal

pub returns-clause-items : goal.returns-clause-items
returns-clause-items c k l = rw (← c.self.view_is) (has-without w128 _ _ k c.self.invariant c.requires)
