-- Proves `without` for sets of 64 items: all but one item, by the laws of bits (`has-without`).
use Rattle.lw_orders.proofs.Common.{w64}
use Rattle.lw_orders.proofs.Bits.{has-without}
use Rattle.lw_orders.proofs.small_item_set.SmallItemSetItemBits.without.Goals as goal

pub returns-clause-items : goal.returns-clause-items
returns-clause-items c k l = rw (← c.self.view_is) (has-without w64 _ _ k c.self.invariant c.requires)
