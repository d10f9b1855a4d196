-- Proves `without_all` for sets of 64 items, without the items of a wide set. Its low bits are enough, since
-- this set has no items from 64 on (`has-difference_low_bits`).
use Rattle.lw_orders.proofs.Common.{w64}
use Rattle.lw_orders.proofs.Bits.{has-difference_low_bits}
use Rattle.lw_orders.proofs.small_item_set.SmallItemSetItemBits.without_all.Goals as goal

pub returns : goal.returns
returns c k l = rw (← c.self.view_is, c.low.ensures) (has-difference_low_bits w64 _ c.args.set k c.self.invariant)
