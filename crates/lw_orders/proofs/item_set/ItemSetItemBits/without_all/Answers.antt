-- Proves `without_all` for sets of 128 items: those that are not in the other set, by the laws of bits
-- (`has-difference`).
use Rattle.lw_orders.proofs.Common.{w128}
use Rattle.lw_orders.proofs.Bits.{has-difference}
use Rattle.lw_orders.proofs.item_set.ItemSetItemBits.without_all.Goals as goal

pub returns : goal.returns
returns c k l =
    rw (← c.self.view_is, ← c.set.view_is) (has-difference w128 c.self.inside.0 c.set.inside.0 k c.self.invariant c.set.invariant)
