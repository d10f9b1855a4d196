-- Proves `with_all_among` for sets of 128 items: those of `others` that are in this set or in `set`, by the
-- laws of bits (`has-among`).
use Rattle.lw_orders.proofs.Bits.{has-among}
use Rattle.lw_orders.proofs.item_set.ItemSetItemBits.with_all_among.Goals as goal

pub returns : goal.returns
returns c k l = rw (← c.self.view_is, ← c.set.view_is, ← c.others.view_is) (has-among _ c.set.inside.0 _ k)
