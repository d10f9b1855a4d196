-- Proves `with_all_among` for sets of 64 items, with a wide set. The items are among `others`, which are
-- below 64, so the wide set's low bits are enough (`has-among_low_bits`).
use Rattle.lw_orders.proofs.Common.{w64}
use Rattle.lw_orders.proofs.Bits.{has-among_low_bits}
use Rattle.lw_orders.proofs.small_item_set.SmallItemSetItemBits.with_all_among.Goals as goal

pub returns : goal.returns
returns c k l =
    rw (← c.self.view_is, ← c.others.view_is, c.low.ensures)
    (has-among_low_bits w64 c.self.inside.0 c.args.set c.others.inside.0 k c.others.invariant)
