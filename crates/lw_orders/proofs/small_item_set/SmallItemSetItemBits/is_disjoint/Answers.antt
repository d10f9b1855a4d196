-- Proves `is_disjoint` for sets of 64 items, against a wide set. Only the low bits of the wide set matter,
-- since this set has no others (`bit_and-low_bits`).
use Rattle.lw_orders.proofs.Common.{ap, eqb, w64}
use Rattle.lw_orders.proofs.Bits.{bit_and-low_bits}
use Rattle.lw_orders.proofs.small_item_set.SmallItemSetItemBits.is_disjoint.Goals as goal

pub returns : goal.returns
returns c = rw (← c.self.view_is, c.low.ensures) (ap (λ n. eqb n 0) (bit_and-low_bits w64 _ _ c.self.invariant))
