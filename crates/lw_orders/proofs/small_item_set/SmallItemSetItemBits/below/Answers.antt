-- Proves `below` for sets of 64 items: all items below `len`. For 64 all bits are set (`has-ones`); otherwise
-- the number is one less than a power of two (`has-below`).
use Rattle.lw_orders.proofs.Common.{arith, w64}
use Rattle.lw_orders.proofs.Bits.{has-ones, has-below}
use Rattle.lw_orders.proofs.small_item_set.SmallItemSetItemBits.below.Goals as goal

pub returns-then-len-eq-WIDTH-clause-items : goal.returns-then-len-eq-WIDTH-clause-items
returns-then-len-eq-WIDTH-clause-items c k l = rw c.if-len-eq-WIDTH.true (has-ones 64 k)

pub returns-else-len-eq-WIDTH-clause-items : goal.returns-else-len-eq-WIDTH-clause-items
returns-else-len-eq-WIDTH-clause-items c k l = has-below w64 c.args.len k (omega arith)
