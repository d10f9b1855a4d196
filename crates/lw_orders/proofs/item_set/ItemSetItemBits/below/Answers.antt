-- Proves `below` for sets of 128 items: all items below `len`. For 128 all bits are set (`has-ones`);
-- otherwise the number is one less than a power of two (`has-below`).
use Rattle.lw_orders.proofs.Common.{most_items, arith, w128}
use Rattle.lw_orders.proofs.Bits.{has-ones, has-below}
use Rattle.lw_orders.proofs.item_set.ItemSetItemBits.below.Goals as goal

pub returns-then-len-eq-WIDTH-clause-items : goal.returns-then-len-eq-WIDTH-clause-items
returns-then-len-eq-WIDTH-clause-items c k l = rw c.if-len-eq-WIDTH.true (has-ones most_items k)

pub returns-else-len-eq-WIDTH-clause-items : goal.returns-else-len-eq-WIDTH-clause-items
returns-else-len-eq-WIDTH-clause-items c k l = has-below w128 c.args.len k (omega arith)
