-- Proves `ItemSet::contains`, which tests whether an item is in the set. A bit of the number is set if and
-- only if its intersection with the power of two is not 0 (`has-bit`).
use Rattle.lw_orders.proofs.Common.{most_items, ap, ◌∙◌, not, eqb, bit_and, one_shl}
use Rattle.lw_orders.proofs.Bits.{has-bit}
use Rattle.lw_orders.proofs.item_set.ItemSet.contains.Goals as goal

pub returns : goal.returns
returns c =
    rw (← c.self.view_is)
    (ap (λ n. not (eqb (bit_and c.self.inside.0 n) 0)) (one_shl c.args.item most_items c.requires)
    ∙ has-bit c.self.inside.0 c.args.item)
