-- Proves `fill_predecessors`: the filled sets are the predecessors along the preserved and the chosen pairs.
-- `ArePredecessors-append` adds to the copied sets what `add_predecessors` inserts.
use Rattle.lw_orders.proofs.Common.{◌||◌, arith, ap, ◌∙◌, has, has_edge}
use Rattle.lw_orders.proofs.LowestBySets.{ArePredecessors-append, get_or-copied_set}
use Rattle.lw_orders.proofs.adjacency.fill_predecessors.Goals as goal

-- The preserved pairs' sets are copied, and the chosen pairs added to them.
pub returns : goal.returns
returns c preserved are =
    ArePredecessors-append c.args.len _ _ preserved c.args.chosen.now
    (λ i j li lj. are i j (omega (arith, li, c.requires.bounded)) lj) (λ i j li lj.
    c.add_predecessors.ensures i j (omega (arith, li, c.requires.bounded)) lj
    ∙ ap (λ set_of. has set_of j || has_edge c.args.chosen.now j i)
    (get_or-copied_set c.args.len i c.args.before.now _ _ li (omega (arith, c.told-before, c.requires.bounded))
    c.copy_from_slice.ensures.after))
