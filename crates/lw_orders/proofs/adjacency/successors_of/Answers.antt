-- Proves `successors_of`: item j is in the set of i if and only if (i, j) is a pair. The pairs are added to
-- empty sets, which contain nothing (`ArePredecessors-empty`).
use Rattle.lw_orders.proofs.Common.{most_items, ap, ◌∙◌, ◌||◌, replicate, get_or-replicate, has_edge}
use Rattle.lw_orders.proofs.LowestBySets.{ArePredecessors-empty}
use Rattle.lw_orders.proofs.adjacency.successors_of.Goals as goal

pub returns : goal.returns
returns c i j li lj =
    c.add_successors.ensures i j li lj
    ∙ ap (λ b. b || has_edge c.args.pairs.now i j)
    (ArePredecessors-empty (replicate most_items c.empty-sets.result)
    (λ k l. get_or-replicate most_items k c.empty-sets.result 0 l ∙ c.empty-sets.ensures) i j li lj)
