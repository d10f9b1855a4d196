-- Proves `predecessors_of`: the sets are the predecessors along the pairs. `ArePredecessors-append` adds the pairs to
-- empty sets, which are the predecessor sets of no pairs (`ArePredecessors-empty`).
use Rattle.lw_orders.proofs.Common.{most_items, [], ◌∙◌, replicate, get_or-replicate}
use Rattle.lw_orders.proofs.LowestBySets.{ArePredecessors-append, ArePredecessors-empty}
use Rattle.lw_orders.proofs.adjacency.predecessors_of.Goals as goal

pub returns : goal.returns
returns c =
    ArePredecessors-append most_items (replicate most_items c.empty-sets.result) _ [] _
    (ArePredecessors-empty (replicate most_items c.empty-sets.result)
    (λ i l. get_or-replicate most_items i c.empty-sets.result 0 l ∙ c.empty-sets.ensures)) c.add_predecessors.ensures
