-- At each round the sets have what they had at first, and the first item of each of the first pairs.
use Rattle.lw_orders.proofs.Common.{most_items, ℕ, ◌≡◌, ◌<◌, ◌||◌, slice_index, take, has, has_edge}
use Rattle.lw_orders.proofs.adjacency.add_predecessors.Given as goal

abbrev pub invariant-loop-pair : goal.invariant-loop-pair
invariant-loop-pair l =
    (i j : ℕ)
    → i < most_items
    → j < most_items
    → has (slice_index l.sets i) j ≡ (has (slice_index l.initial.sets i) j || has_edge (take l.pair-index l.pairs) j i)
