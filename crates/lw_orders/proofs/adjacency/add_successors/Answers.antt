-- Proves `add_successors`, which inserts the second item of each pair into the set of its first. As
-- `add_predecessors`, with the items of a pair reversed.
use Rattle.lw_orders.proofs.Common.{◌&&◌, arith, eqb, list_any_more}
use Rattle.lw_orders.proofs.adjacency.add_successors.Goals as goal

pub loop-pair-preserved : goal.loop-pair-preserved
loop-pair-preserved c i j li lj =
    let one_more = list_any_more (λ p. eqb p.0 i && eqb p.1 j) _ _ (0, 0) c.loop-pair-test.true in
    grind (arith, one_more, c.insert_into.ensures i j li lj, c.loop-pair.invariant i j li lj)
