-- Proves `add_predecessors`, which inserts the first item of each pair into the set of its second. Each round
-- inserts one item, and a pair is among the first k + 1 if it is among the first k or is the next one; the rest
-- is Boolean reasoning (`grind`).
use Rattle.lw_orders.proofs.Common.{◌&&◌, arith, eqb, list_any_more}
use Rattle.lw_orders.proofs.adjacency.add_predecessors.Goals as goal

pub loop-pair-preserved : goal.loop-pair-preserved
loop-pair-preserved c i j li lj =
    let one_more = list_any_more (λ p. eqb p.0 j && eqb p.1 i) _ _ (0, 0) c.loop-pair-test.true in
    grind (arith, one_more, c.insert_into.ensures i j li lj, c.loop-pair.invariant i j li lj)
