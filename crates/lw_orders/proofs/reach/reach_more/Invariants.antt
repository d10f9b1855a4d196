-- At each round the sets of the first items are those with the new pair, and the others are copies.
use Rattle.lw_orders.proofs.WalkSets.{IsGrowing}
use Rattle.lw_orders.proofs.reach.reach_more.Given as goal

abbrev pub invariant-loop-item : goal.invariant-loop-item
invariant-loop-item g l = IsGrowing l.sets l.more l.len l.from l.to l.item
