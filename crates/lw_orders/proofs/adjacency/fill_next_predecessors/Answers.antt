-- Proves `fill_next_predecessors`, which fills the second of two tables with the predecessors along preserved
-- and chosen pairs. The list of tables is split after the first; reading both parts in the whole list is list
-- reasoning (`grind`).
use Rattle.lw_orders.proofs.Common.{common_steps, arith}
use Rattle.lw_orders.proofs.adjacency.fill_next_predecessors.Goals as goal

pub returns-clause-filled : goal.returns-clause-filled
returns-clause-filled g c = grind (arith, common_steps)
