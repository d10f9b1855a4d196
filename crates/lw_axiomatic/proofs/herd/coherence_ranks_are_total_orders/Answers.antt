-- Law: the ranks of coherence order are a total order of each location's writes, and each such order has
-- ranks. The second half is the interesting one (`order_has_ranks`): a total order without a cycle, of
-- finitely many events, can be numbered.
use Rattle.lw_axiomatic.proofs.CoherenceOrders.{IsCoherenceOrder-of_ranks, order_has_ranks}
use Rattle.lw_axiomatic.proofs.herd.coherence_ranks_are_total_orders.Goals as goal

pub returns : goal.returns
returns c = record { orders = IsCoherenceOrder-of_ranks; indices = order_has_ranks }
