-- Proves the law that trace-equivalent orders are connected by swaps of adjacent independent items. This is
-- the lemma of the same name.
use Rattle.lw_orders.proofs.api.SwapInvariance.{trace_equivalent_orders_are_connected}
use Rattle.lw_orders.proofs.laws.trace_equivalent_orders_are_connected.Goals as goal

pub returns : goal.returns
returns c t are = trace_equivalent_orders_are_connected t are.conflicts_up
