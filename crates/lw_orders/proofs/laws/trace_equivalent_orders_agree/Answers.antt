-- Proves the law that a test which each swap of adjacent independent items preserves has one value on
-- trace-equivalent orders. This is the lemma `trace_equivalent_orders_agree`.
use Rattle.lw_orders.proofs.api.SwapInvariance.{trace_equivalent_orders_agree}
use Rattle.lw_orders.proofs.laws.trace_equivalent_orders_agree.Goals as goal

pub returns : goal.returns
returns c t are = trace_equivalent_orders_agree t are.conflicts_up
