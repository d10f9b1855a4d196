-- Proves the law that trace-equivalent orders of a source test's items have the same outcome. This is the
-- lemma `trace_equivalent_orders_have_one_outcome`.
use Rattle.lw_finals.proofs.SourceOutcomes.{trace_equivalent_orders_have_one_outcome}
use Rattle.lw_finals.proofs.laws.trace_equivalent_source_orders_have_one_outcome.Goals as goal

pub returns : goal.returns
returns c = trace_equivalent_orders_have_one_outcome
