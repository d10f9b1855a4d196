-- Law: the axioms allow store buffering the outcome in which both loads read 0. `IsAllowed-both_loads_early` gives the execution
-- and its ranks: all from-reads go from a load to a store, and no program order is preserved, so loads get
-- rank 0 and stores rank 1.
use Rattle.lw_axiomatic.proofs.Worked.{IsAllowed-both_loads_early}
use Rattle.lw_axiomatic.proofs.examples.store_buffering_is_allowed.Goals as goal

pub returns : goal.returns
returns c = IsAllowed-both_loads_early
