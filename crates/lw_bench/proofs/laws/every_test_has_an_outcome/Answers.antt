-- Law: every test has an outcome, by interleaving, on the machine and over caches. Any run can be continued
-- to a final state, so the empty one can; over caches the outcome is that over flat memory.
use Rattle.lw_bench.proofs.Common.{machine_outcome-exists}
use Rattle.lw_bench.proofs.Theorems.{source_outcome, cached_outcome}
use Rattle.lw_bench.proofs.laws.every_test_has_an_outcome.Goals as goal

pub returns : goal.returns
returns c = record {
  source = source_outcome;
  flat_memory = machine_outcome-exists;
  caches = cached_outcome c.outcomes_over_caches_are_flat.ensures;
}
