-- Law: a compiled program has its source's outcomes, on flat memory by the compiler's simulation
-- (`IsMachineOutcome-compiled_iff`), and over caches, since the outcomes over caches are those over flat memory.
use Rattle.lw_bench.proofs.Common.{IsMachineOutcome-compiled_iff}
use Rattle.lw_bench.proofs.Theorems.{outcomes_over_caches}
use Rattle.lw_bench.proofs.laws.compiled_programs_have_their_sources_outcomes.Goals as goal

pub returns : goal.returns
returns c = record {
  flat_memory = IsMachineOutcome-compiled_iff;
  caches = λ source program starts protocol o ok compiled fits.
      outcomes_over_caches c.outcomes_over_caches_are_flat.ensures source program starts ok compiled fits protocol o;
}
