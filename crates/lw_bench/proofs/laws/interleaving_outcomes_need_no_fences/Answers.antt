-- Law: each outcome of interleaving is one of the program compiled with any fences, or with none. Both
-- clauses are `OutcomeOverCaches-with_fences`: this half of the compiler's proof does not depend on where fences are.
use Rattle.lw_bench.proofs.Theorems.{OutcomeOverCaches-with_fences}
use Rattle.lw_bench.proofs.laws.interleaving_outcomes_need_no_fences.Goals as goal

pub returns : goal.returns
returns c =
    let caches = c.outcomes_over_caches_are_flat.ensures in
    record {
      without =
          λ source program starts protocol o ok compiled fits. OutcomeOverCaches-with_fences caches ok compiled fits protocol o;
      anywhere = λ fences source program starts protocol o ok compiled fits.
          OutcomeOverCaches-with_fences caches ok compiled fits protocol o;
    }
