-- Law: over caches a test with fences inserted has no outcome that the test lacks. The outcome is taken to
-- flat memory, where this is the law `fences_only_remove_outcomes`, and back to caches, which the shorter
-- test fits too, since it has as many threads.
use Rattle.lw_bench.proofs.Common.{subst, ◌≤◌, TestHead, most_threads}
use Rattle.lw_bench.proofs.fence_laws.fences_only_remove_outcomes_over_caches.Goals as goal

pub returns : goal.returns
returns c = λ protocol test fenced o ok fits inserted outcome.
    let test_ok = c.tests_without_fences_are_well_formed.ensures.well_scoped test fenced ok inserted in
    let test_fits = subst (λ (h : TestHead). h.threads ≤ most_threads) inserted.head fits in
    let flat_outcome = (c.outcomes_over_caches_are_flat.ensures protocol fenced o ok fits).0 outcome in
    let fewer = c.fences_only_remove_outcomes.ensures test fenced o inserted flat_outcome in
    (c.outcomes_over_caches_are_flat.ensures protocol test o test_ok test_fits).1 fewer
