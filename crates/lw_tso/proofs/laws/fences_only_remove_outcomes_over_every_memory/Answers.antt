-- Proves the law that fences only remove outcomes over every memory system. The outcome is taken to flat
-- memory and back by the law `outcomes_are_flat`, and there the law for flat memory is used; the test without
-- the fences is well-scoped too.
use Rattle.lw_tso.proofs.laws.fences_only_remove_outcomes_over_every_memory.Goals as goal

pub returns : goal.returns
returns g c = λ test fenced m n o ok inserted start fenced_start outcome.
    let test_ok = c.tests_without_fences_are_well_formed.ensures.well_scoped test fenced ok inserted in
    let flat_outcome = (c.outcomes_are_flat.ensures fenced n o ok fenced_start).0 outcome in
    let fewer = c.fences_only_remove_outcomes.ensures test fenced o inserted flat_outcome in
    (c.outcomes_are_flat.ensures test m o test_ok start).1 fewer
