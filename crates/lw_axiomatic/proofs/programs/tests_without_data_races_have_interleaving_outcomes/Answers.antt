-- Law: a test without data races has only the outcomes of interleaving. A triangular race is a data race,
-- that of its load and its write (`HasDataRace-HasTriangularRace`); so the test has no triangular race either, and the
-- law of those applies.
use Rattle.lw_axiomatic.proofs.DataRaces.{HasDataRace-HasTriangularRace}
use Rattle.lw_axiomatic.proofs.programs.tests_without_data_races_have_interleaving_outcomes.Goals as goal

-- Each clause is that of tests without triangular races.
pub returns : goal.returns
returns c =
    let law = c.tests_without_triangular_races_have_interleaving_outcomes.ensures in
    record {
      axioms = λ test o well_scoped none. law.axioms test o well_scoped (λ race. none (HasDataRace-HasTriangularRace test race));
      flat_memory =
          λ test o well_scoped none. law.flat_memory test o well_scoped (λ race. none (HasDataRace-HasTriangularRace test race));
      caches = λ protocol test o well_scoped fits none.
          law.caches protocol test o well_scoped fits (λ race. none (HasDataRace-HasTriangularRace test race));
    }
