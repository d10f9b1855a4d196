-- Law: a test without triangular races has, by the axioms, on the machine and over caches, the outcomes of
-- interleaving. `IsAllowed-iff_InterleavingOutcome` says so of the axioms; the machine and the caches are exchanged for the axioms by
-- the theorem.
use Rattle.lw_axiomatic.proofs.RaceFree.{IsAllowed-iff_InterleavingOutcome}
use Rattle.lw_axiomatic.proofs.programs.tests_without_triangular_races_have_interleaving_outcomes.Goals as goal

-- On the machine and over caches the outcomes are those that the axioms allow.
pub returns : goal.returns
returns c =
    let same =
    IsAllowed-iff_InterleavingOutcome c.interleaving_outcomes_are_sequential.ensures.x86
    c.sequential_outcomes_are_allowed.ensures.outcomes in
    let machine = c.machine_outcomes_are_those_allowed.ensures in
    record {
      axioms = same;
      flat_memory = λ test o well_scoped raceless.
          let m = machine.flat_memory test o well_scoped in
          let s = same test o well_scoped raceless in
          (λ run. s.0 (m.0 run), λ run. m.1 (s.1 run));
      caches = λ protocol test o well_scoped fits raceless.
          let m = machine.caches protocol test o well_scoped fits in
          let s = same test o well_scoped raceless in
          (λ run. s.0 (m.0 run), λ run. m.1 (s.1 run));
    }
