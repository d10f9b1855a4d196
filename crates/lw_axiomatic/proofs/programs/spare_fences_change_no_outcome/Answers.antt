-- Law: removing spare fences changes no outcome. That fences only remove outcomes is a law of the machine;
-- the new half is that none is lost (`IsAllowed-with_fences`), and it is proved on the axioms. The clauses on
-- the machine and on caches exchange outcomes by the theorem.
use Rattle.lw_axiomatic.proofs.Common.{most_threads, subst, ◌≤◌, TestHead}
use Rattle.lw_axiomatic.proofs.SpareFences.{IsAllowed-with_fences}
use Rattle.lw_axiomatic.proofs.programs.spare_fences_change_no_outcome.Goals as goal

-- In each clause one direction is `IsAllowed-with_fences`, and the other that fences only remove outcomes.
pub returns : goal.returns
returns c =
    let scoped = c.tests_without_fences_are_well_formed.ensures.well_scoped in
    let fewer = c.fences_only_remove_outcomes.ensures in
    let machine = c.machine_outcomes_are_those_allowed.ensures in
    record {
      axioms = λ test fenced o inserted well_scoped spare.
          let test_ok = scoped test fenced well_scoped inserted in (
            λ a. IsAllowed-with_fences inserted well_scoped spare a,
            λ a.
                (machine.flat_memory test o test_ok).0 (fewer test fenced o inserted
                ((machine.flat_memory fenced o well_scoped).1 a)),
          );
      flat_memory = λ test fenced o inserted well_scoped spare.
          let test_ok = scoped test fenced well_scoped inserted in (
            λ run.
                (machine.flat_memory fenced o well_scoped).1 (IsAllowed-with_fences inserted well_scoped spare
                ((machine.flat_memory test o test_ok).0 run)),
            λ run. fewer test fenced o inserted run,
          );
      caches = λ protocol test fenced o inserted well_scoped fits spare.
          let test_ok = scoped test fenced well_scoped inserted in
          let test_fits = subst (λ (h : TestHead). h.threads ≤ most_threads) inserted.head fits in (
            λ run.
                (machine.caches protocol fenced o well_scoped fits).1 (IsAllowed-with_fences inserted well_scoped spare
                ((machine.caches protocol test o test_ok test_fits).0 run)),
            λ run.
                (machine.caches protocol test o test_ok test_fits).1 ((machine.flat_memory test o test_ok).0 (fewer test fenced o
                inserted
                ((machine.flat_memory fenced o well_scoped).1 ((machine.caches protocol fenced o well_scoped fits).0 run)))),
          );
    }
