-- Law: a test with a fence between each store and each later load has only sequentially consistent outcomes.
-- Its executions are fenced, since their paths are paths of the code (`IsFenced-IsFencedInAllThreads`); the other
-- direction holds of every test. On the machine both sides are exchanged by the laws of the axioms and of
-- interleaving.
use Rattle.lw_axiomatic.proofs.FencedTests.{IsFenced-IsFencedInAllThreads}
use Rattle.lw_axiomatic.proofs.Sequenced.{IsFencedWhereOverwritten-IsFenced}
use Rattle.lw_axiomatic.proofs.programs.fenced_tests_have_sequential_outcomes.Goals as goal

-- On the machine the outcomes are those that the axioms allow, and by interleaving the sequentially consistent ones.
pub returns : goal.returns
returns c = record {
  axioms = λ test o fenced. (
    λ a.
        c.executions_fenced_where_overwritten_are_sequential.ensures.outcomes test o
        (λ x candidate axioms. IsFencedWhereOverwritten-IsFenced test x (IsFenced-IsFencedInAllThreads candidate fenced)) a,
    λ s. c.sequential_outcomes_are_allowed.ensures.outcomes test o s,
  );
  flat_memory = λ test o well_scoped fenced.
      let machine = c.machine_outcomes_are_those_allowed.ensures.flat_memory test o well_scoped in
      let same = c.interleaving_outcomes_are_sequential.ensures.x86 test o well_scoped in (
        λ run.
            same.1 (c.executions_fenced_where_overwritten_are_sequential.ensures.outcomes test o
            (λ x candidate axioms. IsFencedWhereOverwritten-IsFenced test x (IsFenced-IsFencedInAllThreads candidate fenced))
            (machine.0 run)),
        λ run. machine.1 (c.sequential_outcomes_are_allowed.ensures.outcomes test o (same.0 run)),
      );
}
