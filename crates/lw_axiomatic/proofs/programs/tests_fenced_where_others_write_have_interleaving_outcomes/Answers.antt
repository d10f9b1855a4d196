-- Law: a test with a fence before each load of what another thread's code writes has only the outcomes of
-- interleaving. Its executions are fenced where shared, so fenced where overwritten, and such executions are
-- sequentially consistent.
use Rattle.lw_axiomatic.proofs.FencedTests.{IsFencedWhereShared-IsFencedWhereOthersWrite}
use Rattle.lw_axiomatic.proofs.Sequenced.{IsFencedWhereOverwritten-IsFencedWhereShared}
use Rattle.lw_axiomatic.proofs.programs.tests_fenced_where_others_write_have_interleaving_outcomes.Goals as goal

-- On the machine the outcomes are those that the axioms allow, and by interleaving the sequentially consistent ones.
pub returns : goal.returns
returns c = record {
  axioms = λ test o fenced. (
    λ a.
        c.executions_fenced_where_overwritten_are_sequential.ensures.outcomes test o (λ x candidate axioms.
        IsFencedWhereOverwritten-IsFencedWhereShared test x (IsFencedWhereShared-IsFencedWhereOthersWrite candidate fenced)) a,
    λ s. c.sequential_outcomes_are_allowed.ensures.outcomes test o s,
  );
  flat_memory = λ test o well_scoped fenced.
      let machine = c.machine_outcomes_are_those_allowed.ensures.flat_memory test o well_scoped in
      let same = c.interleaving_outcomes_are_sequential.ensures.x86 test o well_scoped in (
        λ run.
            same.1 (c.executions_fenced_where_overwritten_are_sequential.ensures.outcomes test o (λ x candidate axioms.
            IsFencedWhereOverwritten-IsFencedWhereShared test x (IsFencedWhereShared-IsFencedWhereOthersWrite candidate fenced))
            (machine.0 run)),
        λ run. machine.1 (c.sequential_outcomes_are_allowed.ensures.outcomes test o (same.0 run)),
      );
}
