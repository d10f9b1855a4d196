-- Sequentially consistent executions of a test, of either language, and their outcomes. The source is Lamport ('How to make a
-- multiprocessor computer that correctly executes multiprocess programs', 1979), as the axiom of herd's sc.cat: program order, reads-from,
-- coherence order and from-reads together are acyclic.
use Rattle.std.specs.Prelude.{◌⊎◌}
use Rattle.lw_base.specs.Outcomes.{FinalState}
use Rattle.lw_litmus.specs.Languages.{Language}
use Rattle.lw_litmus.specs.Tests.{Test}
use Rattle.lw_axiomatic.specs.Executions.{MemoryEvent, Execution, Po, Rf, Co, Fr}
use Rattle.lw_axiomatic.specs.Candidates.{IsCandidate}
use Rattle.lw_axiomatic.specs.Axioms.{Acyclic}

module _ {S : Type 0} (language : Language S) (test : Test S) where
  module _ (x : Execution) where
    -- Program order, and the communication of threads: reads-from, coherence order and from-reads.
    abbrev pub ScOrder : MemoryEvent → MemoryEvent → Type 0
    ScOrder a b = Po x a b ⊎ (Rf language test x a b ⊎ (Co language test x a b ⊎ Fr language test x a b))

    -- The axiom of sequential consistency: program order and communication have no cycle together.
    abbrev pub IsSequentiallyConsistent : Type 0
    IsSequentiallyConsistent = Acyclic ScOrder

  -- Some sequentially consistent execution of the test has this outcome.
  pub record IsScOutcome (o : FinalState) : Type 0 where
    pub execution : Execution
    pub candidate : IsCandidate language test execution o
    pub sequential : IsSequentiallyConsistent execution
