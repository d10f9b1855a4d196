-- The axioms of x86-TSO, and the outcomes that they allow.
-- The source is herd's x86tso.cat (https://github.com/herd/herdtools7), which is the model of Owens, Sarkar and Sewell ('A
-- better x86 memory model: x86-TSO', TPHOLs 2009) in the form of 'Herding Cats' (Alglave, Maranget and Tautschnig, TOPLAS
-- 2014).
use Rattle.std.specs.Prelude.{ℕ, ◌<◌, ◌⊎◌}
use Rattle.lw_base.specs.Outcomes.{FinalState}
use Rattle.lw_litmus.specs.Programs.{x86_language}
use Rattle.lw_litmus.specs.Tests.{X86Test}
use Rattle.lw_axiomatic.specs.Executions.{MemoryEvent, Execution, Rf, Co, Fr, PoLoc, Ppo, Rfe}
use Rattle.lw_axiomatic.specs.Candidates.{IsCandidate}

-- Acyclic relations: the events can be numbered so that the numbers increase along every pair.
module _ {E : Type 0} (R : E → E → Type 0) where
  -- The relation R is acyclic: there are ranks that increase along it.
  pub record Acyclic : Type 0 where
    pub rank : E → ℕ
    pub increases : (a b : E) → R a b → rank a < rank b

module _ (test : X86Test) (x : Execution) where
  -- The relations of coherence: program order on one location, reads-from, coherence order and from-reads.
  abbrev pub OnOneLocation : MemoryEvent → MemoryEvent → Type 0
  OnOneLocation a b = PoLoc x86_language test x a b ⊎ (Rf x86_language test x a b ⊎ (Co x86_language test x a b ⊎ Fr x86_language test x a b))

  -- The relations of global happens-before: preserved program order, reads-from between threads, coherence order, from-reads.
  abbrev pub HappensBefore : MemoryEvent → MemoryEvent → Type 0
  HappensBefore a b = Ppo x86_language test x a b ⊎ (Rfe x86_language test x a b ⊎ (Co x86_language test x a b ⊎ Fr x86_language test x a b))

  -- Coherence: on each location the events are ordered as if it were the only one.
  abbrev pub Coherence : Type 0
  Coherence = Acyclic OnOneLocation

  -- Global happens-before: the order that all threads observe is acyclic.
  abbrev pub GlobalHappensBefore : Type 0
  GlobalHappensBefore = Acyclic HappensBefore

  -- The axioms of x86-TSO: coherence and global happens-before.
  pub record SatisfiesAxioms : Type 0 where
    pub coherence : Coherence
    pub happens_before : GlobalHappensBefore

-- Some execution of the test with this outcome satisfies the axioms.
pub record IsAllowed (test : X86Test) (o : FinalState) : Type 0 where
  pub execution : Execution
  pub candidate : IsCandidate x86_language test execution o
  pub axioms : SatisfiesAxioms test execution
