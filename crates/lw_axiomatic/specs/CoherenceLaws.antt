-- The laws of one location, each of two events of a thread that access it.
-- The source of the names is 'Herding Cats' (Alglave, Maranget and Tautschnig, TOPLAS 2014), which has five patterns that
-- coherence forbids; its coRW1 and coRW2 are one law here.
use Rattle.std.specs.Prelude.{◌≡◌, ◌⊎◌, ℕ}
use Rattle.lw_litmus.specs.Programs.{x86_language}
use Rattle.lw_litmus.specs.Tests.{X86Test}
use Rattle.lw_axiomatic.specs.Executions.{MemoryEvent, Execution, Po, Reads, Writes, Rf, Co}

module _ (test : X86Test) (x : Execution) where
  -- Two writes in program order: the first comes before the second in coherence order.
  abbrev pub CoWW : Type 0
  CoWW =
      (w v : MemoryEvent) (l : ℕ) → Po x w v → Writes x86_language test x w l → Writes x86_language test x v l
      → Co x86_language test x w v

  -- A write before a read in program order: the read reads from it, or from a later write in coherence order.
  abbrev pub CoWR : Type 0
  CoWR =
      (w r : MemoryEvent) (l : ℕ) → Po x w r → Writes x86_language test x w l → Reads x86_language test x r l
      → (v : MemoryEvent) × Rf x86_language test x v r × ((v ≡ w) ⊎ Co x86_language test x w v)

  -- A read before a write in program order: what the read reads from comes before the write.
  abbrev pub CoRW : Type 0
  CoRW =
      (r w v : MemoryEvent) (l : ℕ) → Po x r w → Reads x86_language test x r l → Writes x86_language test x w l → Rf x86_language test x v r
      → Co x86_language test x v w

  -- Two reads in program order: the second reads from the write of the first, or from a later one.
  abbrev pub CoRR : Type 0
  CoRR =
      (r s v : MemoryEvent) (l : ℕ) → Po x r s → Reads x86_language test x r l → Reads x86_language test x s l → Rf x86_language test x v r
      → (u : MemoryEvent) × Rf x86_language test x u s × ((u ≡ v) ⊎ Co x86_language test x v u)
