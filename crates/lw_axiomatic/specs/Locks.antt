-- Locks in an execution: a location that is free while it is 0. Locked instructions take it, whether it is free or not, and leave
-- something else there; a plain store of the thread that has taken it lets it go.
use Rattle.std.specs.Prelude.{◌≡◌, ◌≢◌, ℕ, ◌<◌, true}
use Rattle.lw_litmus.specs.Operations.{is_store, is_locked}
use Rattle.lw_litmus.specs.Programs.{x86_language}
use Rattle.lw_litmus.specs.Tests.{X86Test}
use Rattle.lw_axiomatic.specs.Axioms.{HappensBefore}
use Rattle.lw_axiomatic.specs.Executions.{MemoryEvent, Execution, operation_is, Po, Reads, Writes}

module _ (test : X86Test) (x : Execution) where
  -- Event a comes before b in global happens-before, by one or several of its pairs: it does so in each order that respects them.
  abbrev pub IsOrderedBefore : MemoryEvent → MemoryEvent → Type 0
  IsOrderedBefore a b =
      (rank : MemoryEvent → ℕ) → ((c d : MemoryEvent) → HappensBefore test x c d → rank c < rank d) → rank a < rank b

  module _ (l : ℕ) where
    -- Event r acquires the lock l: it is a locked instruction that finds the lock free.
    pub record Acquires (r : MemoryEvent) : Type 0 where
      pub reads : Reads x86_language test x r l
      pub locked : operation_is x86_language test is_locked r ≡ true
      pub free : x.read r ≡ 0

    -- Event u releases the lock that r has acquired: it is the first to write the lock after r in r's thread.
    pub record Releases (r u : MemoryEvent) : Type 0 where
      pub po : Po x r u
      pub writes : Writes x86_language test x u l
      pub first : (v : MemoryEvent) → Po x r v → Po x v u → Writes x86_language test x v l → ⊥

    -- Location l is used as a lock: no locked instruction leaves it free, and each plain store to it releases a lock that was acquired.
    pub record IsUsedAsLock : Type 0 where
      pub taken :
          (r : MemoryEvent) → Writes x86_language test x r l → operation_is x86_language test is_locked r ≡ true → x.written r ≢ 0
      pub released :
          (u : MemoryEvent) → Writes x86_language test x u l → operation_is x86_language test is_store u ≡ true
          → (r : MemoryEvent) × Acquires r × Releases r u

    -- The critical section that r begins is over when s acquires the lock: its release precedes s.
    abbrev pub IsOverBefore : MemoryEvent → MemoryEvent → Type 0
    IsOverBefore r s = (u : MemoryEvent) × Releases r u × IsOrderedBefore u s
