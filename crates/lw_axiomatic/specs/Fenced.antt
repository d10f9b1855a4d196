-- Fences between stores and loads, in an execution and in a code. A *fence between* is an MFENCE or a locked instruction: it needs an empty
-- store buffer.
use Rattle.std.specs.Prelude.{◌≡◌, ◌≢◌, ℕ, ◌<◌, ◌⊎◌, true, None, Some, List, Contains, slice_get}
use Rattle.lw_base.specs.Threads.{thread_code}
use Rattle.lw_litmus.specs.declared.instr.Instr.{Instr}
use Rattle.lw_litmus.specs.Flow.{IsFlowPathFrom}
use Rattle.lw_litmus.specs.Operations.{location_of, is_store, is_load, is_locked, needs_empty_buffer, writes}
use Rattle.lw_litmus.specs.Programs.{x86_language, x86_operation}
use Rattle.lw_litmus.specs.Tests.{X86Test}
use Rattle.lw_axiomatic.specs.Executions.{MemoryEvent, Execution, operation_is, location, Writes, Po, Rf, Co, Fr}

module _ (test : X86Test) (x : Execution) where
  -- The event a is a store, and b a later load of its thread.
  pub record AreStoreAndLoad (a b : MemoryEvent) : Type 0 where
    pub po : Po x a b
    pub store : operation_is x86_language test is_store a ≡ true
    pub load : operation_is x86_language test is_load b ≡ true

  -- A fence or a locked instruction is between two events of a thread.
  pub record HasFenceBetween (a b : MemoryEvent) : Type 0 where
    pub fence : MemoryEvent
    pub after_first : Po x a fence
    pub before_second : Po x fence b
    pub fence_waits : operation_is x86_language test needs_empty_buffer fence ≡ true

  -- A fence or a locked instruction is between every store and every later load of its thread.
  abbrev pub IsFenced : Type 0
  IsFenced = (a b : MemoryEvent) → AreStoreAndLoad a b → HasFenceBetween a b

  -- No other thread of the execution writes the location that this load reads.
  abbrev pub IsOfOneThread : MemoryEvent → Type 0
  IsOfOneThread b = (c : MemoryEvent) (l : ℕ) → location x86_language test b ≡ Some l → Writes x86_language test x c l → c.thread ≡ b.thread

  -- A fence is between every store and every later load of its thread, unless no other thread writes what the load reads.
  abbrev pub IsFencedWhereShared : Type 0
  IsFencedWhereShared = (a b : MemoryEvent) → AreStoreAndLoad a b → HasFenceBetween a b ⊎ IsOfOneThread b

  -- If a load reads a word that another thread's write overwrites, there is a fence between it and each earlier store of its thread. This
  -- is a property of executions; the triangular races of runs by interleaving are in Races.
  abbrev pub IsFencedWhereOverwritten : Type 0
  IsFencedWhereOverwritten =
      (a b c : MemoryEvent) → AreStoreAndLoad a b → Fr x86_language test x b c → b.thread ≢ c.thread → HasFenceBetween a b

  -- Locked instructions are atomic: no write comes in coherence order between what a locked instruction r reads and what it
  -- writes. Either r reads from a write w, or it reads the initial word, which comes before every write.
  pub record IsAtomic : Type 0 where
    pub after_write :
        (r w v : MemoryEvent) → operation_is x86_language test is_locked r ≡ true → Rf x86_language test x w r → Co x86_language test x w v → Co x86_language test x v r
        → ⊥
    pub after_initial : (r v : MemoryEvent) → operation_is x86_language test is_locked r ≡ true → x.rf r ≡ None → Co x86_language test x v r → ⊥

-- ---- On the paths of a code.

module _ (code : List Instr) (path : List ℕ) (i j : ℕ) where
  -- The path is a flow path of the code, with a store at the position i, and this load later, at j.
  pub record AreOnPath (load : Instr) : Type 0 where
    pub path_is : IsFlowPathFrom x86_language code 0 path
    pub store_on_path : Contains path i
    pub load_on_path : Contains path j
    pub position_lt : i < j
    pub store : Instr
    pub store_at : slice_get code i ≡ Some store
    pub load_at : slice_get code j ≡ Some load
    pub stores : is_store (x86_operation store) ≡ true
    pub loads : is_load (x86_operation load) ≡ true

  -- Between the positions i and j of the path there is an instruction that needs an empty store buffer.
  pub record HasFenceOnPath : Type 0 where
    pub fence_index : ℕ
    pub on_path : Contains path fence_index
    pub after_first : i < fence_index
    pub before_second : fence_index < j
    pub fence : Instr
    pub fence_at : slice_get code fence_index ≡ Some fence
    pub fence_waits : needs_empty_buffer (x86_operation fence) ≡ true

-- No thread except t has an instruction that writes the location of this load of t.
abbrev pub IsLocationOnlyWrittenBy : X86Test → ℕ → Instr → Type 0
IsLocationOnlyWrittenBy test t load =
    (u k l : ℕ) (c : Instr) → slice_get (thread_code test.threads u) k ≡ Some c → writes (x86_operation c) ≡ true
    → location_of (x86_operation c) ≡ Some l → location_of (x86_operation load) ≡ Some l → u ≡ t

-- On each path of each thread a fence or a locked instruction is between each store and each later load.
abbrev pub IsFencedInAllThreads : X86Test → Type 0
IsFencedInAllThreads test =
    (t : ℕ) (path : List ℕ) (i j : ℕ) (load : Instr) → AreOnPath (thread_code test.threads t) path i j load
    → HasFenceOnPath (thread_code test.threads t) path i j

-- On each path a fence or a locked instruction is between each store and each later load, unless no instruction of another thread writes
-- what the load reads.
abbrev pub IsFencedWhereOthersWrite : X86Test → Type 0
IsFencedWhereOthersWrite test =
    (t : ℕ) (path : List ℕ) (i j : ℕ) (load : Instr) → AreOnPath (thread_code test.threads t) path i j load
    → HasFenceOnPath (thread_code test.threads t) path i j ⊎ IsLocationOnlyWrittenBy test t load
