-- Executions with times: one order in which instructions execute and reach memory. The source is Owens, Sarkar and Sewell ('A better x86
-- memory model: x86-TSO', TPHOLs 2009), and the axiom of values in SPARC's Architecture Manual, version 8: a read has the word of the
-- newest write that is before it in memory or in its thread.
use Rattle.std.specs.Prelude.{◌≡◌, ℕ, ◌<◌, ◌≤◌, ◌⊎◌, true, false, Option, Some, None}
use Rattle.lw_litmus.specs.Operations.{is_store}
use Rattle.lw_litmus.specs.Programs.{x86_language}
use Rattle.lw_litmus.specs.Tests.{X86Test}
use Rattle.lw_axiomatic.specs.Executions.{MemoryEvent, Execution, operation_is, IsEvent, Reads, Writes, Po, Co, Ppo}

module _ (x : Execution) (done reached : MemoryEvent → ℕ) where
  -- The write w has reached memory when r executes, or is before it in its own thread.
  abbrev pub IsBefore : MemoryEvent → MemoryEvent → Type 0
  IsBefore w r = (reached w < done r) ⊎ Po x w r

module _ (test : X86Test) (x : Execution) (done reached : MemoryEvent → ℕ) where
  -- The write v is the last to reach memory of the writes to l that are before r.
  pub record IsNewestWrite (r : MemoryEvent) (l : ℕ) (v : MemoryEvent) : Type 0 where
    pub write : Writes x86_language test x v l
    pub is_before : IsBefore x done reached v r
    pub latest : (w : MemoryEvent) → Writes x86_language test x w l → IsBefore x done reached w r → reached w ≤ reached v

  -- The option is the newest of the writes to l that are before r, or `None` if no write to l is before r.
  abbrev pub IsNewest : MemoryEvent → ℕ → Option MemoryEvent → Type 0
  IsNewest r l None = (w : MemoryEvent) → Writes x86_language test x w l → IsBefore x done reached w r → ⊥
  IsNewest r l (Some v) = IsNewestWrite r l v

  -- Each thread's instructions execute in their order. A store reaches memory later than it executes, every other event when it executes.
  -- No two events reach memory at the same time, and they reach it in preserved program order and in coherence order. Each read reads from
  -- the newest write that is before it.
  pub record HasConsistentTimes : Type 0 where
    pub po : (a b : MemoryEvent) → Po x a b → done a < done b
    pub later : (e : MemoryEvent) → IsEvent x e → operation_is x86_language test is_store e ≡ true → done e < reached e
    pub at_once : (e : MemoryEvent) → operation_is x86_language test is_store e ≡ false → reached e ≡ done e
    pub ppo : (a b : MemoryEvent) → Ppo x86_language test x a b → reached a < reached b
    pub co : (w v : MemoryEvent) → Co x86_language test x w v → reached w < reached v
    pub reached_injective : (a b : MemoryEvent) → IsEvent x a → IsEvent x b → reached a ≡ reached b → a ≡ b
    pub newest : (r : MemoryEvent) (l : ℕ) → Reads x86_language test x r l → IsNewest r l (x.rf r)

-- The execution has times: when each event executes, and when it reaches memory.
pub record HasTimes (test : X86Test) (x : Execution) : Type 0 where
  pub done : MemoryEvent → ℕ
  pub reached : MemoryEvent → ℕ
  pub timed : HasConsistentTimes test x done reached
