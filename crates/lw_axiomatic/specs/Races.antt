-- Triangular races of an x86 test, in its runs by interleaving.
-- The source is Owens ('Reasoning about the implementation of concurrency abstractions on x86-TSO', ECOOP 2010).
use Rattle.std.specs.Prelude.{◌≡◌, ◌≢◌, ℕ, Bool, true, false, Some, List, [], ◌∷◌, slice_get}
use Rattle.lw_base.specs.Threads.{thread_code}
use Rattle.lw_litmus.specs.declared.instr.Instr.{Instr}
use Rattle.lw_litmus.specs.declared.operation.Operation.{Operation}
use Rattle.lw_litmus.specs.Operations.{location_of, is_store, is_load, needs_empty_buffer, writes}
use Rattle.lw_litmus.specs.Programs.{x86_language, x86_operation}
use Rattle.lw_litmus.specs.Tests.{X86Test}
use Rattle.lw_axiomatic.specs.Interleavings.{Interleaved, IsStep, InterleavedRunsTo, start}
use Rattle.lw_axiomatic.specs.ThreadStates.{ThreadState}

module _ (test : X86Test) where
  -- The threads of the order execute a step each, in sequence, and thread q executes no fence and no locked instruction.
  abbrev pub RunsToWithoutBarrier : ℕ → List ℕ → Interleaved → Interleaved → Type 0
  RunsToWithoutBarrier q [] s end = end ≡ s
  RunsToWithoutBarrier q (t ∷ order) s end =
      (mid : Interleaved) × (step : IsStep x86_language test.threads t s mid)
      × (t ≡ q → needs_empty_buffer (x86_operation step.statement) ≡ false) × RunsToWithoutBarrier q order mid end

  -- In the state s the next instruction of thread t has this kind and accesses the location l.
  pub record IsNext (kind : Operation → Bool) (l t : ℕ) (s : Interleaved) : Type 0 where
    pub thread : ThreadState
    pub instruction : Instr
    pub thread_at : slice_get s.threads t ≡ Some thread
    pub instruction_at : slice_get (thread_code test.threads t) thread.position ≡ Some instruction
    pub has_kind : kind (x86_operation instruction) ≡ true
    pub location_is : location_of (x86_operation instruction) ≡ Some l

  -- In some run by interleaving, thread q has executed a store, and since then no fence and no locked instruction; and now its next
  -- instruction is a load of another location, which the next instruction of another thread p writes.
  pub record HasTriangularRace : Type 0 where
    pub q : ℕ
    pub p : ℕ
    pub threads_differ : p ≢ q
    pub order_before : List ℕ
    pub state_before : Interleaved
    pub run_before : InterleavedRunsTo x86_language test.threads order_before (start x86_language test) state_before
    pub state_after_store : Interleaved
    pub store : IsStep x86_language test.threads q state_before state_after_store
    pub stores : is_store (x86_operation store.statement) ≡ true
    pub order_since : List ℕ
    pub state_now : Interleaved
    pub run_since : RunsToWithoutBarrier q order_since state_after_store state_now
    pub l : ℕ
    pub locations_differ : location_of (x86_operation store.statement) ≢ Some l
    pub load_is_next : IsNext is_load l q state_now
    pub write_is_next : IsNext writes l p state_now
