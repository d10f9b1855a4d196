-- A state of the source and one of the machine, thread by thread with its processor. Both directions of the
-- compiler's theorem instantiate it: with a processor that has executed as much as its thread
-- (`SourceToMachine`), and with one that is ahead of it (`Simulation`).
use Rattle.lw_fence.proofs.Common.{registers, IsWellScopedSource, ◌≡◌, ℕ, ◌<◌, List, length, map, Some, refl}
use Rattle.lw_fence.proofs.Common.{sym, ap, ap₂, ◌∙◌, subst₂, arith, length-set, slice_get, slice_set}
use Rattle.lw_fence.proofs.Common.{length-map, All-from_recursion, same_Some, slice_get_within}
use Rattle.lw_fence.proofs.Common.{get_or_from_slice_get, TestHead, FinalState, X86, OfFellows-set_both}
use Rattle.lw_fence.proofs.Common.{slice_get-in_range, slice_get-map_inv, maps_equal-at_each_index}
use Rattle.lw_fence.proofs.Common.{flat_memory, SourceTest, X86Test, Thread, State, initial_state}
use Rattle.lw_fence.proofs.Common.{source_outcome, state_of, MachineState, Processor, initial_processor}
use Rattle.lw_fence.proofs.Common.{initial_machine_state, machine_outcome, state}
use Rattle.lw_interleaving.specs.Runs.{initial_thread as thread_starting}

-- The state in which the machine starts a compiled source: its registers and words, empty buffers.
abbrev pub compiled_start : SourceTest → MachineState (List ℕ)
compiled_start s = state (map initial_processor s.head.init_regs) s.head.init_words

-- The machine begins with the source's registers and words, since a program compiled from it has the source's head.
pub initial_machine_state-compiled : (s : SourceTest) (p : X86Test)
    → p.head ≡ record s.head { arch = X86 }
    → initial_machine_state p p.head.init_words ≡ compiled_start s
initial_machine_state-compiled s p same = ap (λ (h : TestHead). state (map initial_processor h.init_regs) h.init_words) same

module _ (source : SourceTest) (At : ℕ → Thread → Processor → Type 0) where
  -- A state of the source and one of the machine over one memory, each thread as `At` says beside its processor.
  pub record ThreadsCorrespond (ss : State) (ms : MachineState (List ℕ)) : Type 0 where
    pub words : ms.memory ≡ ss.words
    pub as_many : length ss.threads ≡ length source.threads
    pub as_many_processors : length ms.processors ≡ length source.threads
    pub at : (t : ℕ) (th : Thread) (c : Processor)
        → slice_get ss.threads t ≡ Some th
        → slice_get ms.processors t ≡ Some c
        → At t th c

  module _ (ss : State) (ms : MachineState (List ℕ)) (b : ThreadsCorrespond ss ms) where
    -- Each thread of the source is in the source's state.
    pub ThreadsCorrespond-thread : (t : ℕ) → t < length source.threads → (th : Thread) × (slice_get ss.threads t ≡ Some th)
    ThreadsCorrespond-thread t in_range = slice_get-in_range ss.threads t (omega (arith, in_range, b.as_many))

    -- Each thread of the source has its processor in the machine's state.
    pub ThreadsCorrespond-processor : (t : ℕ) → t < length source.threads → (c : Processor) × (slice_get ms.processors t ≡ Some c)
    ThreadsCorrespond-processor t in_range = slice_get-in_range ms.processors t (omega (arith, in_range, b.as_many_processors))

    -- The states still correspond after thread t and its processor have advanced to states of which `At` holds, over the memory n.
    pub ThreadsCorrespond-set : (t : ℕ) (th next : Thread) (c q : Processor) (n : List ℕ)
        → slice_get ss.threads t ≡ Some th
        → slice_get ms.processors t ≡ Some c
        → At t next q
        → ThreadsCorrespond (state_of (slice_set ss.threads t next) n) (state (slice_set ms.processors t q) n)
    ThreadsCorrespond-set t th next c q n was processor_at at = record {
      words = refl;
      as_many = length-set ss.threads t next ∙ b.as_many;
      as_many_processors = length-set ms.processors t q ∙ b.as_many_processors;
      at =
          OfFellows-set_both At ss.threads _ t next q (record { left = was; right = processor_at })
          (λ u x d e f ne. b.at u x d e f) at;
    }

    -- The two states have the same outcome if each thread has the registers of its processor.
    pub ThreadsCorrespond-outcome : ((t : ℕ) (th : Thread) (c : Processor)
        → slice_get ss.threads t ≡ Some th
        → slice_get ms.processors t ≡ Some c
        → th.regs ≡ c.regs)
        → source_outcome ss ≡ machine_outcome flat_memory ms
    ThreadsCorrespond-outcome same =
        ap₂ (λ (r : List (List ℕ)) (w : List ℕ). let o : FinalState = record { regs = r; words = w } in o)
        (maps_equal-at_each_index _ _ ss.threads ms.processors (b.as_many ∙ sym b.as_many_processors) same) (sym b.words)

  -- The initial states of the source and of the machine correspond, if `At` holds of each thread at its start, with six registers.
  pub ThreadsCorrespond-start : IsWellScopedSource source
      → ((t : ℕ) (regs : List ℕ)
      → t < length source.threads
      → length regs ≡ registers
      → At t (thread_starting regs) (initial_processor regs))
      → ThreadsCorrespond (initial_state source) (compiled_start source)
  ThreadsCorrespond-start well_scoped each = record {
    words = refl;
    as_many = length-map source.head.init_regs _ ∙ row_per_thread;
    as_many_processors = length-map source.head.init_regs _ ∙ row_per_thread;
    at = λ t th c e f.
        At-of_rows t th c (slice_get-map_inv thread_starting _ t th e)
        (slice_get-map_inv initial_processor source.head.init_regs t c f);
  }
    where
      -- Each thread has a row of registers.
      row_per_thread : length source.head.init_regs ≡ length source.threads
      row_per_thread = well_scoped.head.regs ∙ sym well_scoped.as_many

      -- Both threads start with the row of registers of their index.
      At-of_rows : (t : ℕ) (th : Thread) (c : Processor)
          → (r : List ℕ) × (slice_get source.head.init_regs t ≡ Some r) × (th ≡ thread_starting r)
          → (r : List ℕ) × (slice_get source.head.init_regs t ≡ Some r) × (c ≡ initial_processor r)
          → At t th c
      At-of_rows t th c a b =
          let within = slice_get_within source.head.init_regs t a.0 a.1 in
          let six = All-from_recursion _ source.head.init_regs well_scoped.head.register_counts t a.0 within in
          let same = ap initial_processor (same_Some a.0 b.0 (sym a.1 ∙ b.1)) ∙ sym b.2 in
          subst₂ (λ x d. At t x d) (sym a.2) same
          (each t a.0 (omega (arith, within, row_per_thread))
          (ap length (sym (get_or_from_slice_get source.head.init_regs t a.0 a.0 a.1)) ∙ six))
