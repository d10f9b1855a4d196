-- Runs of a test by interleaving, of either language: at each step one thread executes its next statement, on one memory, without store
-- buffers. The source is Lamport ('How to make a multiprocessor computer that correctly executes multiprocess programs', 1979).
use Rattle.std.specs.Prelude.{◌≡◌, ℕ, ◌≤◌, Some, List, [], ◌∷◌, length, map, slice_get}
use Rattle.std.specs.Prelude.{slice_set}
use Rattle.lw_base.specs.Changes.{word_or_zero, apply_change_if_some}
use Rattle.lw_base.specs.Outcomes.{FinalState}
use Rattle.lw_base.specs.Threads.{thread_code}
use Rattle.lw_litmus.specs.declared.operation.Operation.{Operation}
use Rattle.lw_litmus.specs.Languages.{Language}
use Rattle.lw_litmus.specs.Operations.{location_of, written_change}
use Rattle.lw_litmus.specs.Tests.{Test}
use Rattle.lw_axiomatic.specs.ThreadStates.{ThreadState, first_state, state_after}

-- The state of a run: the threads, and the word of each location.
pub record Interleaved : Type 0 where
  pub threads : List ThreadState
  pub words : List ℕ

-- The word that an operation finds at its location; 0 if it accesses none.
abbrev pub read_value : Operation → List ℕ → ℕ
read_value o words = word_or_zero (location_of o) words

-- The memory after an operation of a thread with these registers; unchanged if the operation writes nothing.
abbrev pub words_after : Operation → List ℕ → List ℕ → List ℕ
words_after o regs words = apply_change_if_some (location_of o) (written_change o regs) words

-- The state after thread t, whose own state is th, has done an operation in the state s.
abbrev pub interleaved_after : ℕ → ThreadState → Operation → Interleaved → Interleaved
interleaved_after t th o s = record {
  threads = slice_set s.threads t (state_after o th (read_value o s.words));
  words = words_after o th.regs s.words;
}

module _ {S : Type 0} (language : Language S) where
  -- Thread t, whose state is `thread`, executes its next statement in the state s, and leaves the state `next`.
  pub record IsStep (program : List (List S)) (t : ℕ) (s next : Interleaved) : Type 0 where
    pub thread : ThreadState
    pub statement : S
    pub thread_at : slice_get s.threads t ≡ Some thread
    pub statement_at : slice_get (thread_code program t) thread.position ≡ Some statement
    pub state_is : next ≡ interleaved_after t thread (language.operation_of statement) s

  -- The threads of the order execute a step each, in sequence.
  abbrev pub InterleavedRunsTo : List (List S) → List ℕ → Interleaved → Interleaved → Type 0
  InterleavedRunsTo program [] s end = end ≡ s
  InterleavedRunsTo program (t ∷ order) s end = (mid : Interleaved) × IsStep program t s mid × InterleavedRunsTo program order mid end

  -- All threads have terminated.
  abbrev pub IsEnd : List (List S) → Interleaved → Type 0
  IsEnd program s = (t : ℕ) (th : ThreadState) → slice_get s.threads t ≡ Some th → length (thread_code program t) ≤ th.position

  module _ (test : Test S) where
    -- The initial state of a test: each thread at its first position, with its registers, and the initial words of memory.
    abbrev pub start : Interleaved
    start = record { threads = map first_state test.head.init_regs; words = test.head.init_words }

    -- The steps of threads in this order lead from the initial state to a final state with this outcome.
    pub record InterleavedOutcome (order : List ℕ) (o : FinalState) : Type 0 where
      pub end : Interleaved
      pub ran : InterleavedRunsTo test.threads order start end
      pub final : IsEnd test.threads end
      pub outcome_is : o ≡ record { regs = map (λ (th : ThreadState). th.regs) end.threads; words = end.words }

    -- Some sequence of threads leads to the outcome.
    abbrev pub InterleavingOutcome : FinalState → Type 0
    InterleavingOutcome o = (order : List ℕ) × InterleavedOutcome order o
