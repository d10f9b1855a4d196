-- Candidate executions of a test, of either language, and their outcomes: each thread by itself follows its path, on which it reads the
-- words that the execution says; each read has the word of the write that it reads from. No axiom of a memory model is required here. The
-- source is 'Herding Cats' (Alglave, Maranget and Tautschnig, TOPLAS 2014): control flow semantics, then data flow.
use Rattle.std.specs.Prelude.{◌≡◌, ℕ, ◌<◌, ◌≤◌, ◌⊎◌, true, Option, Some, None, List, [], ◌∷◌, length, slice_get, slice_index}
use Rattle.std.specs.Prelude.{slice_index_or}
use Rattle.lw_base.specs.Outcomes.{FinalState, HasOutcomeShape}
use Rattle.lw_base.specs.Threads.{thread_code}
use Rattle.lw_litmus.specs.Languages.{Language}
use Rattle.lw_litmus.specs.Operations.{writes}
use Rattle.lw_litmus.specs.Tests.{Test}
use Rattle.lw_axiomatic.specs.ThreadStates.{ThreadState, first_state, state_after, word_written}
use Rattle.lw_axiomatic.specs.Executions.{MemoryEvent, Execution, Reads, Writes}

module _ {S : Type 0} (language : Language S) where
  -- The event e executes the statement at its position in `code`, in the state s. If it writes, it writes the word that the execution says;
  -- and `Follows` holds of the state after it, with the word that the execution says it reads.
  pub record ExecutesStep (x : Execution) (e : MemoryEvent) (code : List S) (s : ThreadState) (Follows : ThreadState → Type 0) : Type 0 where
    pub position_is : s.position ≡ e.position
    pub statement : S
    pub statement_at : slice_get code e.position ≡ Some statement
    pub written_is :
        writes (language.operation_of statement) ≡ true
        → x.written e ≡ word_written (language.operation_of statement) s.regs (x.read e)
    pub rest : Follows (state_after (language.operation_of statement) s (x.read e))

  -- Thread t follows a path to the end of its code, on which its events read and write the words that the execution says.
  abbrev pub ThreadExecutes : Execution → ℕ → List S → List ℕ → ThreadState → ThreadState → Type 0
  ThreadExecutes x t code [] s end = (s.position ≡ length code) × (end ≡ s)
  ThreadExecutes x t code (j ∷ path) s end =
      ExecutesStep x (record { thread = t; position = j }) code s (λ after. ThreadExecutes x t code path after end)

  -- Thread t follows the path from the state s to the end of its code, and ends with the registers of the outcome.
  pub record ThreadExecutesTo (x : Execution) (t : ℕ) (code : List S) (path : List ℕ) (s : ThreadState) (o : FinalState) : Type 0 where
    pub end : ThreadState
    pub executes : ThreadExecutes x t code path s end
    pub regs_are : slice_index_or o.regs t [] ≡ end.regs

  module _ (test : Test S) (x : Execution) where
    -- The word that r reads is the word that w wrote to the location l.
    pub record IsReadFromWrite (r : MemoryEvent) (l : ℕ) (w : MemoryEvent) : Type 0 where
      pub write : Writes language test x w l
      pub word_is : x.read r ≡ x.written w

    -- The word that r reads of the location l is the initial word, or the word that this event wrote there.
    abbrev pub IsReadFrom : MemoryEvent → ℕ → Option MemoryEvent → Type 0
    IsReadFrom r l None = x.read r ≡ slice_index test.head.init_words l
    IsReadFrom r l (Some w) = IsReadFromWrite r l w

    -- The final word of the location l is w: the initial one if nothing writes it, or that of its last write in coherence order.
    abbrev pub IsLast : ℕ → ℕ → Type 0
    IsLast l w =
        (((e : MemoryEvent) → Writes language test x e l → ⊥) × (w ≡ slice_index test.head.init_words l))
        ⊎ ((e : MemoryEvent) × Writes language test x e l
        × ((f : MemoryEvent) → Writes language test x f l → x.co f ≤ x.co e) × (w ≡ x.written e))

    -- The execution is a candidate with this outcome: the threads run to their ends, each read has the word of its write, and no two writes
    -- to a location have the same rank in coherence order.
    pub record IsCandidate (o : FinalState) : Type 0 where
      pub as_many : length x.paths ≡ length test.threads
      pub threads :
          (t : ℕ) → t < length test.threads
          → ThreadExecutesTo x t (thread_code test.threads t) (thread_code x.paths t) (first_state (slice_index_or test.head.init_regs t [])) o
      pub rf : (r : MemoryEvent) (l : ℕ) → Reads language test x r l → IsReadFrom r l (x.rf r)
      pub co : (w v : MemoryEvent) (l : ℕ) → Writes language test x w l → Writes language test x v l → x.co w ≡ x.co v → w ≡ v
      pub words : (l : ℕ) → l < length test.head.locs → IsLast l (slice_index o.words l)
      pub of_test : HasOutcomeShape (length test.threads) (length test.head.locs) o
