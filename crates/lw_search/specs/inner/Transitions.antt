-- Transitions of threads, by the numbers of their states. Used only within the crate.
use Rattle.std.specs.Prelude.{◌≡◌, ℕ, ◌+◌, Bool, true, false, Ok, Option, Some, None, List, ◌∷◌, length, slice_get, slice_index}
use Rattle.lw_litmus.specs.declared.instr.Instr.{Instr}
use Rattle.lw_memory.specs.Flat.{flat_memory}
use Rattle.lw_tso.specs.Machines.{MachineTransition}
use Rattle.lw_tso.specs.Processors.{Processor}
use Rattle.lw_search.specs.declared.transitions.Successor.{Successor}
use Rattle.lw_search.specs.declared.transitions.Transition.{Transition}
use Rattle.lw_search.specs.inner.StateKeys.{State, Components, FoundStates, Extends, IsPrefix, Represents, event_of, events_of, set_thread}
use Rattle.lw_search.specs.inner.Invariant.{Settles}

-- The result of a copy of a row: true if there is a row, which the copy x is now, and false if there is none.
abbrev pub CopiesRow : {X : Type 0} → Option X → X → Bool → Type 0
CopiesRow row x true = row ≡ Some x
CopiesRow row x false = row ≡ None

-- Rows were appended to the tables, and runs to those of the found states. No state was found.
pub record AppendsRows (old : Components) (visited : FoundStates) (new : Components) (now : FoundStates) : Type 0 where
  pub extended : Extends old new
  pub keys : now.keys ≡ visited.keys
  pub origins : now.origins ≡ visited.origins
  pub runs : IsPrefix visited.runs now.runs

-- A cache holds a transition.
abbrev pub Caches : List (Option Transition) → Transition → Type 0
Caches cache t = (i : ℕ) × (slice_get cache i ≡ Some (Some t))

module _ (program : List (List Instr)) where
  -- In each state in which the thread and the memory are those of the transition's numbers, the event leads to the state with `acted`
  -- and `written`. From there the further events of the run, which are invisible beside other threads with the transition's conflicts, lead
  -- to the thread and the memory of the successor's numbers.
  pub record IsTransition (tables : Components) (runs : List (List (ℕ × Bool))) (t : Transition) : Type 0 where
    pub from : Processor
    pub words : List ℕ
    pub acted : Processor
    pub written : List ℕ
    pub end : Processor
    pub end_words : List ℕ
    pub more : List (ℕ × Bool)
    pub thread_row : slice_get tables.threads t.thread ≡ Some from
    pub memory_row : slice_get tables.memories t.memory ≡ Some words
    pub next_thread_row : slice_get tables.threads t.next.thread ≡ Some end
    pub next_memory_row : slice_get tables.memories t.next.memory ≡ Some end_words
    pub next_run_row : slice_get runs t.next.run ≡ Some (t.event ∷ more)
    pub acts : (s : State) → slice_get s.processors t.event.0 ≡ Some from → s.memory ≡ words
        → MachineTransition flat_memory program (event_of t.event) s (Ok tt) (set_thread s t.event.0 acted written)
    pub settles : Settles program t.conflicts t.event.0 (events_of more) acted written end end_words

  -- All transitions of a cache are transitions of the program, and the tables are of the same program.
  pub record AreTransitions (tables : Components) (runs : List (List (ℕ × Bool))) (cache : List (Option Transition)) : Type 0 where
    pub of_program : tables.program ≡ program
    pub each : (t : Transition) → Caches cache t → IsTransition tables runs t

  -- An event is enabled in no state of a key.
  abbrev pub IsNeverEnabled : Components → List ℕ → ℕ × Bool → Type 0
  IsNeverEnabled tables key e =
      (s next : State) → Represents tables key s → length s.processors ≡ length program
      → MachineTransition flat_memory program (event_of e) s (Ok tt) next → ⊥

  -- The result of taking an event of thread t in the state of a key, given the conflicts of the other threads: where it leads, or nothing if
  -- it is not enabled.
  abbrev pub TakesEvent : Components → List (List (ℕ × Bool)) → List ℕ → ℕ → ℕ × Bool → ℕ → Option Successor → Type 0
  TakesEvent tables runs key t e set (Some next) =
      IsTransition tables runs
      (record { event = e; thread = slice_index key (t + 1); memory = slice_index key 0; conflicts = set; next = next })
  TakesEvent tables runs key t e set None = IsNeverEnabled tables key e
