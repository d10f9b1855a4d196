-- States of the machine as keys, the numbers of their parts. Used only within the crate.
use Rattle.std.specs.Prelude.{◌≡◌, ◌≢◌, ◌⊎◌, ◌≤◌, ℕ, ◌+◌, Bool, if◌then◌else◌, Some, List, [], ◌∷◌, ◌++◌, length, map, slice_get, slice_index, slice_set}
use Rattle.lw_base.specs.declared.event.Event.{Event}
use Rattle.lw_base.specs.declared.event.Event.TheVariants.{Step, Drain}
use Rattle.lw_litmus.specs.declared.instr.Instr.{Instr}
use Rattle.lw_tso.specs.Processors.{Processor}
use Rattle.lw_tso.specs.Machines.{MachineState}
use Rattle.lw_search.specs.declared.states.Origin.{Origin}

-- A state of the machine over flat memory.
abbrev pub State : Type 0
State = MachineState (List ℕ)

-- The threads of a program; and their states and the memories that have numbers, each at the index that is its number.
pub record Components : Type 0 where
  pub program : List (List Instr)
  pub threads : List Processor
  pub memories : List (List ℕ)

-- Each item of the first list is at the same index of the second.
abbrev pub IsPrefix : {X : Type 0} → List X → List X → Type 0
IsPrefix {X} old new = (i : ℕ) (x : X) → slice_get old i ≡ Some x → slice_get new i ≡ Some x

-- No item is at two indices.
abbrev pub HasUniqueIndices : {X : Type 0} → List X → Type 0
HasUniqueIndices {X} xs = (i j : ℕ) (x : X) → slice_get xs i ≡ Some x → slice_get xs j ≡ Some x → i ≡ j

-- Rows were appended to the tables: numbers stay, and values without duplicates stay so.
pub record Extends (old new : Components) : Type 0 where
  pub program : new.program ≡ old.program
  pub threads : IsPrefix old.threads new.threads
  pub memories : IsPrefix old.memories new.memories
  pub distinct_threads : HasUniqueIndices old.threads → HasUniqueIndices new.threads
  pub distinct_memories : HasUniqueIndices old.memories → HasUniqueIndices new.memories

-- A key represents a state: it is the number of the memory, followed by that of each thread's state, and by 0 for each further thread.
pub record Represents (tables : Components) (key : List ℕ) (s : State) : Type 0 where
  pub size : length key ≡ 5
  pub memory : slice_get tables.memories (slice_index key 0) ≡ Some s.memory
  pub threads : (t : ℕ) (p : Processor) → slice_get s.processors t ≡ Some p
      → slice_get tables.threads (slice_index key (t + 1)) ≡ Some p
  pub unused : (t : ℕ) → length s.processors ≤ t → slice_index key (t + 1) ≡ 0

-- The state with another processor for thread t, and with another memory.
abbrev pub set_thread : State → ℕ → Processor → List ℕ → State
set_thread s t q m = record { processors = slice_set s.processors t q; memory = m }

-- A key represents a state except for its memory and for thread t.
pub record RepresentsOthers (tables : Components) (key : List ℕ) (t : ℕ) (s : State) : Type 0 where
  pub size : length key ≡ 5
  pub threads : (u : ℕ) (p : Processor) → u ≢ t → slice_get s.processors u ≡ Some p
      → slice_get tables.threads (slice_index key (u + 1)) ≡ Some p
  pub unused : (u : ℕ) → length s.processors ≤ u → slice_index key (u + 1) ≡ 0

-- A key represents a state except for its memory.
pub record RepresentsThreads (tables : Components) (key : List ℕ) (s : State) : Type 0 where
  pub size : length key ≡ 5
  pub threads : (u : ℕ) (p : Processor) → slice_get s.processors u ≡ Some p
      → slice_get tables.threads (slice_index key (u + 1)) ≡ Some p
  pub unused : (u : ℕ) → length s.processors ≤ u → slice_index key (u + 1) ≡ 0

-- The event of a row of a run: a thread's drain (true) or step (false).
abbrev pub event_of : ℕ × Bool → Event
event_of r = if r.1 then Drain r.0 else Step r.0

-- The events of a run.
abbrev pub events_of : List (ℕ × Bool) → List Event
events_of run = map event_of run

-- The keys of states, each with its origin, in the order in which they were found; and the runs that origins name by number.
pub record FoundStates : Type 0 where
  pub keys : List (List ℕ)
  pub origins : List Origin
  pub runs : List (List (ℕ × Bool))

-- Origins were appended, of which this is the only one: it has this parent, and its number is that of this run.
pub record AppendsOrigin (old : FoundStates) (parent : ℕ) (run : List (ℕ × Bool)) (new : FoundStates) : Type 0 where
  pub origin : Origin
  pub parent_is : origin.parent ≡ parent
  pub origins : new.origins ≡ old.origins ++ origin ∷ []
  pub runs : IsPrefix old.runs new.runs
  pub run_row : slice_get new.runs origin.run ≡ Some run

-- A new key is appended with its origin; or the table has the key, and nothing changes.
abbrev pub InsertsKey : FoundStates → List ℕ → ℕ → List (ℕ × Bool) → FoundStates → Type 0
InsertsKey old key parent run new =
    (((i : ℕ) → slice_get old.keys i ≡ Some key → ⊥) × (new.keys ≡ old.keys ++ key ∷ []) × AppendsOrigin old parent run new)
    ⊎ ((i : ℕ) × (slice_get old.keys i ≡ Some key) × (new ≡ old))
