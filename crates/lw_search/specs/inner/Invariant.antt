-- The invariant of a search. It speaks of a list `found` of machine states that the code does not store: one for each key of the table.
-- Used only within the crate.
use Rattle.std.specs.Prelude.{◌≡◌, ◌↔◌, ℕ, suc, ◌+◌, ◌<◌, ◌≤◌, ◌==◌, ◌&&◌, Bool, true, false, nat_le, Some, Ok, List, [], ◌++◌, length, slice_get, slice_index, slice_index_or, IsTrue, All, Contains}
use Rattle.lw_base.specs.declared.event.Event.{Event}
use Rattle.lw_base.specs.declared.event.Event.TheVariants.{Step, Drain}
use Rattle.lw_base.specs.FinalWords.{final_words}
use Rattle.lw_base.specs.Outcomes.{FinalState, HasOutcomeShape}
use Rattle.lw_base.specs.declared.head.Seen.{Seen}
use Rattle.lw_mesi.specs.declared.protocol.Protocol.{Protocol}
use Rattle.lw_outcome_map.specs.Listings.{OutcomeEntries, OutcomesWith, outcomes_of}
use Rattle.lw_litmus.specs.declared.instr.Instr.{Instr}
use Rattle.lw_litmus.specs.Tests.{X86Test}
use Rattle.lw_memory.specs.Flat.{flat_memory}
use Rattle.lw_tso.specs.Machines.{MachineTransition}
use Rattle.lw_tso.specs.Processors.{Processor}
use Rattle.lw_tso.specs.Runs.{IsMachineOutcome, MachineRunsTo, is_final, initial_machine_state, machine_outcome}
use Rattle.lw_tso_caches.specs.OverCaches.{OutcomeOverCaches}
use Rattle.lw_search.specs.declared.states.Origin.{Origin}
use Rattle.lw_search.specs.inner.Accesses.{HasConflictsOfOthers}
use Rattle.lw_search.specs.inner.StateKeys.{State, Components, FoundStates, Extends, Represents, RepresentsOthers, RepresentsThreads, IsPrefix, HasUniqueIndices, events_of, set_thread}

-- The events of the run that has a number, or none if no run has it.
abbrev pub events_at : List (List (ℕ × Bool)) → ℕ → List Event
events_at runs n = events_of (slice_index_or runs n [])

module _ (program : List (List Instr)) where
  -- State r covers state s: each final state that some run reaches from s is reached from r by a run that is no longer.
  abbrev pub Covers : State → State → Type 0
  Covers r s =
      (events : List Event) (end : State) → MachineRunsTo flat_memory program events s end → IsTrue (is_final program end)
      → (more : List Event) × (length more ≤ length events) × MachineRunsTo flat_memory program more r end

  -- The successor of s by the event, if the event is enabled, is covered by a state of the list.
  abbrev pub IsCovered : List State → State → Event → Type 0
  IsCovered found s e =
      (next : State) → MachineTransition flat_memory program e s (Ok tt) next
      → (r : State) × (i : ℕ) × (slice_get found i ≡ Some r) × Covers r next

  -- The successors of s by the step and by the drain of thread t are covered.
  abbrev pub CoversThread : ℕ → State → List State → Type 0
  CoversThread t s found = IsCovered found s (Step t) × IsCovered found s (Drain t)

  -- The state s at this index was reached by the run of its origin from a state that was found before it.
  pub record HasPredecessor (runs : List (List (ℕ × Bool))) (found : List State) (at : ℕ) (origin : Origin) (s : State) : Type 0 where
    pub before : origin.parent < at
    pub from : State
    pub found_at : slice_get found origin.parent ≡ Some from
    pub run : List (ℕ × Bool)
    pub run_row : slice_get runs origin.run ≡ Some run
    pub ran : MachineRunsTo flat_memory program (events_of run) from s

  -- The invariant of a search that began at `start`: the keys represent the found states, which are different from each other, the start
  -- first, each other one with a predecessor; and all successors of the first `at` states are covered.
  pub record SearchInvariant (start : State) (tables : Components) (visited : FoundStates) (found : List State) (at : ℕ) : Type 0 where
    pub key_count : length visited.keys ≡ length found
    pub origin_count : length visited.origins ≡ length found
    pub within : at ≤ length found
    pub represents : (i : ℕ) (key : List ℕ) (s : State) → slice_get visited.keys i ≡ Some key → slice_get found i ≡ Some s
        → Represents tables key s
    pub thread_count : (i : ℕ) (s : State) → slice_get found i ≡ Some s → length s.processors ≡ length program
    pub distinct : HasUniqueIndices found
    pub distinct_threads : HasUniqueIndices tables.threads
    pub distinct_memories : HasUniqueIndices tables.memories
    pub first : slice_get found 0 ≡ Some start
    pub predecessor : (i : ℕ) (origin : Origin) (s : State) → slice_get visited.origins (suc i) ≡ Some origin
        → slice_get found (suc i) ≡ Some s → HasPredecessor visited.runs found (suc i) origin s
    pub covered : (i : ℕ) (s : State) → i < at → slice_get found i ≡ Some s → (e : Event) → IsCovered found s e

  -- More states were found, which satisfy the invariant, and the property Holds is true of them.
  pub record Expansion (start : State) (tables : Components) (old visited : FoundStates) (found : List State) (at : ℕ) (Holds : List State → Type 0) : Type 0 where
    pub more : List State
    pub longer : IsPrefix found more
    pub keys : IsPrefix old.keys visited.keys
    pub invariant : SearchInvariant start tables visited more at
    pub holds : Holds more

  -- From each list of found states with the invariant, whose state at the index `at` has this key and is as Is says, a longer list
  -- with the invariant was made, of which `Holds` is true.
  abbrev pub ExpandsState : Components → FoundStates → Components → FoundStates → ℕ → List ℕ → (State → Type 0) → (State → List State → Type 0) → Type 0
  ExpandsState old_tables old_visited new_tables new_visited at key Is Holds =
      (start : State) (found : List State) (closed : ℕ) (s : State) → SearchInvariant start old_tables old_visited found closed
      → slice_get found at ≡ Some s → slice_get old_visited.keys at ≡ Some key → Is s
      → Expansion start new_tables old_visited new_visited found closed (Holds s)

  -- From each list of found states with the invariant up to `before`, one with the invariant up to `after` was made.
  abbrev pub ExpandsUpTo : Components → FoundStates → ℕ → Components → FoundStates → ℕ → Type 0
  ExpandsUpTo old_tables old_visited before new_tables new_visited after =
      (start : State) (found : List State) → SearchInvariant start old_tables old_visited found before
      → (more : List State) × SearchInvariant start new_tables new_visited more after

  -- The progress of a search that had visited no state, within a budget: it has visited all states that it found (true), or it has found
  -- more than the budget (false).
  abbrev pub IsProgress : Components → FoundStates → Components → FoundStates → ℕ → Bool → Type 0
  IsProgress old_tables old_visited new_tables new_visited budget true =
      ExpandsUpTo old_tables old_visited 0 new_tables new_visited (length new_visited.keys) × (length new_visited.keys ≤ budget)
  IsProgress old_tables old_visited new_tables new_visited budget false =
      (start : State) (found : List State) → SearchInvariant start old_tables old_visited found 0
      → (more : List State) × (closed : ℕ) × SearchInvariant start new_tables new_visited more closed × (budget < length more)

-- Beside other threads of which a set has the conflicts, invisible events of thread t take it from state p with memory m to state q with
-- memory n: in each such state they lead to the state with q and n, which covers it.
abbrev pub Settles : List (List Instr) → ℕ → ℕ → List Event → Processor → List ℕ → Processor → List ℕ → Type 0
Settles program set t events p m q n =
    (s : State) → HasConflictsOfOthers program s t set → length s.processors ≡ length program → slice_get s.processors t ≡ Some p → s.memory ≡ m
    → MachineRunsTo flat_memory program events s (set_thread s t q n) × Covers program (set_thread s t q n) s

-- State s of a program has the threads of a key and these words of memory.
pub record IsWorking (program : List (List Instr)) (tables : Components) (key : List ℕ) (m : List ℕ) (s : State) : Type 0 where
  pub represented : RepresentsThreads tables key s
  pub thread_count : length s.processors ≡ length program
  pub words : s.memory ≡ m

-- State s of a program has thread t in state p, the other threads of a key, of which a set has the conflicts, and these words of memory.
pub record IsLoaded (program : List (List Instr)) (tables : Components) (key : List ℕ) (set t : ℕ) (p : Processor) (m : List ℕ) (s : State) : Type 0 where
  pub represented : RepresentsOthers tables key t s
  pub conflicts : HasConflictsOfOthers program s t set
  pub thread_count : length s.processors ≡ length program
  pub thread : slice_get s.processors t ≡ Some p
  pub words : s.memory ≡ m

-- The events lead from state s to one that covers it, with the threads of a key and these words of memory.
pub record Settled (program : List (List Instr)) (tables : Components) (key : List ℕ) (m : List ℕ) (events : List Event) (s : State) : Type 0 where
  pub end : State
  pub working : IsWorking program tables key m end
  pub ran : MachineRunsTo flat_memory program events s end
  pub covers : Covers program end s

-- Rows were appended to the tables, and events to a run; they lead from each state of which From holds to one that covers it, with
-- the threads of a key and these words of memory.
pub record SettlesFrom (program : List (List Instr)) (From : State → Type 0) (old new : Components) (key : List ℕ) (m : List ℕ) (run longer : List (ℕ × Bool)) : Type 0 where
  pub extended : Extends old new
  pub more : List (ℕ × Bool)
  pub appended : longer ≡ run ++ more
  pub settled : (s : State) → From s → Settled program new key m (events_of more) s

-- A search has found some states of a test, and has visited none.
abbrev pub IsStarted : X86Test → Components → FoundStates → Type 0
IsStarted test tables visited =
    (found : List State) × SearchInvariant test.threads (initial_machine_state test test.head.init_words) tables visited found 0

-- A search of a test has visited all states that it has found.
abbrev pub IsFinished : X86Test → Components → FoundStates → Type 0
IsFinished test tables visited =
    (found : List State)
    × SearchInvariant test.threads (initial_machine_state test test.head.init_words) tables visited found (length visited.keys)

-- The events lead from the start to a final state with this outcome.
abbrev pub ReachesOutcome : List (List Instr) → State → List Event → FinalState → Type 0
ReachesOutcome program start events o =
    (end : State) × MachineRunsTo flat_memory program events start end × IsTrue (is_final program end) × (o ≡ machine_outcome flat_memory end)

-- The events lead from the start to the state that was found at an index.
abbrev pub ReachesIndex : FoundStates → ℕ → List Event → Type 0
ReachesIndex visited index events =
    (program : List (List Instr)) (start : State) (tables : Components) (found : List State) (closed : ℕ) (s : State)
    → SearchInvariant program start tables visited found closed → slice_get found index ≡ Some s → MachineRunsTo flat_memory program events start s

-- The answer says whether thread t is past the last of `count` instructions, with an empty store buffer.
abbrev pub ReportsThreadEnd : Components → List ℕ → ℕ → ℕ → Bool → Type 0
ReportsThreadEnd tables key t count answer =
    (p : Processor) → slice_get tables.threads (slice_index key (t + 1)) ≡ Some p
    → answer ≡ (nat_le count p.position && (length p.buffer == 0))

-- A schedule is the events of a run.
abbrev pub IsScheduleOf : List Event → List Event → Type 0
IsScheduleOf schedule events = schedule ≡ events

-- For lists without schedules: what is kept says nothing of the run. So an entry of such a list says that some run leads to its outcome.
abbrev pub IsOfSomeRun : Unit {0} → List Event → Type 0
IsOfSomeRun nothing events = Unit {0}

-- What is kept for an outcome describes the events of some run from the start to a final state with this outcome.
abbrev pub LeadsTo : {Kept : Type 0} → (Kept → List Event → Type 0) → List (List Instr) → State → FinalState × Kept → Type 0
LeadsTo Describes program start e = (events : List Event) × Describes e.1 events × ReachesOutcome program start events e.0

-- The outcome of the state at an index is among the new entries, if the state is final; the old outcomes still are; and if the schedules
-- reach all old outcomes, they reach all new ones.
pub record CollectsState (program : List (List Instr)) (tables : Components) (visited : FoundStates) (at : ℕ) (old new : OutcomeEntries) : Type 0 where
  pub covered : (start : State) (found : List State) (closed : ℕ) (s : State) → SearchInvariant program start tables visited found closed
      → slice_get found at ≡ Some s → IsTrue (is_final program s) → Contains (outcomes_of new) (machine_outcome flat_memory s)
  pub preserves_outcomes : (o : FinalState) → Contains (outcomes_of old) o → Contains (outcomes_of new) o
  pub each_leads : (start : State) (found : List State) (closed : ℕ) → SearchInvariant program start tables visited found closed
      → All (LeadsTo IsScheduleOf program start) old → All (LeadsTo IsScheduleOf program start) new

-- Some outcome of a list agrees with outcome o.
abbrev pub ContainsAgreeing : (FinalState → FinalState → Type 0) → List FinalState → FinalState → Type 0
ContainsAgreeing Agrees outcomes o = (p : FinalState) × Contains outcomes p × Agrees p o

-- Two outcomes are the same.
abbrev pub AreSame : FinalState → FinalState → Type 0
AreSame p o = p ≡ o

-- Two outcomes have the same words at these names.
abbrev pub HaveSameWords : List Seen → FinalState → FinalState → Type 0
HaveSameWords names p o = final_words names p ≡ final_words names o

module _ (Agrees : FinalState → FinalState → Type 0) {Kept : Type 0} (Describes : Kept → List Event → Type 0) where
  -- For each final state that was found an outcome is listed that agrees with the state's; and something leads to each listed outcome.
  pub record CollectsAll (program : List (List Instr)) (tables : Components) (visited : FoundStates) (entries : OutcomesWith Kept) : Type 0 where
    pub covered : (start : State) (found : List State) (closed : ℕ) (i : ℕ) (s : State) → SearchInvariant program start tables visited found closed
        → slice_get found i ≡ Some s → IsTrue (is_final program s) → ContainsAgreeing Agrees (outcomes_of entries) (machine_outcome flat_memory s)
    pub each_leads : (start : State) (found : List State) (closed : ℕ) → SearchInvariant program start tables visited found closed
        → All (LeadsTo Describes program start) entries

  -- For each outcome of a test one is listed that agrees with it. Each listed outcome is one of the test, over caches of each protocol too,
  -- has its threads and locations, and something leads to it.
  pub record ListsAgreeing (test : X86Test) (entries : OutcomesWith Kept) : Type 0 where
    pub covered : (o : FinalState) → IsMachineOutcome flat_memory test test.head.init_words o → ContainsAgreeing Agrees (outcomes_of entries) o
    pub reached : (o : FinalState) → Contains (outcomes_of entries) o → IsMachineOutcome flat_memory test test.head.init_words o
    pub flat : (protocol : Protocol) (o : FinalState) → OutcomeOverCaches protocol test o ↔ IsMachineOutcome flat_memory test test.head.init_words o
    pub shapes : All (HasOutcomeShape test.head.threads (length test.head.locs)) (outcomes_of entries)
    pub each_leads : All (LeadsTo Describes test.threads (initial_machine_state test test.head.init_words)) entries
