-- Runs of a source test: at each step one thread executes its next statement, on one memory.
use Rattle.std.specs.Prelude.{◌≡◌, ℕ, Bool, nat_lt, nat_le, if◌then◌else◌, Option, Some, None, Result, Ok, Err, List, length, map, slice_get, slice_set, IsTrue}
use Rattle.std.specs.Prelude.{MatchResult}
use Rattle.std.specs.List.{list_all, zip}
use Rattle.lw_base.specs.Outcomes.{FinalState}
use Rattle.lw_base.specs.Replays as replays
use Rattle.lw_base.specs.Threads.{thread_code}
use Rattle.lw_base.specs.declared.event.Event.{Event}
use Rattle.lw_base.specs.declared.event.Event.TheVariants.{Step, Drain, Evict}
use Rattle.lw_base.specs.declared.stop.Stop.{Stop}
use Rattle.lw_base.specs.declared.stop.Stop.TheVariants.{NoCpu, NoLocation, Ended, BufferEmpty, NotHeld}
use Rattle.lw_base.specs.declared.stop.Replay.{Replay}
use Rattle.lw_litmus.specs.declared.stmt.Stmt.{Stmt}
use Rattle.lw_interleaving.specs.declared.thread.Thread.{Thread}
use Rattle.lw_litmus.specs.Sources.{source_operation}
use Rattle.lw_litmus.specs.Tests.{SourceTest}
use Rattle.lw_interleaving.specs.Statements.{thread_after, words_after}

-- The state of a run: the threads, and the word of each location.
pub record State : Type 0 where
  pub threads : List Thread
  pub words : List ℕ

-- A thread at its first statement.
abbrev pub initial_thread : List ℕ → Thread
initial_thread regs = record { position = 0; regs = regs }

-- The initial state of a source test: each thread at its first statement, over the initial words.
abbrev pub initial_state : SourceTest → State
initial_state s = record { threads = map initial_thread s.head.init_regs; words = s.head.init_words }

-- The result of a thread executing the statement at its position: the next state, or `Ended` if there is none.
abbrev pub state_after_step : ℕ → Thread → State → Option Stmt → Result State Stop
state_after_step t th s None = Err Ended
state_after_step t th s (Some stmt) =
    Ok (record { threads = slice_set s.threads t (thread_after (source_operation stmt) th s.words); words = words_after (source_operation stmt) th s.words })

-- The result of a step of a thread: the next state, or why the step is rejected.
abbrev pub thread_step : List (List Stmt) → ℕ → State → Option Thread → Result State Stop
thread_step program t s None = Err NoCpu
thread_step program t s (Some th) = state_after_step t th s (slice_get (thread_code program t) th.position)

-- The result of a step of the thread at an index: the next state, or why the step is rejected.
abbrev pub source_step : List (List Stmt) → ℕ → State → Result State Stop
source_step program t s = thread_step program t s (slice_get s.threads t)

-- The result of any event: the next state, or why the event is rejected. A source test has no store buffers and no caches.
abbrev pub source_event_result : List (List Stmt) → Event → State → Result State Stop
source_event_result program (Step t) s = source_step program t s
source_event_result program (Drain t) s = if nat_lt t (length s.threads) then Err BufferEmpty else Err NoCpu
source_event_result program (Evict t x) s =
    if nat_lt t (length s.threads) then (if nat_lt x (length s.words) then Err NotHeld else Err NoLocation) else Err NoCpu

-- The transition relation: an event, the state before, its result, and the state after. A rejected event changes nothing.
abbrev pub SourceTransition : List (List Stmt) → Event → State → Result (Unit {0}) Stop → State → Type 0
SourceTransition program e s (Ok done) after = source_event_result program e s ≡ Ok after
SourceTransition program e s (Err stop) after = (source_event_result program e s ≡ Err stop) × (after ≡ s)

-- Tests whether all threads have terminated.
abbrev pub is_source_final : List (List Stmt) → State → Bool
is_source_final program s = list_all (λ p. nat_le (length p.0) p.1.position) (zip program s.threads)

-- The events lead from one state of a program to another: each is enabled in its turn.
abbrev pub SourceRunsTo : List (List Stmt) → List Event → State → State → Type 0
SourceRunsTo program = replays.RunsTo (SourceTransition program)

-- A replay from the first state to the second carries out the events before the first that is rejected, or all, and reports in
-- r how many they were and how it ended.
abbrev pub IsSourceReplay : List (List Stmt) → List Event → State → Replay → State → Type 0
IsSourceReplay program = replays.IsReplayOf (SourceTransition program) (is_source_final program)

-- The registers and the memory of a state.
abbrev pub source_outcome : State → FinalState
source_outcome s = record { regs = map (λ t. t.regs) s.threads; words = s.words }

-- Steps of these threads, in sequence, lead from the initial state to a final state with this outcome.
pub record InterleavesTo (s : SourceTest) (order : List ℕ) (o : FinalState) : Type 0 where
  pub end : State
  pub ran : SourceRunsTo s.threads (map Step order) (initial_state s) end
  pub final : IsTrue (is_source_final s.threads end)
  pub outcome_is : o ≡ source_outcome end

-- Some sequence of steps leads from the initial state to the outcome.
abbrev pub SourceOutcome : SourceTest → FinalState → Type 0
SourceOutcome s o = (order : List ℕ) × InterleavesTo s order o

-- What a contract sees of a `SourceRun`: the program, the initial state, and the current state.
pub record SourceRunState : Type 0 where
  pub program : List (List Stmt)
  pub start : State
  pub state : State

-- The answer and the run after a step with this result. A rejected step changes nothing.
abbrev pub IsStepResult : Result State Stop → Result (Unit {0}) Stop → SourceRunState → SourceRunState → Type 0
IsStepResult step answer before after =
    MatchResult step (λ next. (answer ≡ Ok tt) × (after.state ≡ next)) (λ stop. (answer ≡ Err stop) × (after ≡ before))
