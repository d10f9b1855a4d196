-- The schedule of the compiled program that simulates a source run: a step for each instruction of each statement, and after a store a
-- drain, so that a store is in memory before the next statement of any thread.
use Rattle.std.specs.Prelude.{ℕ, ◌+◌, ◌-◌, if◌then◌else◌, Option, Some, None, Result, Ok, Err, List, [], ◌∷◌, ◌++◌, replicate, slice_get, slice_index}
use Rattle.lw_base.specs.Threads.{thread_code}
use Rattle.lw_base.specs.declared.event.Event.{Event}
use Rattle.lw_base.specs.declared.event.Event.TheVariants.{Step, Drain}
use Rattle.lw_base.specs.declared.stop.Stop.{Stop}
use Rattle.lw_litmus.specs.declared.stmt.Stmt.{Stmt}
use Rattle.lw_interleaving.specs.declared.thread.Thread.{Thread}
use Rattle.lw_interleaving.specs.Runs.{State, source_step}
use Rattle.lw_litmus.specs.Operations.{is_store}
use Rattle.lw_litmus.specs.Sources.{source_operation}

-- The events of thread t for the statement at index j: a step for each of its instructions, and a drain if it is a store. There
-- are none without a statement.
abbrev pub statement_events : ℕ → List ℕ → ℕ → Option Stmt → List Event
statement_events t starts j None = []
statement_events t starts j (Some s) =
    replicate (slice_index starts (j + 1) - slice_index starts j) (Step t) ++ (if is_store (source_operation s) then Drain t ∷ [] else [])

-- The events of thread t for its next statement; none if the thread does not exist (`None`).
abbrev pub thread_events : List (List Stmt) → List (List ℕ) → ℕ → Option Thread → List Event
thread_events program starts t None = []
thread_events program starts t (Some th) =
    statement_events t (thread_code starts t) th.position (slice_get (thread_code program t) th.position)

-- The events that follow a step: those of `rest` from the next state if it was enabled, and none if it was rejected.
abbrev pub after_step : Result State Stop → (State → List Event) → List Event
after_step (Ok next) rest = rest next
after_step (Err stop) rest = []

-- The events for the steps of these threads in sequence, from a state.
abbrev pub compiled_schedule : List (List Stmt) → List (List ℕ) → List ℕ → State → List Event
compiled_schedule program starts [] s = []
compiled_schedule program starts (t ∷ order) s =
    thread_events program starts t (slice_get s.threads t) ++ after_step (source_step program t s) (compiled_schedule program starts order)
