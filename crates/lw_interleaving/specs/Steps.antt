-- The control flow of steps, and which steps of two threads commute: those whose statements do not conflict.
use Rattle.std.specs.Prelude.{◌≡◌, ℕ, Option, Some, option_and_then, Ok, List, map, slice_get}
use Rattle.lw_base.specs.Threads.{thread_code}
use Rattle.lw_litmus.specs.declared.stmt.Stmt.{Stmt}
use Rattle.lw_litmus.specs.Flow.{IsFlowSuccessor}
use Rattle.lw_litmus.specs.Sources.{source_language}
use Rattle.lw_interleaving.specs.Runs.{State, source_step}

-- The position of a thread, if the thread exists.
abbrev pub thread_position : State → ℕ → Option ℕ
thread_position s t = slice_get (map (λ th. th.position) s.threads) t

-- The statement at a thread's position, if the thread exists and has not terminated.
abbrev pub next_statement : List (List Stmt) → State → ℕ → Option Stmt
next_statement program s t = option_and_then (λ j. slice_get (thread_code program t) j) (thread_position s t)

-- The step takes its thread from a position to a successor of it.
pub record FollowsFlow (program : List (List Stmt)) (t : ℕ) (s next : State) : Type 0 where
  pub from : ℕ
  pub to : ℕ
  pub was : thread_position s t ≡ Some from
  pub follows : IsFlowSuccessor source_language (slice_get (thread_code program t) from) from to
  pub now : thread_position next t ≡ Some to

-- If a step of t followed by one of u leads from this state to another, so does the step of u followed by that of t.
abbrev pub StepsCommute : List (List Stmt) → ℕ → ℕ → State → Type 0
StepsCommute program t u s =
    (mid end : State) → source_step program t s ≡ Ok mid → source_step program u mid ≡ Ok end
    → (other : State) × (source_step program u s ≡ Ok other) × (source_step program t other ≡ Ok end)
