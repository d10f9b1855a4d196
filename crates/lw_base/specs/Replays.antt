-- Runs and replays of events over any transition relation. A run carries out each event in sequence; a replay stops before the first event
-- that is rejected.
use Rattle.std.specs.Prelude.{◌≡◌, ℕ, ◌≤◌, Bool, Some, Result, Ok, Err, List, [], ◌∷◌, length, take, slice_get, IsTrue}
use Rattle.lw_base.specs.declared.event.Event.{Event}
use Rattle.lw_base.specs.declared.stop.Stop.{Stop}
use Rattle.lw_base.specs.declared.stop.End.{End}
use Rattle.lw_base.specs.declared.stop.End.TheVariants as at
use Rattle.lw_base.specs.declared.stop.Replay.{Replay}

-- `Done` relates an event, the state before, the result (`Ok`, or why the event is rejected) and the state after.
module _ {State : Type 0} (Done : Event → State → Result (Unit {0}) Stop → State → Type 0) where
  -- The events lead from one state to another: each of them is enabled in its turn. No event leads only from a state to itself.
  abbrev pub RunsTo : List Event → State → State → Type 0
  RunsTo [] s end = end ≡ s
  RunsTo (e ∷ es) s end = (mid : State) × Done e s (Ok tt) mid × RunsTo es mid end

-- The same, with a test for final states.
module _ {State : Type 0} (Done : Event → State → Result (Unit {0}) Stop → State → Type 0) (is_final : State → Bool) where
  -- A replay that carried out `done` of the events, up to state s, ends so: `Final` or `NotFinal` after all of them, as the
  -- test says of s; or `Stopped` if the next event is rejected in s for this cause.
  abbrev pub HasReplayEnd : List Event → ℕ → State → End → Type 0
  HasReplayEnd events done s at.Final = (done ≡ length events) × IsTrue (is_final s)
  HasReplayEnd events done s at.NotFinal = (done ≡ length events) × (IsTrue (is_final s) → ⊥)
  HasReplayEnd events done s (at.Stopped stop) = (e : Event) × (slice_get events done ≡ Some e) × Done e s (Err stop) s

  -- A replay from state s to state `end` carries out the events before the first that is rejected, or all of them, and reports
  -- in r how many they were and how it ended.
  pub record IsReplayOf (events : List Event) (s : State) (r : Replay) (end : State) : Type 0 where
    pub within : r.done ≤ length events
    pub ran : RunsTo Done (take r.done events) s end
    pub ends : HasReplayEnd events r.done end r.end
