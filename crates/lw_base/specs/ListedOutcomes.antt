-- Outcomes, each with a schedule.
use Rattle.std.specs.Prelude.{List, length}
use Rattle.std.specs.List.{AllByRecursion}
use Rattle.lw_base.specs.Heads.{TestHead}
use Rattle.lw_base.specs.Outcomes.{FinalState, HasOutcomeShape}
use Rattle.lw_base.specs.Schedules.{IsEvent}
use Rattle.lw_base.specs.declared.event.Event.{Event}

-- The outcome has the threads and locations of the head, and its schedule names only locations of the head.
pub record IsListedOutcome (head : TestHead) (entry : FinalState × List Event) : Type 0 where
  pub outcome : HasOutcomeShape head.threads (length head.locs) entry.0
  pub schedule : AllByRecursion (IsEvent head.locs) entry.1
