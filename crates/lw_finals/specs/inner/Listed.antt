-- What the lists of both languages depend on. Used only within the crate.
use Rattle.std.specs.Prelude.{◌≡◌, ◌↔◌, ℕ, List, All}
use Rattle.lw_base.specs.ListedOutcomes.{IsListedOutcome}
use Rattle.lw_base.specs.Outcomes.{FinalState}
use Rattle.lw_base.specs.declared.event.Event.{Event}
use Rattle.lw_litmus.specs.Tests.{X86Test}
use Rattle.lw_memory.specs.Flat.{flat_memory}
use Rattle.lw_mesi.specs.declared.protocol.Protocol.{Protocol}
use Rattle.lw_orders.specs.Order.{Constraints, IsLinearExtension, AreTraceEquivalent, ExactlyOne, IsWellFormed}
use Rattle.lw_orders.specs.Sequence.{orders}
use Rattle.lw_tso.specs.Evictions.{without_evictions}
use Rattle.lw_tso.specs.Runs.{ReplaysTo, IsMachineOutcome}
use Rattle.lw_tso_caches.specs.OverCaches.{ReplaysToOverCaches, OutcomeOverCaches}

-- Every enumerated order of items is a linear extension, and each linear extension is trace-equivalent to exactly one of them.
pub record AreComplete : Type 0 where
  pub each : (t : Constraints) → IsWellFormed t → All (IsLinearExtension t) (orders t)
  pub exactly_one : (t : Constraints) → IsWellFormed t → (order : List ℕ) → IsLinearExtension t order → ExactlyOne (AreTraceEquivalent t.conflicts order) (orders t)

-- A program's outcomes over caches are those over flat memory, its schedules without evictions replay to the same outcomes, and all have
-- its threads and locations.
pub record AreFlat (program : X86Test) : Type 0 where
  pub outcomes : (protocol : Protocol) (o : FinalState) → OutcomeOverCaches protocol program o ↔ IsMachineOutcome flat_memory program program.head.init_words o
  pub replays : (protocol : Protocol) (events : List Event) (o : FinalState) → without_evictions events ≡ events
      → ReplaysToOverCaches protocol program events o ↔ ReplaysTo flat_memory program program.head.init_words events o
  pub of_test : (protocol : Protocol) (events : List Event) (o : FinalState) → ReplaysToOverCaches protocol program events o → IsListedOutcome program.head (o, events)
