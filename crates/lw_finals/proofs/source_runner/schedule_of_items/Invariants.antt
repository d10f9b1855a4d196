-- At each round what was appended, followed by the events of the remaining items, is the whole schedule.
use Rattle.lw_finals.proofs.Common.{◌≡◌, ◌++◌, drop, item_events}
use Rattle.lw_finals.proofs.source_runner.schedule_of_items.Given as goal

abbrev pub invariant-loop-index : goal.invariant-loop-index
invariant-loop-index g l =
    l.events.items ++ item_events l.source.threads l.compiled.starts l.items (drop l.index-index l.order)
    ≡ item_events l.source.threads l.compiled.starts l.items l.order
