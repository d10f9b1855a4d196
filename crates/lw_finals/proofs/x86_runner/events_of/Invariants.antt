-- At each round the events are those of the first `index` items of the order.
use Rattle.lw_finals.proofs.Common.{◌≡◌, take, events_of}
use Rattle.lw_finals.proofs.x86_runner.events_of.Given as goal

abbrev pub invariant-loop-index : goal.invariant-loop-index
invariant-loop-index g l = l.events.items ≡ events_of l.items (take l.index-index l.order)
