-- At each round the events of the first `index` rows of the run are appended to those that were there.
use Rattle.lw_search.proofs.Common.{◌≡◌, ◌++◌, take, events_of}
use Rattle.lw_search.proofs.collect.push_events.Given as goal

abbrev pub invariant-loop-index : goal.invariant-loop-index
invariant-loop-index g l = l.events.items ≡ l.initial.events.items ++ events_of (take l.index l.run)
