-- At each round `found` is the newest word for the location among the first `index` entries.
use Rattle.lw_search.proofs.Common.{◌≡◌, take, newest_buffered}
use Rattle.lw_search.proofs.queue.newest_in.Given as goal

abbrev pub invariant-loop-index : goal.invariant-loop-index
invariant-loop-index l = l.found ≡ newest_buffered (take l.index l.entries) l.loc
