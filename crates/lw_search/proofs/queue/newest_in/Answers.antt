-- Proves `newest_in`, which returns the newest word that buffer entries, oldest first, have for a location,
-- or `None`. By `newest_buffered-take`, one more entry either has the word for the location, and is then the
-- newest, or leaves what was found.
use Rattle.lw_search.proofs.Common.{arith}
use Rattle.lw_search.proofs.ThreadStates.{newest_buffered-take}
use Rattle.lw_search.proofs.queue.newest_in.Goals as goal

pub loop-index-preserved : goal.loop-index-preserved
loop-index-preserved c =
    newest_buffered-take c.args.loc c.loop-index.index c.args.entries.now c.loop-index.found c.newer_of-found.result (omega arith)
    c.loop-index.invariant c.newer_of-found.ensures
