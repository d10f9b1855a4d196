-- Proves `number_copies`: the thread's state, the memory and the run each get their number, and rows are only appended.
use Rattle.lw_search.proofs.Rows.{Extends-trans}
use Rattle.lw_search.proofs.search.Search.number_copies.Goals as goal

pub returns-clause-appended : goal.returns-clause-appended
returns-clause-appended g c = record {
  extended = Extends-trans c.in_ok-thread.ensures.extended c.in_ok-memory.ensures.extended;
  keys = c.in_ok-run.ensures.keys;
  origins = c.in_ok-run.ensures.origins;
  runs = c.in_ok-run.ensures.runs;
}

pub returns-clause-thread : goal.returns-clause-thread
returns-clause-thread g c = c.in_ok-memory.ensures.extended.threads _ _ c.in_ok-thread.ensures.found
