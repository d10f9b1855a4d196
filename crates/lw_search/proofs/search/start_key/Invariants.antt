-- At each round the key has the number of the memory and those of the first `thread` threads' initial states,
-- and 0 for the others.
use Rattle.lw_search.proofs.Common.{Extends}
use Rattle.lw_search.proofs.Start.{IsStartKey}
use Rattle.lw_search.proofs.search.start_key.Given as goal

abbrev pub invariant-loop-thread : goal.invariant-loop-thread
invariant-loop-thread g l = record {
  key : IsStartKey l.tables l.memory l.key l.program.head.init_words l.program.head.init_regs l.thread;
  extended : Extends l.fn.tables l.tables;
}
