-- At each round the first `thread` threads of the state are past their code, with empty store buffers.
use Rattle.lw_search.proofs.Collected.{AreDone}
use Rattle.lw_search.proofs.collect.is_final.Given as goal

abbrev pub invariant-loop-thread : goal.invariant-loop-thread
invariant-loop-thread g l = AreDone l.program.threads l.tables l.key l.thread
