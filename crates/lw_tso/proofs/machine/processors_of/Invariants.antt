-- At each round the first `thread` processors are created, in their initial states and with room enough.
use Rattle.lw_tso.proofs.Starts.{AreStarted}
use Rattle.lw_tso.proofs.machine.processors_of.Given as goal

abbrev pub invariant-loop-thread : goal.invariant-loop-thread
invariant-loop-thread g l = AreStarted l.program.threads l.program.head.init_regs l.thread l.processors.items
