-- At each round `regs` has the registers of the first `thread` threads of each state that the key represents.
use Rattle.lw_search.proofs.Collected.{AreRegisters}
use Rattle.lw_search.proofs.collect.outcome_of.Given as goal

abbrev pub invariant-loop-thread : goal.invariant-loop-thread
invariant-loop-thread g l = AreRegisters l.program.threads l.tables l.key l.regs l.thread
