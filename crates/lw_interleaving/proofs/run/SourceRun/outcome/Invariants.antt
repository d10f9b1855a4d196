-- At each round `regs` has the registers of the first threads.
use Rattle.lw_interleaving.proofs.Common.{◌≡◌, map, take, Thread}
use Rattle.lw_interleaving.proofs.run.SourceRun.outcome.Given as goal

abbrev pub invariant-loop-thread : goal.invariant-loop-thread
invariant-loop-thread g l = l.regs ≡ map (λ (t : Thread). t.regs) (take l.thread-index l.self.state.threads)
