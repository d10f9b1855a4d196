-- At each round the first threads are created, each at its first statement.
use Rattle.lw_interleaving.proofs.Common.{◌≡◌, map, take, initial_thread}
use Rattle.lw_interleaving.proofs.run.SourceRun.new.Given as goal

abbrev pub invariant-loop-regs : goal.invariant-loop-regs
invariant-loop-regs g l = l.threads ≡ map initial_thread (take l.regs-index l.source.head.init_regs)
