-- At each round the first `cpu` rows are the threads' registers, and the other rows and the words are
-- unchanged.
use Rattle.lw_interleaving.proofs.Common.{◌≡◌, ◌++◌, map, take, drop, Thread}
use Rattle.lw_interleaving.proofs.run.SourceRun.write_outcome.Given as goal

abbrev pub invariant-loop-cpu : goal.invariant-loop-cpu
invariant-loop-cpu g l = record {
  regs :
      l.outcome-inside.regs
      ≡ map (λ (t : Thread). t.regs) (take l.cpu l.self.state.threads) ++ drop l.cpu l.initial.outcome-inside.regs;
  words : l.outcome-inside.words ≡ l.initial.outcome-inside.words;
}
