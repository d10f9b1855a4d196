-- At each round the first `cpu` threads are reset, and the others, the words and the source are unchanged.
use Rattle.lw_interleaving.proofs.Common.{◌≡◌, ◌++◌, map, take, drop, initial_thread}
use Rattle.lw_interleaving.proofs.run.SourceRun.restart.Given as goal

abbrev pub invariant-loop-cpu : goal.invariant-loop-cpu
invariant-loop-cpu g l = record {
  source : l.self-inside.source ≡ l.initial.self-inside.source;
  threads :
      l.self-inside.threads
      ≡ map initial_thread (take l.cpu l.initial.self-inside.source.now.head.init_regs)
      ++ drop l.cpu l.initial.self-inside.threads;
  words : l.self-inside.words ≡ l.initial.self-inside.words;
}
