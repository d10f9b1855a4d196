-- At each round the successors by steps and drains of the first `thread` threads are covered, the program is
-- unchanged, and the cache holds transitions of the program.
use Rattle.lw_search.proofs.Common.{◌≡◌, AreTransitions, DescribeState, ExpandsState}
use Rattle.lw_search.proofs.Successors.{CoversThreads}
use Rattle.lw_search.proofs.search.Search.expand.Given as goal

abbrev pub invariant-loop-thread : goal.invariant-loop-thread
invariant-loop-thread g l = record {
  program_is : l.self.program ≡ l.initial.self.program;
  expands :
      ExpandsState l.initial.self.program.now.threads l.initial.self.tables l.initial.self.states l.self.tables l.self.states l.at
      l.key (λ s. DescribeState l.initial.self.program.now.threads s l.outlooks.threads)
      (CoversThreads l.initial.self.program.now.threads l.thread);
  kept : AreTransitions l.initial.self.program.now.threads l.self.tables l.self.states.runs l.self.transitions;
}
