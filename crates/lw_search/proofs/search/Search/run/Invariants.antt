-- At each round the first `at` states are visited, from each list of found states with the search's invariant
-- at the start, and the cache holds transitions of the program.
use Rattle.lw_search.proofs.Common.{◌≡◌, AreTransitions, ExpandsUpTo}
use Rattle.lw_search.proofs.search.Search.run.Given as goal

abbrev pub invariant-loop-at : goal.invariant-loop-at
invariant-loop-at g l = record {
  program_is : l.self.program ≡ l.initial.self.program;
  expands :
      ExpandsUpTo l.initial.self.program.now.threads l.initial.self.tables l.initial.self.states 0 l.self.tables l.self.states
      l.at;
  kept : AreTransitions l.initial.self.program.now.threads l.self.tables l.self.states.runs l.self.transitions;
}
