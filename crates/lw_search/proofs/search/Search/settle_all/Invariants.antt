-- At each round the events taken so far lead from each state with this key to one with the key `next`, which
-- covers it; the table of states is unchanged.
use Rattle.lw_search.proofs.Common.{◌≡◌, IsWorking, SettlesFrom}
use Rattle.lw_search.proofs.search.Search.settle_all.Given as goal

abbrev pub invariant-loop : goal.invariant-loop
invariant-loop g l = record {
  program_is : l.self.program ≡ l.initial.self.program;
  states : l.self.states ≡ l.initial.self.states;
  transitions : l.self.transitions ≡ l.initial.self.transitions;
  settled :
      SettlesFrom l.initial.self.program.now.threads
      (IsWorking l.initial.self.program.now.threads l.initial.self.tables l.key l.initial.self.words) l.initial.self.tables
      l.self.tables l.next l.self.words l.initial.self.run l.self.run;
}
