-- At each round the first `done` events were carried out; program, start and sizes are unchanged.
use Rattle.lw_interleaving.proofs.Common.{◌≡◌, length, take, SourceRunsTo}
use Rattle.lw_interleaving.proofs.run.SourceRun.run.Given as goal

abbrev pub invariant-loop-done : goal.invariant-loop-done
invariant-loop-done g l = record {
  program : l.self.program ≡ l.fn.self.program;
  start : l.self.start ≡ l.fn.self.start;
  ran : SourceRunsTo l.fn.self.program (take l.done l.events) l.fn.self.state l.self.state;
  threads : length l.self.state.threads ≡ length l.fn.self.state.threads;
  words : length l.self.state.words ≡ length l.fn.self.state.words;
}
