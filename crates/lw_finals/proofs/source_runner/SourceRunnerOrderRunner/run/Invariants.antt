-- At each round the items before the index were executed from the initial state; test, program and sizes are
-- unchanged.
use Rattle.lw_finals.proofs.Common.{◌≡◌, length, source_of, initial_state, source_item_system}
use Rattle.lw_finals.proofs.OrderSteps.{RunsContinueFrom}
use Rattle.lw_finals.proofs.source_runner.SourceRunnerOrderRunner.run.Given as goal

-- The items before the index were executed.
abbrev pub invariant-loop-index : goal.invariant-loop-index
invariant-loop-index g l = record {
  source : l.self-inside.source ≡ l.initial.self-inside.source;
  compiled : l.self-inside.compiled ≡ l.initial.self-inside.compiled;
  end : l.self-inside.end ≡ l.initial.self-inside.end;
  program : l.self-inside.run.program ≡ l.initial.self-inside.source.now.threads;
  start : l.self-inside.run.start ≡ initial_state (source_of l.initial.self-inside.source.now);
  many : length l.self-inside.run.state.threads ≡ length l.initial.self-inside.source.now.threads;
  words : length l.self-inside.run.state.words ≡ length l.initial.self-inside.source.now.head.locs;
  ran :
      RunsContinueFrom (source_item_system (source_of l.initial.self-inside.source.now)) l.items l.order l.index-index
      l.self-inside.run.state;
}
