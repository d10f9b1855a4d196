-- At each round the items before the index were executed over flat memory too; test, program and sizes are
-- unchanged.
use Rattle.lw_finals.proofs.Common.{◌≡◌, length, caches_by, Mesi, program_of}
use Rattle.lw_finals.proofs.X86Runners.{HasFlatRuns}
use Rattle.lw_finals.proofs.x86_runner.X86RunnerOrderRunner.run.Given as goal

-- The items before the index were executed.
abbrev pub invariant-loop-index : goal.invariant-loop-index
invariant-loop-index g l = record {
  program : l.self-inside.program ≡ l.initial.self-inside.program;
  end : l.self-inside.end ≡ l.initial.self-inside.end;
  threads : l.self-inside.machine.program ≡ l.initial.self-inside.program.now.threads;
  initial : l.self-inside.machine.initial ≡ l.initial.self-inside.machine.initial;
  processors : length l.self-inside.machine.state.processors ≡ length l.initial.self-inside.machine.state.processors;
  words :
      length ((caches_by Mesi).content l.self-inside.machine.state.memory)
      ≡ length ((caches_by Mesi).content l.initial.self-inside.machine.state.memory);
  ran :
      HasFlatRuns (caches_by Mesi) (program_of l.initial.self-inside.program.now) l.initial.self-inside.machine.state.memory
      l.items l.order l.index-index l.self-inside.machine.state;
}
