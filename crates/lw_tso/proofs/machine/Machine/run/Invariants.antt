-- At each round the first `done` events were carried out; program, initial state and sizes are unchanged.
use Rattle.lw_tso.proofs.Common.{◌≡◌, length, take, memory_of, MachineRunsTo}
use Rattle.lw_tso.proofs.machine.Machine.run.Given as goal

abbrev pub invariant-loop-done : goal.invariant-loop-done
invariant-loop-done g l = record {
  program : l.self.program ≡ l.fn.self.program;
  initial : l.self.initial ≡ l.fn.self.initial;
  ran :
      MachineRunsTo (memory_of g.M.MemorySystem.content g.M.MemorySystem.state g.M.MemorySystem.serves) l.fn.self.program
      (take l.done l.events) l.fn.self.state l.self.state;
  processors : length l.self.state.processors ≡ length l.fn.self.state.processors;
  words : length (g.M.MemorySystem.content l.self.state.memory) ≡ length (g.M.MemorySystem.content l.fn.self.state.memory);
}
