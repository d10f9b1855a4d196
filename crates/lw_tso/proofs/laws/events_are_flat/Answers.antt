-- Proves the law that an event of a reachable state has the same result over a memory system as over flat memory,
-- in both directions. These are the lemmas `MachineTransition-reached_flat` and `LiftedEvent-reached`; the memory system is lawful by
-- its trait.
use Rattle.lw_tso.proofs.api.FlatSimulation.{MachineTransition-reached_flat, LiftedEvent-reached}
use Rattle.lw_tso.proofs.laws.events_are_flat.Goals as goal

pub returns : goal.returns
returns g c = record {
  over_flat = λ test m events s after e answer ok start ran none done.
      MachineTransition-reached_flat _ _ g.met.M.MemorySystem.lawful test ok m events s after e answer start ran none done;
  over_memory = λ test m events s e answer end ok start ran none done.
      LiftedEvent-reached _ _ g.met.M.MemorySystem.lawful test ok m events s e answer end start ran none done;
}
