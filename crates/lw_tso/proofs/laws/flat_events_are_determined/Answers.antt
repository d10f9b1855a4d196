-- Proves the law that over flat memory an event has one result and one next state. This is the lemma
-- `MachineTransition-deterministic`.
use Rattle.lw_tso.proofs.api.Effects.{MachineTransition-deterministic}
use Rattle.lw_tso.proofs.laws.flat_events_are_determined.Goals as goal

pub returns : goal.returns
returns c = MachineTransition-deterministic
