-- Proves the law that a program has the same outcomes over each memory system, those over flat memory. This
-- is the lemma `IsMachineOutcome-flat_iff`.
use Rattle.lw_tso.proofs.api.FlatSimulation.{IsMachineOutcome-flat_iff}
use Rattle.lw_tso.proofs.laws.outcomes_are_flat.Goals as goal

pub returns : goal.returns
returns g c = λ test m o ok start. IsMachineOutcome-flat_iff _ _ g.met.M.MemorySystem.lawful test ok m o start
