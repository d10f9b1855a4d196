-- Proves the law that a list of events without evictions replays to an outcome over a memory system if and
-- only if it does over flat memory. This is the lemma `ReplaysTo-same_content`.
use Rattle.lw_tso.proofs.api.FlatSimulation.{ReplaysTo-same_content}
use Rattle.lw_tso.proofs.laws.replays_are_flat.Goals as goal

pub returns : goal.returns
returns g c =
    λ test m events o ok start none. ReplaysTo-same_content _ _ g.met.M.MemorySystem.lawful test ok m events o start none
