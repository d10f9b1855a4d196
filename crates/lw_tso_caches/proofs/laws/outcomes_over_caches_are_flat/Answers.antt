-- Proves the law that an x86 test has the same outcomes over caches of each protocol as over flat memory. Caches
-- are a lawful memory (`protocol_lawful`), and empty ones have the initial words as content (`IsInitialMemory-empty_caches`), so
-- the law for each lawful memory applies.
use Rattle.lw_mesi.specs.laws.ProtocolLaws.{protocol_lawful}
use Rattle.lw_tso.proofs.api.FlatSimulation.{IsMachineOutcome-flat_iff}
use Rattle.lw_tso_caches.proofs.api.Starts.{IsInitialMemory-empty_caches}
use Rattle.lw_tso_caches.proofs.laws.outcomes_over_caches_are_flat.Goals as goal

pub returns : goal.returns
returns c protocol test o ok fits =
    IsMachineOutcome-flat_iff _ _ (protocol_lawful protocol) test ok _ o
    (IsInitialMemory-empty_caches c.empty_caches_are_coherent.ensures.kept c.empty_caches_are_coherent.ensures.content protocol
    test ok fits)
