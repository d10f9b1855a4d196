-- Law: in every run of a test over caches of any protocol, each reached state of the caches is sound, so each
-- line is coherent. Lawful caches stay sound under every request (`IsWithin-reached`), and empty caches are
-- sound at the start (`IsInitialMemory-empty_caches`).
use Rattle.lw_bench.proofs.Common.{protocol_lawful, IsWithin-reached, IsInitialMemory-empty_caches}
use Rattle.lw_bench.proofs.cache_laws.caches_are_coherent_in_every_run.Goals as goal

pub returns : goal.returns
returns c protocol test events s ok fits ran =
    (IsWithin-reached _ _ (protocol_lawful protocol) test ok _ events s
    (IsInitialMemory-empty_caches c.empty_caches_are_coherent.ensures.kept c.empty_caches_are_coherent.ensures.content protocol
    test ok fits) ran).sound
