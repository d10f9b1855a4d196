-- Law: every run over caches can be continued to a final state. This is `CanTerminate-reached`, which holds over every
-- lawful memory, since jumps lead forward and drains are always served; caches by each protocol are lawful,
-- and start sound.
use Rattle.lw_bench.proofs.Common.{protocol_lawful, CanTerminate-reached, IsInitialMemory-empty_caches}
use Rattle.lw_bench.proofs.cache_laws.every_run_over_caches_ends.Goals as goal

pub returns : goal.returns
returns c protocol test events s ok fits ran =
    CanTerminate-reached _ _ (protocol_lawful protocol) test ok _ events s
    (IsInitialMemory-empty_caches c.empty_caches_are_coherent.ensures.kept c.empty_caches_are_coherent.ensures.content protocol
    test ok fits) ran
