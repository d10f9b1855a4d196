-- Proves the law that steps and drains replay over caches of each protocol to the same outcomes as over flat
-- memory, and that a replay is of its test's processors and locations. As for outcomes: caches are a lawful
-- memory, and empty ones are a right start.
use Rattle.lw_mesi.specs.laws.ProtocolLaws.{protocol_lawful}
use Rattle.lw_tso.proofs.api.FlatSimulation.{ReplaysTo-same_content}
use Rattle.lw_tso.proofs.api.Replaying.{HasOutcomeShape-replay, IsEvent-in_range}
use Rattle.lw_tso_caches.proofs.api.Starts.{IsInitialMemory-empty_caches}
use Rattle.lw_tso_caches.proofs.laws.replays_over_caches_are_flat.Goals as goal

-- Caches of each protocol are a lawful memory, and empty ones an initial memory, so the laws for each lawful memory apply.
pub returns : goal.returns
returns c =
    let start =
    IsInitialMemory-empty_caches c.empty_caches_are_coherent.ensures.kept c.empty_caches_are_coherent.ensures.content in
    record {
      flat = λ protocol test events o ok fits kept.
          ReplaysTo-same_content _ _ (protocol_lawful protocol) test ok _ events o (start protocol test ok fits) kept;
      of_test = λ protocol test events o ok fits replays.
          let is = HasOutcomeShape-replay (protocol_lawful protocol) test _ events o ok (start protocol test ok fits) replays in
          record { outcome = is.0; schedule = IsEvent-in_range test.head.threads test.head.locs events fits is.1 };
    }
