-- Proves `word_at_end` of the caches, which returns a location's coherent word. The line at the location's
-- index is the location's (`read_word-same`).
use Rattle.lw_mesi.proofs.Common.{coherent_word}
use Rattle.lw_mesi.proofs.ProtocolInvariant.{index_in_range, read_word-same}
use Rattle.lw_mesi.proofs.caches.SnoopingCachesMemorySystem.word_at_end.Goals as goal

pub index-requires-2 : goal.index-requires-2
index-requires-2 g c = index_in_range _ _ c.self.inside.cache_lines _ _ c.self.view_is c.index.ensures.value c.requires

pub returns-clause-word : goal.returns-clause-word
returns-clause-word g c =
    let seen =
    read_word-same _ _ c.self.inside.cache_lines c.args.loc _ c.self.view_is c.index.ensures.value c.requires coherent_word _
    c.index-2.ensures in
    cc
