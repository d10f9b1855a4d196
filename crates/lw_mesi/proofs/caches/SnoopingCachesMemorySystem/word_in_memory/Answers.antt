-- Proves `word_in_memory` of the caches, which returns memory's word. The line at the location's index is the
-- location's (`read_word-same`).
use Rattle.lw_mesi.proofs.Common.{◌∙◌}
use Rattle.lw_mesi.proofs.ProtocolInvariant.{index_in_range, read_word-same}
use Rattle.lw_mesi.proofs.caches.SnoopingCachesMemorySystem.word_in_memory.Goals as goal

pub index-requires-2 : goal.index-requires-2
index-requires-2 g c = index_in_range _ _ c.self.inside.cache_lines _ _ c.self.view_is c.index.ensures.value c.requires

pub returns-clause-word : goal.returns-clause-word
returns-clause-word g c =
    c.word_in_memory.ensures
    ∙ read_word-same _ _ c.self.inside.cache_lines c.args.loc _ c.self.view_is c.index.ensures.value c.requires
    (λ line. line.memory) _ c.index-2.ensures
