-- Proves `state_of` of the caches, which returns the state of a processor's copy. The line at the location's
-- index is the location's (`cache_line_value-same`).
use Rattle.lw_mesi.proofs.Common.{◌∙◌, copy_of, copy_state}
use Rattle.lw_mesi.proofs.ProtocolInvariant.{cache_line_value-same, index_in_range}
use Rattle.lw_mesi.proofs.caches.SnoopingCachesMemorySystem.state_of.Goals as goal

pub index-requires-2 : goal.index-requires-2
index-requires-2 g c = index_in_range _ _ c.self.inside.cache_lines _ _ c.self.view_is c.index.ensures.value c.requires.loc

pub returns-clause-letter : goal.returns-clause-letter
returns-clause-letter g c =
    c.state_of.ensures
    ∙ cache_line_value-same _ _ c.self.inside.cache_lines c.args.loc _ c.self.view_is c.index.ensures.value c.requires.loc
    (λ line. copy_state (copy_of line c.args.cpu)) _ c.index-2.ensures
