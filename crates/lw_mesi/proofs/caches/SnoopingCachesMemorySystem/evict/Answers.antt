-- Proves `evict` of the caches: a copy that is held is evicted as the protocol says, and the call fails
-- otherwise. The line at the location's index is the location's (`cache_line_value-same`); the changed line still satisfies
-- the protocol, and so do the caches (`LineSatisfiesProtocol-evicted`, `SatisfiesProtocol-set_line`).
use Rattle.lw_mesi.proofs.Common.{◌∙◌, copy_of, is_held, copy_state}
use Rattle.lw_mesi.proofs.ProtocolInvariant.{cache_line_value-same, index_in_range}
use Rattle.lw_mesi.proofs.ProtocolInvariant.{SatisfiesProtocol-set_line, LineSatisfiesProtocol-evicted}
use Rattle.lw_mesi.proofs.caches.SnoopingCachesMemorySystem.evict.Goals as goal

pub index_mut-line-requires : goal.index_mut-line-requires
index_mut-line-requires g c = index_in_range _ _ c.self.inside.cache_lines _ _ c.self.view_is c.index.ensures.value c.requires.loc

pub returns-clause-held : goal.returns-clause-held
returns-clause-held g c =
    c.evict.ensures.held
    ∙ cache_line_value-same _ _ c.self.inside.cache_lines c.args.loc _ c.self.view_is c.index.ensures.value c.requires.loc
    (λ line. is_held (copy_state (copy_of line c.args.cpu))) _ c.index_mut-line.ensures.value

-- The line after the eviction, carried out or not, satisfies the protocol, and so do the caches with it.
pub invariant_of-self : goal.invariant_of-self
invariant_of-self g c =
    SatisfiesProtocol-set_line {x = c.args.loc} {i = c.index.result} (record {
      same = c.self.view_is;
      kept = c.self.invariant.1;
      within_line_limit = c.self.invariant.0;
      cpu = c.requires.cpu;
      loc = c.requires.loc;
      index = c.index.ensures.value;
      found = c.index_mut-line.ensures.value;
    }) _ (λ lt s.
    LineSatisfiesProtocol-evicted g.P.ProtocolType.protocol c.evict.result c.args.cpu _ _ lt s
    (record { held = c.evict.ensures.held; ok = c.evict.ensures.ok; err = c.evict.ensures.err }))
