-- Proves `store` of the caches, which is the protocol's transition for a store. `ProtocolTransition-borrowed` lifts the change of
-- the borrowed line to all caches, and `SatisfiesProtocol-set_line` says that they satisfy the protocol afterwards.
use Rattle.lw_mesi.proofs.Common.{sym, subst, LineSatisfiesProtocol, LineSatisfiesProtocol-after_write}
use Rattle.lw_mesi.proofs.Common.{Caches, table_of, refl, Store}
use Rattle.lw_mesi.proofs.ProtocolInvariant.{IsBorrowedLine, index_in_range, ProtocolTransition-borrowed}
use Rattle.lw_mesi.proofs.ProtocolInvariant.{SatisfiesProtocol-set_line}
use Rattle.lw_mesi.proofs.caches.SnoopingCachesMemorySystem.store.Given.{Over}
use Rattle.lw_mesi.proofs.caches.SnoopingCachesMemorySystem.store.Goals.{After-index_mut-line}
use Rattle.lw_mesi.proofs.caches.SnoopingCachesMemorySystem.store.Goals as goal

-- At the call of `index_mut` the caches m, made of the fields of `self` before the call, satisfy the protocol, and the borrowed line is that
-- of the location.
IsBorrowedLine-at_index_mut : (g : Over) (c : After-index_mut-line g)
    → (let m : Caches = record { cpus = c.self.inside.cpus; cache_lines = c.self.inside.cache_lines.items } in
    IsBorrowedLine g.P.ProtocolType.protocol m c.args.self.now c.args.cpu c.args.loc c.index.result c.index_mut-line.result.now)
IsBorrowedLine-at_index_mut g c = record {
  same = c.self.view_is;
  kept = c.self.invariant.1;
  within_line_limit = c.self.invariant.0;
  cpu = c.requires.cpu;
  loc = c.requires.loc;
  index = c.index.ensures.value;
  found = c.index_mut-line.ensures.value;
}

pub index_mut-line-requires : goal.index_mut-line-requires
index_mut-line-requires g c = index_in_range _ _ c.self.inside.cache_lines _ _ c.self.view_is c.index.ensures.value c.requires.loc

pub invariant_of-self : goal.invariant_of-self
invariant_of-self g c =
    let borrowed = IsBorrowedLine-at_index_mut g (goal.at.invariant_of-self g c).After-index_mut-line in
    SatisfiesProtocol-set_line borrowed _ (λ lt s.
    subst (LineSatisfiesProtocol g.P.ProtocolType.protocol) (sym c.write.ensures.line)
    (LineSatisfiesProtocol-after_write _ c.args.cpu _ lt s _))

pub returns-clause-served : goal.returns-clause-served
returns-clause-served g c =
    let borrowed = IsBorrowedLine-at_index_mut g (goal.at.returns-clause-served g c).After-index_mut-line in
    ProtocolTransition-borrowed borrowed (table_of g.P.ProtocolType.protocol) (Store c.args.word) _ _ refl c.write.ensures.line
