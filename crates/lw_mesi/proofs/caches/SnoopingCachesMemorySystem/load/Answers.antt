-- Proves `load` of the caches, which is the protocol's transition for a load. `ProtocolTransition-borrowed` lifts the change of
-- the borrowed line to all caches, and `SatisfiesProtocol-set_line` says that they satisfy the protocol afterwards.
use Rattle.lw_mesi.proofs.Common.{ap, sym, ◌∙◌, subst, cache_line_to_read, table_of, LineSatisfiesProtocol}
use Rattle.lw_mesi.proofs.Common.{LineSatisfiesProtocol-after_load, Caches, Load}
use Rattle.lw_mesi.proofs.ProtocolInvariant.{IsBorrowedLine, before_states, index_in_range}
use Rattle.lw_mesi.proofs.ProtocolInvariant.{ProtocolTransition-borrowed, SatisfiesProtocol-set_line}
use Rattle.lw_mesi.proofs.caches.SnoopingCachesMemorySystem.load.Given.{Over}
use Rattle.lw_mesi.proofs.caches.SnoopingCachesMemorySystem.load.Goals.{After-index_mut-line}
use Rattle.lw_mesi.proofs.caches.SnoopingCachesMemorySystem.load.Goals as goal

-- At the call of `index_mut` the caches m, made of the fields of `self` before the call, satisfy the protocol, and the borrowed line is that
-- of the location.
IsBorrowedLine-at_index_mut : (g : Over) (c : After-index_mut-line g)
    → (let m : Caches = record { cpus = c.self.inside.cpus; cache_lines = c.self.inside.cache_lines.items } in
    IsBorrowedLine g.P.ProtocolType.protocol m c.args.self.now c.args.cpu c.args.loc c.index.result c.index_mut-line.result.now)
IsBorrowedLine-at_index_mut g c = record {
  same = c.self.view_is;
  kept = c.self.invariant.1;
  within_line_limit = c.self.invariant.0;
  cpu = c.requires.cpu;
  loc = c.requires.loc;
  index = c.index.ensures.value;
  found = c.index_mut-line.ensures.value;
}

pub index_mut-line-requires : goal.index_mut-line-requires
index_mut-line-requires g c = index_in_range _ _ c.self.inside.cache_lines _ _ c.self.view_is c.index.ensures.value c.requires.loc

pub load-requires-clause-states : goal.load-requires-clause-states
load-requires-clause-states g c =
    let borrowed = IsBorrowedLine-at_index_mut g (goal.at.load-requires-clause-states g c).After-index_mut-line in
    rw c.protocol.ensures (before_states borrowed)

pub invariant_of-self : goal.invariant_of-self
invariant_of-self g c =
    let borrowed = IsBorrowedLine-at_index_mut g (goal.at.invariant_of-self g c).After-index_mut-line in
    SatisfiesProtocol-set_line borrowed _ (λ lt s.
    subst (LineSatisfiesProtocol g.P.ProtocolType.protocol)
    (sym (c.load.ensures.line
    ∙ ap (λ p. cache_line_to_read (table_of p) c.args.cpu c.index_mut-line.result.now) c.protocol.ensures))
    (LineSatisfiesProtocol-after_load _ c.args.cpu _ lt s))

pub returns-clause-served : goal.returns-clause-served
returns-clause-served g c =
    let borrowed = IsBorrowedLine-at_index_mut g (goal.at.returns-clause-served g c).After-index_mut-line in
    ProtocolTransition-borrowed borrowed (table_of g.P.ProtocolType.protocol) Load _ _
    (rw c.protocol.ensures at c.load.ensures.word) (rw c.protocol.ensures at c.load.ensures.line)
