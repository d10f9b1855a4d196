-- Proves `expand_drain`: the successor of the state by a thread's drain is covered. If the buffer is empty the drain is not enabled,
-- and nothing has to be covered (`ExpandsState-refused`). Otherwise `add_successor` promises it.
use Rattle.lw_search.proofs.Common.{◌∙◌, refl, sym, same_Some, HasConflictsOfOthers}
use Rattle.lw_search.proofs.Successors.{ExpandsState-refused}
use Rattle.lw_search.proofs.ThreadStates.{drain_effect-empty}
use Rattle.lw_base.specs.declared.event.Event.TheVariants as of
use Rattle.lw_search.proofs.search.Search.expand_drain.Goals as goal

pub returns-then-has_empty_buffer-clause-covered : goal.returns-then-has_empty_buffer-clause-covered
returns-then-has_empty_buffer-clause-covered g c =
    let program = c.args.self.now.program.now.threads in
    let row = c.has_empty_buffer.ensures c.if-has_empty_buffer.true in
    let refused = drain_effect-empty row.0.buffer row.0 row.2 in
    ExpandsState-refused program c.args.at c.args.cpu (of.Drain c.args.cpu) c.args.key.now c.args.code.now row.0 refused.0 refl
    c.requires.code (λ r at. same_Some row.0 r (sym row.1 ∙ at)) (λ locs. refused.1)
    (λ s. HasConflictsOfOthers program s c.args.cpu c.args.conflicts)

pub returns-clause-covered : goal.returns-clause-covered
returns-clause-covered g c = rw c.drain.ensures at c.add_successor.ensures.covered
