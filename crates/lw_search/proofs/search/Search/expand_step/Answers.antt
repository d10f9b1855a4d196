-- Proves `expand_step`: the successor of the state by a thread's step is covered. If the quick test says that the step is refused, nothing
-- has to be covered (`ExpandsState-refused`). Otherwise `add_successor` promises it.
use Rattle.lw_search.proofs.Common.{◌∙◌, refl, sym, same_Some, HasConflictsOfOthers}
use Rattle.lw_search.proofs.Successors.{ExpandsState-refused, event_effect-of_code}
use Rattle.lw_base.specs.declared.event.Event.TheVariants as of
use Rattle.lw_search.proofs.search.Search.expand_step.Goals as goal

pub returns-then-refuses_step-clause-covered : goal.returns-then-refuses_step-clause-covered
returns-then-refuses_step-clause-covered g c =
    let program = c.args.self.now.program.now.threads in
    let row = c.refuses_step.ensures c.if-refuses_step.true in
    ExpandsState-refused program c.args.at c.args.cpu (of.Step c.args.cpu) c.args.key.now c.args.code.now row.0 row.2.0 refl
    c.requires.code (λ r at. same_Some row.0 r (sym row.1 ∙ at))
    (λ locs. event_effect-of_code program c.args.cpu c.args.code.now row.0 c.requires.code locs ∙ row.2.1)
    (λ s. HasConflictsOfOthers program s c.args.cpu c.args.conflicts)

pub returns-clause-covered : goal.returns-clause-covered
returns-clause-covered g c = rw c.step.ensures at c.add_successor.ensures.covered
