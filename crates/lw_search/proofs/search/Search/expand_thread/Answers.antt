-- Proves `expand_thread`: the successors by a thread's step and by its drain are covered. `ExpandsState-both`
-- joins the two calls, since the states that the second one finds are only added to those of the first.
use Rattle.lw_search.proofs.Common.{on_ok_weaker, IsCovered, HasConflictsOfOthers}
use Rattle.lw_search.proofs.Successors.{ExpandsState-both, IsMonotone-IsCovered}
use Rattle.lw_base.specs.declared.event.Event.TheVariants as of
use Rattle.lw_search.proofs.search.Search.expand_thread.Goals as goal

pub returns-clause-covered : goal.returns-clause-covered
returns-clause-covered g c =
    let program = c.args.self.now.program.now.threads in
    on_ok_weaker c.expand_drain.result
    (ExpandsState-both program c.args.at c.args.key.now (λ s. HasConflictsOfOthers program s c.args.cpu c.args.conflicts)
    (λ s more. IsCovered program more s (of.Step c.args.cpu)) (λ s more. IsCovered program more s (of.Drain c.args.cpu))
    (IsMonotone-IsCovered program (of.Step c.args.cpu)) c.in_ok-expand_step.ensures.covered)
    (rw c.in_ok-expand_step.ensures.program at c.expand_drain.ensures.covered)
