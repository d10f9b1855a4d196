-- Proves the collector's `visit`: it collects the outcomes of one path assignment's orders, and fails only
-- for a true limit. Both clauses are those of `collect_items`, since `fill_few_items` returns exactly the
-- items of the path assignment.
use Rattle.lw_finals.proofs.Common.{refl, ◌∙◌, on_ok_weaker, IfErr-weaker, assignment_of}
use Rattle.lw_finals.proofs.Common.{LimitFaultOfAssignment-items_refused}
use Rattle.lw_finals.proofs.collect.GathererVisitor.visit.Goals as goal

pub returns-clause-ok : goal.returns-clause-ok
returns-clause-ok g c =
    let gathered = rw (c.as_slice.ensures.value ∙ c.in_ok-fill_few_items.ensures.ok) at c.collect_items.ensures.gathered in
    on_ok_weaker c.collect_items.result (λ h. (refl, c.collect_items.ensures.same, h)) gathered

pub returns-clause-err : goal.returns-clause-err
returns-clause-err g c =
    let err = rw (c.as_slice.ensures.value ∙ c.in_ok-fill_few_items.ensures.ok) at c.collect_items.ensures.err in
    IfErr-weaker c.collect_items.result _ _
    (LimitFaultOfAssignment-items_refused g.S.Statement.language c.args.self.now.program.now
    (assignment_of c.args.assignment.now)) err
