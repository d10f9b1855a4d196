-- Proves `visit_assignments`, which visits exactly the path assignments of a program, in order, until a visit fails.
-- Those that begin with no path are all (`assignments_along-start`); a program without threads has one, the empty one
-- (`path_assignments-no_threads`).
use Rattle.lw_paths.proofs.Common.{nat_tests, arith, refl, inl, subst, on_ok_weaker, IfErr-weaker, path_of}
use Rattle.lw_paths.proofs.Common.{assignment_of, VisitResult, path_assignments}
use Rattle.lw_paths.proofs.Along.{assignments_along-start, path_assignments-no_threads, VisitsAll-if_ok}
use Rattle.lw_paths.proofs.Along.{VisitFails-if_err}
use Rattle.lw_paths.proofs.visit.visit_assignments.Goals as goal

pub returns-then-is_empty-clause-ok : goal.returns-then-is_empty-clause-ok
returns-then-is_empty-clause-ok g c =
    on_ok_weaker c.visit.result
    (λ visited.
    rw
    (← path_assignments-no_threads g.S.Statement.language c.args.program.now (assignment_of c.new.result) c.if-is_empty.ensures
    c.new.ensures) (c.visit.new.self, visited, refl)) c.visit.ensures.ok

pub returns-then-is_empty-clause-err : goal.returns-then-is_empty-clause-err
returns-then-is_empty-clause-err g c =
    IfErr-weaker c.visit.result _ _ (λ e refused.
    rw
    (← path_assignments-no_threads g.S.Statement.language c.args.program.now (assignment_of c.new.result) c.if-is_empty.ensures
    c.new.ensures) (inl refused)) c.visit.ensures.err

pub returns-clause-ok : goal.returns-clause-ok
returns-clause-ok g c =
    VisitsAll-if_ok _ _ _ _ _ _
    (subst (λ assignments.
    VisitResult g.V.Visitor.visits g.V.Visitor.refuses assignments c.args.visitor.now c.visit_from.result
    c.visit_from.new.visitor)
    (assignments_along-start g.S.Statement.language c.args.program.now _ (path_of c.new-3.result) c.if-is_empty.ensures
    c.new-2.ensures c.new-3.ensures) c.visit_from.ensures)

pub returns-clause-err : goal.returns-clause-err
returns-clause-err g c =
    VisitFails-if_err _ _ _ _ _ _
    (subst (λ assignments.
    VisitResult g.V.Visitor.visits g.V.Visitor.refuses assignments c.args.visitor.now c.visit_from.result
    c.visit_from.new.visitor)
    (assignments_along-start g.S.Statement.language c.args.program.now _ (path_of c.new-3.result) c.if-is_empty.ensures
    c.new-2.ensures c.new-3.ensures) c.visit_from.ensures)

pub visit_from-requires : goal.visit_from-requires
visit_from-requires g c = rw (c.new-2.ensures, c.new-3.ensures) (record {
  visitable = c.requires;
  thread = grind (arith, nat_tests, c.if-is_empty.ensures);
  begun = omega arith;
  within = omega arith;
  within_room = omega arith;
})
