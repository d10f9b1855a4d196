-- Proves `visit_from`, which visits each path assignment that begins with these paths, until a visit fails. The
-- cases follow the definition `assignments_along`: at the end of the last thread one visit, at the end of another
-- thread the next thread, and at a statement its successors, of which there are one or two.
use Rattle.lw_paths.proofs.Common.{rules, ◌≡◌, ◌<◌, ◌≤◌, [], ◌∷◌, length, sym, refl, ap, subst, arith, ◌∙◌}
use Rattle.lw_paths.proofs.Common.{suc, Contains, option_to_list, err_from_is_err_and, most_threads}
use Rattle.lw_paths.proofs.Common.{most_instructions, path_of, assignment_of, CanExtendPath}
use Rattle.lw_paths.proofs.Along.{statement_at_position, path_within_limits, CanExtendPath-successor}
use Rattle.lw_paths.proofs.Along.{CanExtendPath-next_thread, VisitsAll-one_successor}
use Rattle.lw_paths.proofs.Along.{VisitResult-two_successors, VisitFails-first_successor}
use Rattle.lw_paths.proofs.Along.{VisitResult-last_thread, VisitResult-next_thread}
use Rattle.lw_paths.proofs.api.Members.{Contains-head, Contains-tail}
use Rattle.lw_paths.proofs.visit.+visit_from.Goals as goal

pub returns-then-len-program : goal.returns-then-len-program
returns-then-len-program g t c =
    let end = statement_at_position c.requires c.index-program-len.is c.len.ensures c.in_default.ensures in
    VisitResult-last_thread c.requires g.V.Visitor.visits g.V.Visitor.refuses c.args.visitor.now c.visit.new.self
    (assignment_of c.with-assignment.result) c.visit.result end c.with-assignment.ensures
    (sym c.len-in_default.ensures ∙ c.if-len-program.true) c.visit.ensures.ok c.visit.ensures.err

pub returns-in_default : goal.returns-in_default
returns-in_default g t c =
    let end = statement_at_position c.requires c.index-program-len.is c.len.ensures c.in_default.ensures in
    VisitResult-next_thread c.requires g.V.Visitor.visits g.V.Visitor.refuses c.args.visitor.now c.visit_from.new.visitor
    (assignment_of c.with-assignment.result) (path_of c.new.result) c.visit_from.result end c.with-assignment.ensures
    c.new.ensures (λ s. c.if-len-program.false (c.len-in_default.ensures ∙ s)) c.visit_from.ensures

pub with-path-requires : goal.with-path-requires
with-path-requires g t c =
    let e = statement_at_position c.requires c.index-program-len.is c.len.ensures c.in-Some.ensures in
    (path_within_limits c.requires e).1

pub successors-first-requires : goal.successors-first-requires
successors-first-requires g t c =
    let e = statement_at_position c.requires c.index-program-len.is c.len.ensures c.in-Some.ensures in
    (path_within_limits c.requires e).0

-- After a complete path the visit continues with the next thread.
pub visit_from-requires : goal.visit_from-requires
visit_from-requires g t c κs within =
    let n =
    CanExtendPath-next_thread c.requires c.with-assignment.ensures c.new.ensures
    (λ s. c.if-len-program.false (c.len-in_default.ensures ∙ s)) in
    let can : CanExtendPath g.S.Statement.language c.args.program.now (assignment_of c.with-assignment.result)
    (path_of c.new.result) 0 = n.0 in
    let more : length (assignment_of c.with-assignment.result) ≡ suc (length (assignment_of c.args.assignment.now)) = n.1 in
    let there : length (assignment_of c.with-assignment.result) < most_threads =
    omega (arith, can.thread, can.visitable.bounded) in
    let low : c.args.at ≤ most_instructions = c.requires.within_room in
    search rules

-- The visit continues at the statement's first successor.
pub visit_from-requires-2 : goal.visit_from-requires-2
visit_from-requires-2 g t c κs within =
    let e = statement_at_position c.requires c.index-program-len.is c.len.ensures c.in-Some.ensures in
    let there =
    subst (λ l. Contains l c.successors-first.result.0) c.successors-first.ensures
    (Contains-head c.successors-first.result.0 c.successors-first.result.0 (option_to_list c.successors-first.result.1) refl) in
    let on = CanExtendPath-successor c.requires c.successors-first.result.0 e c.with-path.ensures there in
    let can : CanExtendPath g.S.Statement.language c.args.program.now (assignment_of c.args.assignment.now)
    (path_of c.with-path.result) c.successors-first.result.0 = on.0 in
    let up : c.args.at < c.successors-first.result.0 = on.1 in
    let low : c.successors-first.result.0 ≤ most_instructions = on.2 in
    search rules

-- The visit continues at the statement's second successor.
pub visit_from-requires-in-Some-second : goal.visit_from-requires-in-Some-second
visit_from-requires-in-Some-second g t c κs within =
    let e = statement_at_position c.requires c.index-program-len.is c.len.ensures c.in-Some.ensures in
    let there =
    subst (λ l. Contains l c.in-Some-second.to)
    (ap (λ o. c.successors-first.result.0 ∷ option_to_list o) (sym c.in-Some-second.is) ∙ c.successors-first.ensures)
    (Contains-tail c.successors-first.result.0 c.in-Some-second.to (c.in-Some-second.to ∷ [])
    (Contains-head c.in-Some-second.to c.in-Some-second.to [] refl)) in
    let on = CanExtendPath-successor c.requires c.in-Some-second.to e c.with-path.ensures there in
    let can : CanExtendPath g.S.Statement.language c.args.program.now (assignment_of c.args.assignment.now)
    (path_of c.with-path.result) c.in-Some-second.to = on.0 in
    let up : c.args.at < c.in-Some-second.to = on.1 in
    let low : c.in-Some-second.to ≤ most_instructions = on.2 in
    search rules

pub returns-in-Some-second : goal.returns-in-Some-second
returns-in-Some-second g t c =
    let e = statement_at_position c.requires c.index-program-len.is c.len.ensures c.in-Some.ensures in
    VisitResult-two_successors c.requires g.V.Visitor.visits g.V.Visitor.refuses c.args.visitor.now
    c.visit_from-in-Some-second.new.visitor e c.with-path.ensures c.successors-first.result.0 c.in-Some-second.to
    c.visit_from-2.new.visitor c.visit_from-in-Some-second.result
    (ap (λ o. c.successors-first.result.0 ∷ option_to_list o) (sym c.in-Some-second.is) ∙ c.successors-first.ensures)
    c.in_ok-visit_from.ensures c.visit_from-in-Some-second.ensures

pub returns-in-None : goal.returns-in-None
returns-in-None g t c =
    let e = statement_at_position c.requires c.index-program-len.is c.len.ensures c.in-Some.ensures in
    VisitsAll-one_successor c.requires g.V.Visitor.visits g.V.Visitor.refuses c.args.visitor.now c.visit_from-2.new.visitor e
    c.with-path.ensures c.successors-first.result.0
    (ap (λ o. c.successors-first.result.0 ∷ option_to_list o) (sym c.in-None.is) ∙ c.successors-first.ensures)
    c.in_ok-visit_from.ensures

pub returns-in_err-visit_from : goal.returns-in_err-visit_from
returns-in_err-visit_from g t c =
    let e = statement_at_position c.requires c.index-program-len.is c.len.ensures c.in-Some.ensures in
    let p = err_from_is_err_and c.from_residual.result c.from_residual.ensures.1 in
    rw (p.1, p.2)
    (VisitFails-first_successor c.requires g.V.Visitor.visits g.V.Visitor.refuses c.args.visitor.now c.visit_from-2.new.visitor e
    c.with-path.ensures c.successors-first.result.0 (option_to_list c.successors-first.result.1) c.in_err-visit_from.field-0.0
    c.successors-first.ensures c.in_err-visit_from.ensures)
