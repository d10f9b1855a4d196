-- Proves `list_program`, whose list has the outcomes of all orders of all path assignments, and which fails only
-- for a true limit. `CollectsOutcomes-all_visits` joins the visits of the path assignments, and `CollectsOutcomes-sorted` says that
-- sorting loses nothing. A fault of a visit is a limit's, by `LimitFaultOfAssignments-visit_fails`: the collector is seen as a
-- visitor that counts nothing.
use Rattle.lw_finals.proofs.Common.{◌≡◌, List, refl, arith, All-permutation, err_from_is_err_and}
use Rattle.lw_finals.proofs.Common.{CollectsOutcomes, OutcomesOfAssignment, OutcomesOfProgram, Gatherer}
use Rattle.lw_finals.proofs.Common.{LimitFaultOfAssignments-visit_fails, LimitFaultIsTrue-of_assignments}
use Rattle.lw_finals.proofs.Common.{VisitorView, GivesReasons, LimitFaultOfAssignment}
use Rattle.lw_finals.proofs.Gathering.{CollectsOutcomes-all_visits, CollectsOutcomes-sorted}
use Rattle.lw_finals.proofs.collect.list_program.Given.{Over}
use Rattle.lw_finals.proofs.collect.list_program.Goals as goal

-- The collector as a visitor that counts nothing.
abbrev collector_view : (g : Over)
    → VisitorView g.row.S.Denot
    (Gatherer g.row.S.Denot g.row.A.Denot g.row.B.Denot g.row.R.Denot g.row.R-Kept.Denot g.S.Statement g.R.OrderRunner)
collector_view g = record {
  program = λ v. v.program.now;
  count = λ v. 0;
  visits = λ v paths w.
      (w.program.now ≡ v.program.now)
      × (g.R.OrderRunner.test w.runner.now ≡ g.R.OrderRunner.test v.runner.now)
      × CollectsOutcomes
      (OutcomesOfAssignment g.S.Statement.language (g.R.OrderRunner.ends (g.R.OrderRunner.test v.runner.now)) v.program.now paths)
      (g.R.OrderRunner.leads (g.R.OrderRunner.test v.runner.now)) v.found w.found;
  refuses = λ v paths e. LimitFaultOfAssignment g.S.Statement.language v.program.now 0 paths e;
}

-- As a visitor that counts nothing, the collector of outcomes states causes of failure that hold.
GivesReasons-collector : (g : Over) → GivesReasons g.S.Statement.language (collector_view g)
GivesReasons-collector g =
    record { preserves_program = λ v paths w h. h.0; at_most = λ v paths w h. omega arith; cause_holds = λ v paths e h. h }

-- The cause with which a visit failed is a limit's, and true.
pub returns-in_err-visit_assignments-clause-err : goal.returns-in_err-visit_assignments-clause-err
returns-in_err-visit_assignments-clause-err g c =
    let p =
    err_from_is_err_and c.from_residual-in_err-visit_assignments.result c.from_residual-in_err-visit_assignments.ensures.1 in
    let told =
    LimitFaultOfAssignments-visit_fails g.S.Statement.language (collector_view g) c.args.program.now c.requires.forward
    (GivesReasons-collector g) _ c.in_err-visit_assignments.field-0.0 refl refl c.in_err-visit_assignments.ensures.err in
    rw (p.1, p.2)
    (LimitFaultIsTrue-of_assignments g.S.Statement.language c.args.program.now c.requires.forward
    c.in_ok-check_limits.ensures.within.0 _ told)

-- What the visits collected, sorted, has the outcomes of all path assignments.
pub returns-clause-gathered : goal.returns-clause-gathered
returns-clause-gathered g c =
    let leads = g.R.OrderRunner.leads (g.R.OrderRunner.test c.args.runner.now) in
    let gathered : CollectsOutcomes
    (OutcomesOfProgram g.S.Statement.language (g.R.OrderRunner.ends (g.R.OrderRunner.test c.args.runner.now)) c.args.program.now)
    leads c.new-2.result c.visit_assignments.new.visitor.found =
    CollectsOutcomes-all_visits (List (List g.row.S.Denot) × g.R.OrderRunner.Test)
    (λ v. (v.program.now, g.R.OrderRunner.test v.runner.now)) (λ v. v.found) _
    (λ t. OutcomesOfAssignment g.S.Statement.language (g.R.OrderRunner.ends t.1) t.0) (λ t. g.R.OrderRunner.leads t.1)
    (λ v paths w h. ((λ i. (h.0 i, h.1 i)), h.2)) (c.args.program.now, g.R.OrderRunner.test c.args.runner.now) _ _ _ refl
    c.in_ok-visit_assignments.ensures.ok in
    let from_none = rw c.new-2.ensures at gathered in
    CollectsOutcomes-sorted leads c.in_ok-into_listing.ensures.same from_none
    (All-permutation (λ e. leads e.1 e.0) _ _ c.in_ok-into_listing.ensures.same)

pub returns-clause-within : goal.returns-clause-within
returns-clause-within g c = c.in_ok-check_limits.ensures.within

pub check_limits-requires : goal.check_limits-requires
check_limits-requires g c = c.requires

pub visit_assignments-requires : goal.visit_assignments-requires
visit_assignments-requires g c = c.requires
