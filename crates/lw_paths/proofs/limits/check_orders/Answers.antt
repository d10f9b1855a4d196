-- Proves `check_orders`, which counts the orders of all path assignments. The visitor is a counter (`IsCounter-counter_view`):
-- what its visits add up to is the program's total (`IsWithinLimits-all_visited`), and a visit that fails has a true cause.
use Rattle.lw_paths.proofs.Common.{refl, on_ok_weaker, IfErr-weaker, LimitFaultOfAssignment, Counter}
use Rattle.lw_paths.proofs.api.Counting.{VisitorView, IsCounter, Counts, IsWithinLimits-all_visited}
use Rattle.lw_paths.proofs.api.Counting.{LimitFaultOfAssignments-counter_fails}
use Rattle.lw_paths.proofs.limits.check_orders.Given.{Over}
use Rattle.lw_paths.proofs.limits.check_orders.Goals as goal

-- The counter as a visitor.
abbrev counter_view : (g : Over) → VisitorView g.row.S.Denot (Counter g.row.S.Denot g.row.A.Denot g.row.B.Denot)
counter_view g = record {
  program = λ v. v.program.now;
  count = λ v. v.total;
  visits = λ v paths w. Counts g.S.Statement.language v.program.now v.total paths w.program.now w.total;
  refuses = λ v paths e. LimitFaultOfAssignment g.S.Statement.language v.program.now v.total paths e;
}

-- The visitor that counts orders is a counter.
IsCounter-counter_view : (g : Over) → IsCounter g.S.Statement.language (counter_view g)
IsCounter-counter_view g = record { each = λ v paths w h. h; cause_holds = λ v paths e h. h }

pub returns-clause-items : goal.returns-clause-items
returns-clause-items g c =
    on_ok_weaker c.visit_assignments.result (λ h.
    (IsWithinLimits-all_visited g.S.Statement.language (counter_view g) c.args.program.now c.requires.forward
    (IsCounter-counter_view g) _ _ refl refl h).0) c.visit_assignments.ensures.ok

pub returns-clause-orders : goal.returns-clause-orders
returns-clause-orders g c =
    on_ok_weaker c.visit_assignments.result (λ h.
    (IsWithinLimits-all_visited g.S.Statement.language (counter_view g) c.args.program.now c.requires.forward
    (IsCounter-counter_view g) _ _ refl refl h).1) c.visit_assignments.ensures.ok

pub returns-clause-err : goal.returns-clause-err
returns-clause-err g c =
    IfErr-weaker c.visit_assignments.result _ _ (λ e h.
    LimitFaultOfAssignments-counter_fails g.S.Statement.language (counter_view g) c.args.program.now c.requires.forward
    (IsCounter-counter_view g) _ e refl refl h) c.visit_assignments.ensures.err
