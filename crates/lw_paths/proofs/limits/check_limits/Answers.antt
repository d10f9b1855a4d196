-- Proves `check_limits`: if it returns `Ok`, the program is within the limits of lists, and a fault is true.
-- Items are checked first, so a fault of `check_orders` is one of orders (`LimitFaultIsTrue-of_assignments`). If the quick test
-- says that orders are few, they are (`IsWithinLimits-of_total`).
use Rattle.lw_paths.proofs.Common.{on_ok_weaker, IfErr-weaker}
use Rattle.lw_paths.proofs.api.Counting.{LimitFaultIsTrue-of_assignments, IsWithinLimits-of_total}
use Rattle.lw_paths.proofs.limits.check_limits.Goals as goal

pub returns-clause-within : goal.returns-clause-within
returns-clause-within g c =
    on_ok_weaker c.check_orders.result
    (IsWithinLimits-of_total g.S.Statement.language c.args.program.now c.requires.forward c.in_ok-check_items.ensures.bounded)
    c.check_orders.ensures.orders

pub returns-clause-err : goal.returns-clause-err
returns-clause-err g c =
    IfErr-weaker c.check_orders.result _ _
    (LimitFaultIsTrue-of_assignments g.S.Statement.language c.args.program.now c.requires.forward
    c.in_ok-check_items.ensures.bounded) c.check_orders.ensures.err

pub returns-then-has_few_orders-clause-within : goal.returns-then-has_few_orders-clause-within
returns-then-has_few_orders-clause-within g c =
    IsWithinLimits-of_total g.S.Statement.language c.args.program.now c.requires.forward c.in_ok-check_items.ensures.bounded
    (c.has_few_orders.ensures c.if-has_few_orders.true)
