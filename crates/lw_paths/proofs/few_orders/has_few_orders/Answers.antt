-- Proves `has_few_orders`: if it returns `true`, the program is within the limit of orders. Nothing conflicts, so
-- each path assignment has one order, and each branch at most doubles the path assignments (`total_of-le_most_orders`).
use Rattle.lw_paths.proofs.Common.{◌∙◌, sym}
use Rattle.lw_paths.proofs.FewOrders.{total_of-le_most_orders}
use Rattle.lw_paths.proofs.few_orders.has_few_orders.Goals as goal

pub returns : goal.returns
returns g c few =
    total_of-le_most_orders g.S.Statement.language c.args.program.now (sym c.has_no_access.ensures ∙ c.if-not-has_no_access.false)
    c.requires.forward (c.has_few_branches.ensures few)
