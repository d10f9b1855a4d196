-- Proves `has_no_conflicts`: if it returns `true`, no items conflict, on any paths. No statement accesses a
-- location (`conflicts-none`).
use Rattle.lw_paths.proofs.Common.{◌∙◌, sym}
use Rattle.lw_paths.proofs.FewOrders.{conflicts-none}
use Rattle.lw_paths.proofs.few_orders.has_no_conflicts.Goals as goal

pub returns : goal.returns
returns g c silent items = conflicts-none g.S.Statement.language c.args.program.now (sym c.has_no_access.ensures ∙ silent) items
