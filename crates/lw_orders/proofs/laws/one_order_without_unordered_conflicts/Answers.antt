-- Proves the law that there is one order, the ascending one, if no conflict is unordered. This is the lemma
-- `orders-of_ascending`.
use Rattle.lw_orders.proofs.Ascending.{orders-of_ascending}
use Rattle.lw_orders.proofs.laws.one_order_without_unordered_conflicts.Goals as goal

pub returns : goal.returns
returns c t are none = orders-of_ascending t are.preserved_up none
