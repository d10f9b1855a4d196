-- Proves the law that the test of a pair's order is `true` if and only if a path of preserved pairs leads
-- from one item to the other. Each direction is a lemma (`IsOrderedByPath-if_ordered`, `is_ordered-if_path`).
use Rattle.lw_orders.proofs.Walks.{IsOrderedByPath-if_ordered, is_ordered-if_path}
use Rattle.lw_orders.proofs.laws.paths_order_pairs.Goals as goal

pub returns : goal.returns
returns c t are p = (IsOrderedByPath-if_ordered t.preserved p, is_ordered-if_path t.len t.preserved p are.preserved_up)
