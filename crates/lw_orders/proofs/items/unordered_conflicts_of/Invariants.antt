-- At each round `unordered` has those of the first conflicts whose second item is not reachable from the
-- first.
use Rattle.lw_orders.proofs.Common.{◌≡◌, not, take, filter, reaches_in}
use Rattle.lw_orders.proofs.items.unordered_conflicts_of.Given as goal

abbrev pub invariant-loop-pair : goal.invariant-loop-pair
invariant-loop-pair g l = l.unordered.items ≡ filter (λ p. not (reaches_in l.reach p.0 p.1)) (take l.pair-index l.pair-items)
