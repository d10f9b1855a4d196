-- At each round all reversals from `at` up to the level are reversed already, and none has been changed. The loop
-- ends since `at` decreases.
use Rattle.lw_orders.proofs.Common.{ℕ, ◌≡◌, ◌<◌, ◌≤◌, true, false, slice_index_or}
use Rattle.lw_orders.proofs.orders.reverse_last.Given as goal

abbrev pub invariant-loop-at : goal.invariant-loop-at
invariant-loop-at l = record {
  within : l.at ≤ l.level;
  unchanged : l.reversals ≡ l.initial.reversals;
  are_reversed : (k : ℕ) → l.at ≤ k → k < l.level → slice_index_or l.reversals k false ≡ true;
}

abbrev pub decreases-loop-at : goal.decreases-loop-at
decreases-loop-at l = l.at
