-- At each round the items taken so far begin the greedy order, which continues with the items left; each item
-- left that is no candidate is blocked.
use Rattle.lw_orders.proofs.Common.{most_items, ℕ, ◌≡◌, ◌<◌, ◌^◌, List, length, AreGraphTables}
use Rattle.lw_orders.proofs.LowestBySets.{TakenSoFar}
use Rattle.lw_orders.proofs.greedy.lowest_by_sets.Given as goal

abbrev pub invariant-loop-turn : goal.invariant-loop-turn
invariant-loop-turn g l = record {
  room : length l.items ≡ most_items;
  fits : g.S.ItemBits.number l.left < 2 ^ most_items;
  taken :
      (pairs : List (ℕ × ℕ))
      → AreGraphTables l.len pairs l.predecessors l.reach l.neighbours
      → TakenSoFar pairs l.len l.predecessors l.reach l.items (g.S.ItemBits.number l.left) (g.S.ItemBits.number l.candidates)
      l.turn;
}
