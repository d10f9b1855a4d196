-- Proves `Orders::with_unordered`, which creates the iterator. At the first pair, with no pair reversed, the
-- remaining orders are all of them (`from_reversals-start`, in `remaining_orders-at_start`); and the search's invariant holds with the table
-- of the preserved pairs, which have no cycle.
use Rattle.lw_orders.proofs.Common.{CanBeSearched, false, Some, arith, ◌≡◌, ◌+◌, ◌≤◌, length, get_or}
use Rattle.lw_orders.proofs.Common.{replicate, ap, ◌∙◌, sym, subst, refl, pow_mono, orientation_count}
use Rattle.lw_orders.proofs.Common.{length-replicate, most_items, most_unordered, most_orders}
use Rattle.lw_orders.proofs.Common.{unordered_conflicts, Constraints, AreAscending, orders, ArePredecessors}
use Rattle.lw_orders.proofs.Common.{EdgesAreIn, AreNeighbours, remaining_orders}
use Rattle.lw_orders.proofs.api.Complete.{AreInRange-up, unordered_conflicts-ascending, length-orders_le}
use Rattle.lw_orders.proofs.SearchInvariant.{get_or-replicate_false, IsSearchState-start}
use Rattle.lw_orders.proofs.SearchInvariant.{from_reversals-start, HasSearchTables-start}
use Rattle.lw_orders.proofs.orders.Orders.with_unordered.Given.{Over}
use Rattle.lw_orders.proofs.orders.Orders.with_unordered.Goals.{In_ok-neighbours}
use Rattle.lw_orders.proofs.orders.Orders.with_unordered.Goals as goal

module _ (g : Over) (c : In_ok-neighbours g) where
  -- The copied pairs are the preserved pairs of the items.
  preserved-copied : c.in_ok-preserved.preserved.items ≡ c.args.items.now.preserved
  preserved-copied = c.in_ok-preserved.ensures.items ∙ (c.deref-2.ensures.value ∙ ap (λ t. t.preserved) c.items.view_is)

  -- The length read is the number of items.
  len-read : c.items.inside.len ≡ c.args.items.now.len
  len-read = ap (λ (t : Constraints). t.len) c.items.view_is

  -- The count read is the number of unordered pairs.
  count-read : c.len.result ≡ length c.args.unordered.items
  count-read = c.len.ensures ∙ c.args.unordered.ok.0

  -- No pair is reversed.
  reversals-at_start : c.in_ok-reversals.reversals.items ≡ replicate c.len.result false
  reversals-at_start = c.in_ok-reversals.ensures.items_if_clones_equal (λ y e. e)

  -- The orders that remain at the start are all orders of the items.
  remaining_orders-at_start : remaining_orders (Some 0) c.items.inside.len c.in_ok-preserved.preserved.items
      c.args.unordered.items c.in_ok-reversals.reversals.items
      ≡ orders c.args.items.now
  remaining_orders-at_start =
      from_reversals-start c.items.inside.len _ c.args.unordered.items c.in_ok-reversals.reversals.items
      (ap length reversals-at_start ∙ (length-replicate c.len.result false ∙ count-read))
      (ap (λ ws. get_or ws 0 false) reversals-at_start ∙ get_or-replicate_false c.len.result)
      ∙ rw (len-read, preserved-copied, c.requires.unordered) refl

-- The search is at the first pair, its tables are filled, and no orientation was tried.
pub invariant_of-result : goal.invariant_of-result
invariant_of-result g c =
    let d = (goal.at.invariant_of-result g c).In_ok-neighbours in
    let are = c.requires.well_formed in
    let preserved = sym (c.in_ok-preserved.ensures.items ∙ c.deref-2.ensures.value) in
    let preserved_up : AreAscending c.items.inside.len c.in_ok-preserved.preserved.items =
    subst (AreAscending c.items.inside.len) preserved c.items.invariant.preserved_up in
    let unordered_up : AreAscending c.items.inside.len c.args.unordered.items =
    rw (len-read g d, c.requires.unordered) (unordered_conflicts-ascending are) in
    let unordered_bounded : length (unordered_conflicts c.args.items.now) ≤ most_unordered =
    rw (c.requires.unordered) at c.requires.bounded in
    let few_reversals : orientation_count c.args.items.now ≤ most_orders = pow_mono unordered_bounded in
    let can : CanBeSearched c.items.inside.len c.in_ok-preserved.preserved.items c.args.unordered.items = record {
      bounded = c.items.invariant.bounded;
      unordered_bounded = c.requires.bounded;
      preserved_up = preserved_up;
      unordered_up = unordered_up;
    } in
    record {
      is_search_state =
          IsSearchState-start c.args.reach.now c.len.result can (count-read g d) (reversals-at_start g d)
          (c.in_ok-chosen.ensures.items ∙ c.deref.ensures.value)
          (c.in_ok-saved.ensures ∙ ap (λ n. replicate (n + 1) c.args.reach.now) (c.len-2.ensures ∙ sym c.len.ensures))
          (rw (len-read g d, preserved-copied g d) c.requires.reach);
      tabled = HasSearchTables-start c.predecessors_of.result c.neighbours_of-neighbours.result can (record {
        copies = c.in_ok-tables.ensures;
        predecessors =
            subst (λ ps. ArePredecessors most_items ps c.predecessors_of.result) (c.deref-3.ensures.value ∙ preserved)
            c.predecessors_of.ensures;
        first = c.in_ok-neighbours.ensures.sets;
        long = c.in_ok-neighbours.ensures.long;
        preserved_are_edges =
            subst (λ ps. EdgesAreIn ps c.neighbours_of-neighbours.result) (c.deref-4.ensures.value ∙ preserved)
            c.neighbours_of-neighbours.ensures.preserved;
        unordered_are_neighbours =
            subst (λ ps. AreNeighbours ps c.neighbours_of-neighbours.result) c.deref-5.ensures.value
            c.neighbours_of-neighbours.ensures.unordered;
      });
      counted = omega (arith, ap length (remaining_orders-at_start g d), length-orders_le are, few_reversals);
    }

pub returns-clause-sequence : goal.returns-clause-sequence
returns-clause-sequence g c = remaining_orders-at_start g (goal.at.returns-clause-sequence g c).In_ok-neighbours

pub predecessors_of-requires : goal.predecessors_of-requires
predecessors_of-requires g c =
    rw c.deref-3.ensures.value
    (AreInRange-up c.items.inside.len most_items _ c.items.invariant.bounded c.items.invariant.preserved_up)

pub neighbours_of-neighbours-requires-clause-preserved : goal.neighbours_of-neighbours-requires-clause-preserved
neighbours_of-neighbours-requires-clause-preserved g c =
    rw c.deref-4.ensures.value (AreInRange-up _ most_items _ c.items.invariant.bounded c.items.invariant.preserved_up)

pub neighbours_of-neighbours-requires-clause-unordered : goal.neighbours_of-neighbours-requires-clause-unordered
neighbours_of-neighbours-requires-clause-unordered g c =
    let are = c.requires.well_formed in
    rw (c.deref-5.ensures.value, c.requires.unordered) (AreInRange-up _ _ _ are.bounded (unordered_conflicts-ascending are))

pub returns-clause-untried : goal.returns-clause-untried
returns-clause-untried g c = (refl, ap length c.requires.unordered)
