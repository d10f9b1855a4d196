-- The number of orders as it is counted, and why the parts of the code reject a path assignment. `totals_are_counted` states that the count
-- of all path assignments is the total of the limits.
use Rattle.std.specs.Prelude.{◌<◌, ◌+◌, ℕ, List, [], ◌∷◌}
use Rattle.lw_litmus.specs.Languages.{Language}
use Rattle.lw_orders.specs.Limits.{most_items, most_orders}
use Rattle.lw_orders.specs.Orientations.{orientation_count}
use Rattle.lw_paths.specs.AssignmentLists.{path_assignments}
use Rattle.lw_paths.specs.Counts.{items_of_assignment, HasTooManyItems}
use Rattle.lw_paths.specs.Items.{items_of, constraints_of}
use Rattle.lw_paths.specs.ReducedPairs.{reduced_constraints_of}
use Rattle.lw_paths.specs.declared.fault.ListFault.{ListFault}
use Rattle.lw_paths.specs.declared.fault.ListFault.TheVariants.{TooManyItems, TooManyOrders, Memory}
use Rattle.lw_paths.specs.declared.item.Item.{Item}

module _ {S : Type 0} (language : Language S) (program : List (List S)) where
  -- The number of orders of a path assignment.
  abbrev pub orders_of_assignment : List (List ℕ) → ℕ
  orders_of_assignment paths = orientation_count (constraints_of language program (items_of language program paths))

  -- The number of orders of path assignments together.
  abbrev pub orders_of : List (List (List ℕ)) → ℕ
  orders_of [] = 0
  orders_of (paths ∷ assignments) = orders_of_assignment paths + orders_of assignments

  -- The number of orders of all path assignments together.
  abbrev pub total_of : ℕ
  total_of = orders_of (path_assignments language program)

  -- The reason for which a path assignment is rejected, after others with this number of orders.
  abbrev pub LimitFaultOfAssignment : ℕ → List (List ℕ) → ListFault → Type 0
  LimitFaultOfAssignment before paths TooManyItems = most_items < items_of_assignment language program paths
  LimitFaultOfAssignment before paths TooManyOrders = most_orders < before + orders_of_assignment paths
  LimitFaultOfAssignment before paths Memory = Unit {0}

  -- The reason for which the items of a path assignment are rejected: there are too many, or memory was refused.
  abbrev pub LimitFaultOfPaths : List (List ℕ) → ListFault → Type 0
  LimitFaultOfPaths paths TooManyItems = most_items < items_of_assignment language program paths
  LimitFaultOfPaths paths TooManyOrders = ⊥
  LimitFaultOfPaths paths Memory = Unit {0}

  -- The reason for which the orders of items are rejected: there are too many, or memory was refused.
  abbrev pub LimitFaultOfOrders : List Item → ListFault → Type 0
  LimitFaultOfOrders items TooManyItems = ⊥
  LimitFaultOfOrders items TooManyOrders = most_orders < orientation_count (reduced_constraints_of language program items)
  LimitFaultOfOrders items Memory = Unit {0}

  -- The reason for which a visit of all path assignments fails.
  abbrev pub LimitFaultOfAssignments : ListFault → Type 0
  LimitFaultOfAssignments TooManyItems = HasTooManyItems language program
  LimitFaultOfAssignments TooManyOrders = most_orders < total_of
  LimitFaultOfAssignments Memory = Unit {0}
