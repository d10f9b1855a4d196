-- The number of orders of a test, and the limits of lists.
use Rattle.std.specs.Prelude.{◌≡◌, ◌<◌, ◌≤◌, ◌+◌, ◌↔◌, ℕ, List, [], ◌∷◌, length, Contains}
use Rattle.lw_base.specs.Lists.{IsDuplicateFree}
use Rattle.lw_litmus.specs.Languages.{Language}
use Rattle.lw_orders.specs.Order.{HasOrientationCount}
use Rattle.lw_orders.specs.Limits.{most_items, most_orders}
use Rattle.lw_paths.specs.PathAssignments.{IsPathAssignment}
use Rattle.lw_paths.specs.Items.{items_of, constraints_of}
use Rattle.lw_paths.specs.declared.fault.ListFault.{ListFault}
use Rattle.lw_paths.specs.declared.fault.ListFault.TheVariants.{TooManyItems, TooManyOrders, Memory}

module _ {S : Type 0} (language : Language S) (program : List (List S)) where
  -- The number of items of a path assignment.
  abbrev pub items_of_assignment : List (List ℕ) → ℕ
  items_of_assignment paths = length (items_of language program paths)

  -- The path assignment has this number of orders: of orientations of the unordered conflicts of its items.
  abbrev pub HasOrderCount : List (List ℕ) → ℕ → Type 0
  HasOrderCount paths n = HasOrientationCount (constraints_of language program (items_of language program paths)) n

  -- The path assignments have this number of orders together.
  abbrev pub HaveOrderCounts : List (List (List ℕ)) → ℕ → Type 0
  HaveOrderCounts [] n = n ≡ 0
  HaveOrderCounts (paths ∷ assignments) n = (m : ℕ) × (k : ℕ) × HasOrderCount paths m × HaveOrderCounts assignments k × (n ≡ m + k)

  -- The number n is the sum of the order counts of all path assignments, each counted once.
  pub record IsTotalOrderCount (n : ℕ) : Type 0 where
    pub assignments : List (List (List ℕ))
    pub exactly : (paths : List (List ℕ)) → Contains assignments paths ↔ IsPathAssignment language program paths
    pub without_duplicates : IsDuplicateFree assignments
    pub orders : HaveOrderCounts assignments n

  -- Some path assignment has more items than a list takes.
  abbrev pub HasTooManyItems : Type 0
  HasTooManyItems = (paths : List (List ℕ)) × IsPathAssignment language program paths × (most_items < items_of_assignment paths)

  -- All path assignments together have more orders than a list takes.
  abbrev pub HasTooManyOrders : Type 0
  HasTooManyOrders = (n : ℕ) × IsTotalOrderCount n × (most_orders < n)

  -- All path assignments together have no more orders than a list takes.
  abbrev pub IsWithinOrderLimit : Type 0
  IsWithinOrderLimit = (n : ℕ) × IsTotalOrderCount n × (n ≤ most_orders)

  -- The reason for which there is no list is true: too many items, which is checked first, or too many orders.
  abbrev pub LimitFaultIsTrue : ListFault → Type 0
  LimitFaultIsTrue TooManyItems = HasTooManyItems
  LimitFaultIsTrue TooManyOrders = (HasTooManyItems → ⊥) × HasTooManyOrders
  LimitFaultIsTrue Memory = Unit {0}

  -- No path assignment has too many items, and all together have no more orders than a list takes.
  abbrev pub IsWithinLimits : Type 0
  IsWithinLimits = (HasTooManyItems → ⊥) × IsWithinOrderLimit
