-- The orders of all path assignments are counted, one assignment after another; and a failure states a cause
-- that holds. For `check_orders`, and for every visitor that collects within the limits.
use Rattle.lw_paths.proofs.Common.{◌^◌, ◌-◌, ◌≡◌, ℕ, ◌+◌, ◌<◌, ◌≤◌, List, [], ◌∷◌, length, min, refl, ◌∙◌}
use Rattle.lw_paths.proofs.Common.{inl, inr, arith, All, Contains, orientation_count, most_items, most_orders}
use Rattle.lw_paths.proofs.Common.{ListFault, TooManyItems, TooManyOrders, Memory, Item, JumpsForward}
use Rattle.lw_paths.proofs.Common.{path_assignments, items_of_assignment, orders_of_assignment, orders_of}
use Rattle.lw_paths.proofs.Common.{total_of, HasTooManyItems, LimitFaultOfAssignment, LimitFaultOfOrders}
use Rattle.lw_paths.proofs.Common.{LimitFaultOfAssignments, LimitFaultIsTrue, IsWithinLimits, Language}
use Rattle.lw_paths.proofs.Common.{items_of, constraints_of, VisitsAll, VisitFails}
use Rattle.lw_paths.proofs.api.Enumerated.{Contains-path_assignments}
use Rattle.lw_paths.proofs.api.Members.{Contains-head, Contains-tail, Contains-cons, not-Contains-nil}
use Rattle.lw_paths.proofs.api.Reduced.{orientation_count-reduced}
use Rattle.lw_paths.proofs.api.Totals.{IsTotalOrderCount-total_of}

-- A visitor of path assignments, as the proofs see it: its program, the number of orders that it has counted, and what its visits and
-- failures mean.
pub record VisitorView (S V : Type 0) : Type 1 where
  pub program : V → List (List S)
  pub count : V → ℕ
  pub visits : V → List (List ℕ) → V → Type 0
  pub refuses : V → List (List ℕ) → ListFault → Type 0

module _ {S : Type 0} (language : Language S) where
  -- A visit adds the orders of its path assignment to the total, preserves the program, and stays within the limits.
  abbrev pub Counts : List (List S) → ℕ → List (List ℕ) → List (List S) → ℕ → Type 0
  Counts program before paths after_program after =
      (after_program ≡ program)
      × (items_of_assignment language program paths ≤ most_items)
      × (after ≡ before + orders_of_assignment language program paths)
      × (after ≤ most_orders)

  -- What happens at a path assignment: its items are listed, and are within the limit; its orientations are counted, and added with
  -- saturation.
  pub record Counted (program : List (List S)) (before : ℕ) (paths : List (List ℕ)) (after : ℕ) : Type 0 where
    pub items : List Item
    pub orders : ℕ
    pub items_are : items ≡ items_of language program paths
    pub within_item_limit : length items ≤ most_items
    pub orders_are : orders ≡ orientation_count (constraints_of language program items)
    pub total : after ≡ min (before + orders) (2 ^ 64 - 1)
    pub within_order_limit : after ≤ most_orders

  -- If a path assignment was counted, and its total is within the limit, the total is the sum of the orders before and its own.
  pub Counts-if_counted : (program : List (List S)) (before : ℕ) (paths : List (List ℕ)) (after : ℕ)
      → Counted program before paths after
      → Counts program before paths program after
  Counts-if_counted program before paths after c =
      let same : c.orders ≡ orders_of_assignment language program paths = rw (← c.items_are) c.orders_are in
      (refl, rw c.items_are at c.within_item_limit, omega (arith, c.total, c.within_order_limit, same), c.within_order_limit)

  -- If the saturated sum of a path assignment's orders and those before passes the limit, so does the exact sum.
  pub sum_too_large-if_saturated : (program : List (List S)) (before : ℕ) (paths : List (List ℕ)) {items : List Item}
      {orders total : ℕ}
      → items ≡ items_of language program paths
      → orders ≡ orientation_count (constraints_of language program items)
      → total ≡ min (before + orders) (2 ^ 64 - 1)
      → most_orders < total
      → most_orders < before + orders_of_assignment language program paths
  sum_too_large-if_saturated program before paths {orders = orders} items_are ways sum over =
      let same : orders ≡ orders_of_assignment language program paths = rw (← items_are) ways in omega (arith, sum, over, same)

  -- The cause with which one of some path assignments failed, after `before` orders, holds.
  abbrev FailureHolds : List (List S) → ℕ → List (List (List ℕ)) → ListFault → Type 0
  FailureHolds program before assignments TooManyItems =
      (paths : List (List ℕ)) × Contains assignments paths × (most_items < items_of_assignment language program paths)
  FailureHolds program before assignments TooManyOrders = most_orders < before + orders_of language program assignments
  FailureHolds program before assignments Memory = Unit {0}

  -- If a cause holds of the first path assignment, after the orders before it, it holds of all of them.
  FailureHolds-first : (program : List (List S)) (before : ℕ) (paths : List (List ℕ)) (assignments : List (List (List ℕ)))
      (e : ListFault)
      → LimitFaultOfAssignment language program before paths e
      → FailureHolds program before (paths ∷ assignments) e
  FailureHolds-first program before paths assignments TooManyItems h = (paths, Contains-head paths paths assignments refl, h)
  FailureHolds-first program before paths assignments TooManyOrders h = omega (arith, h)
  FailureHolds-first program before paths assignments Memory h = tt

  -- If a cause holds of the later path assignments, after at most the orders of the first too, it holds of all of them.
  FailureHolds-later : (program : List (List S)) (before after : ℕ) (paths : List (List ℕ)) (assignments : List (List (List ℕ)))
      (e : ListFault)
      → after ≤ before + orders_of_assignment language program paths
      → FailureHolds program after assignments e
      → FailureHolds program before (paths ∷ assignments) e
  FailureHolds-later program before after paths assignments TooManyItems l (p, c, h) = (p, Contains-tail paths p _ c, h)
  FailureHolds-later program before after paths assignments TooManyOrders l h = omega (arith, l, h)
  FailureHolds-later program before after paths assignments Memory l h = tt

  -- ---- the list of path assignments is complete
  module _ (program : List (List S)) (forward : All (JumpsForward language) program) where
    -- If the cause holds of all path assignments, it is a reason why not all can be visited.
    LimitFaultOfAssignments-if_failure : (e : ListFault)
        → FailureHolds program 0 (path_assignments language program) e
        → LimitFaultOfAssignments language program e
    LimitFaultOfAssignments-if_failure TooManyItems (paths, c, h) =
        (paths, (Contains-path_assignments language program paths forward).0 c, h)
    LimitFaultOfAssignments-if_failure TooManyOrders h = omega (arith, h)
    LimitFaultOfAssignments-if_failure Memory h = tt

    -- If no path assignment on the list has too many items, none has.
    pub not-HasTooManyItems-listed : ((paths : List (List ℕ))
        → Contains (path_assignments language program) paths
        → items_of_assignment language program paths ≤ most_items)
        → HasTooManyItems language program
        → ⊥
    not-HasTooManyItems-listed all (paths, is, h) =
        let l : items_of_assignment language program paths ≤ most_items =
        all paths ((Contains-path_assignments language program paths forward).1 is) in
        omega arith

  module _ {V : Type 0} (view : VisitorView S V) where
    -- A visitor whose visits preserve the program and count at most the orders that there are, and whose causes of failure are true.
    pub record GivesReasons : Type 0 where
      -- A visit preserves the program.
      pub preserves_program : (v : V) (paths : List (List ℕ)) (w : V) → view.visits v paths w → view.program w ≡ view.program v
      -- A visit counts at most the orders of its path assignment.
      pub at_most : (v : V) (paths : List (List ℕ)) (w : V)
          → view.visits v paths w
          → view.count w ≤ view.count v + orders_of_assignment language (view.program v) paths
      -- The cause of a failure holds of this path assignment, after the orders counted before.
      pub cause_holds : (v : V) (paths : List (List ℕ)) (e : ListFault)
          → view.refuses v paths e
          → LimitFaultOfAssignment language (view.program v) (view.count v) paths e

    -- A visitor that counts the orders of the path assignments.
    pub record IsCounter : Type 0 where
      -- A visit adds the orders of its path assignment, within the limits.
      pub each : (v : V) (paths : List (List ℕ)) (w : V)
          → view.visits v paths w
          → Counts (view.program v) (view.count v) paths (view.program w) (view.count w)
      -- The cause of a failure holds of this path assignment.
      pub cause_holds : (v : V) (paths : List (List ℕ)) (e : ListFault)
          → view.refuses v paths e
          → LimitFaultOfAssignment language (view.program v) (view.count v) paths e

    -- If a visitor is a counter, its causes of failure hold.
    GivesReasons-counter : IsCounter → GivesReasons
    GivesReasons-counter counter = record {
      preserves_program = λ v paths w h. (let (same, items, orders, within) = counter.each v paths w h in same);
      at_most = λ v paths w h. (let (same, items, orders, within) = counter.each v paths w h in omega (arith, orders));
      cause_holds = counter.cause_holds;
    }

    module _ (program : List (List S)) where
      -- If a visitor states causes that hold, and a visit of some path assignments fails with one, it holds of all of them.
      FailureHolds-visit_fails : GivesReasons
          → (assignments : List (List (List ℕ))) (v : V) (e : ListFault)
          → view.program v ≡ program
          → VisitFails view.visits view.refuses assignments v e
          → FailureHolds program (view.count v) assignments e
      FailureHolds-visit_fails reasons [] v e is h = absurd h
      FailureHolds-visit_fails reasons (paths ∷ assignments) v e is (inl h) =
          FailureHolds-first _ _ paths assignments e (rw is at (reasons.cause_holds v paths e h))
      FailureHolds-visit_fails reasons (paths ∷ assignments) v e is (inr (mid, one, rest)) =
          FailureHolds-later program _ _ paths assignments e (rw is at (reasons.at_most v paths mid one))
          (FailureHolds-visit_fails reasons assignments mid e (reasons.preserves_program v paths mid one ∙ is) rest)

      -- If some path assignments were counted, each has few items, and all together few orders.
      IsWithinLimits-visited : IsCounter
          → (assignments : List (List (List ℕ))) (v w : V)
          → view.program v ≡ program
          → view.count v ≤ most_orders
          → VisitsAll view.visits assignments v w
          → ((paths : List (List ℕ)) → Contains assignments paths → items_of_assignment language program paths ≤ most_items)
          × (view.count v + orders_of language program assignments ≤ most_orders)
      IsWithinLimits-visited counter [] v w is few h = ((λ paths c. absurd (not-Contains-nil paths c)), omega arith)
      IsWithinLimits-visited counter (paths ∷ assignments) v w is few (mid, one, rest) =
          let (same, items, orders, within) = counter.each v paths mid one in
          let more = IsWithinLimits-visited counter assignments mid w (same ∙ is) within rest in (
            (λ p c. elim (Contains-cons paths p assignments c) [
              | inl is_head ↦ rw (← is_head, ← is) items
              | inr in_tail ↦ more.0 p in_tail
            ]),
            omega (arith, more.1, rw is at orders),
          )

      module _ (forward : All (JumpsForward language) program) where
        -- If all path assignments were counted, the program is within the limits.
        pub IsWithinLimits-all_visited : IsCounter
            → (v w : V)
            → view.program v ≡ program
            → view.count v ≡ 0
            → VisitsAll view.visits (path_assignments language program) v w
            → (HasTooManyItems language program → ⊥) × (total_of language program ≤ most_orders)
        IsWithinLimits-all_visited counter v w is none h =
            let all = IsWithinLimits-visited counter (path_assignments language program) v w is (omega (arith, none)) h in
            (not-HasTooManyItems-listed program forward all.0, omega (arith, all.1, none))

        -- If a visitor that states causes that hold fails with one, it is a reason why not all path assignments can be visited.
        pub LimitFaultOfAssignments-visit_fails : GivesReasons
            → (v : V) (e : ListFault)
            → view.program v ≡ program
            → view.count v ≡ 0
            → VisitFails view.visits view.refuses (path_assignments language program) v e
            → LimitFaultOfAssignments language program e
        LimitFaultOfAssignments-visit_fails reasons v e is none h =
            LimitFaultOfAssignments-if_failure program forward e
            (rw none at (FailureHolds-visit_fails reasons (path_assignments language program) v e is h))

        -- If a counter fails with a cause, it is a reason why not all path assignments can be visited.
        pub LimitFaultOfAssignments-counter_fails : IsCounter
            → (v : V) (e : ListFault)
            → view.program v ≡ program
            → view.count v ≡ 0
            → VisitFails view.visits view.refuses (path_assignments language program) v e
            → LimitFaultOfAssignments language program e
        LimitFaultOfAssignments-counter_fails counter = LimitFaultOfAssignments-visit_fails (GivesReasons-counter counter)

  -- If the items of a path assignment are rejected for a cause, it is a cause for this assignment as the first one.
  pub LimitFaultOfAssignment-items_refused : (program : List (List S)) (paths : List (List ℕ)) (e : ListFault)
      → LimitFaultOfOrders language program (items_of language program paths) e
      → LimitFaultOfAssignment language program 0 paths e
  LimitFaultOfAssignment-items_refused program paths TooManyItems h = absurd h
  LimitFaultOfAssignment-items_refused program paths TooManyOrders h =
      omega (arith, h, orientation_count-reduced language program paths)
  LimitFaultOfAssignment-items_refused program paths Memory h = tt

-- If no path assignment has too many items, the cause with which a visit fails is the list's: too many orders, or no memory.
pub LimitFaultIsTrue-of_assignments : {S : Type 0} (language : Language S) (program : List (List S))
    → All (JumpsForward language) program
    → (HasTooManyItems language program → ⊥)
    → (e : ListFault)
    → LimitFaultOfAssignments language program e
    → LimitFaultIsTrue language program e
LimitFaultIsTrue-of_assignments language program forward few TooManyItems h = h
LimitFaultIsTrue-of_assignments language program forward few TooManyOrders h =
    (few, (total_of language program, IsTotalOrderCount-total_of language program forward, h))
LimitFaultIsTrue-of_assignments language program forward few Memory h = tt

-- If no path assignment has too many items, and the total of orders is within its limit, the program is within the limits.
pub IsWithinLimits-of_total : {S : Type 0} (language : Language S) (program : List (List S))
    → All (JumpsForward language) program
    → (HasTooManyItems language program → ⊥)
    → total_of language program ≤ most_orders
    → IsWithinLimits language program
IsWithinLimits-of_total language program forward few within =
    (few, (total_of language program, IsTotalOrderCount-total_of language program forward, within))
