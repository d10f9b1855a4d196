-- Runs of an order of items: each item is executed by its thread, on its path.
use Rattle.std.specs.Prelude.{◌≡◌, ℕ, Bool, List, [], ◌∷◌, map, IsTrue}
use Rattle.lw_base.specs.Outcomes.{FinalState}
use Rattle.lw_orders.specs.Order.{IsLinearExtension}
use Rattle.lw_paths.specs.declared.item.Item.{Item}
use Rattle.lw_litmus.specs.Languages.{Language}
use Rattle.lw_paths.specs.Items.{item_at, items_of, constraints_of}

-- A transition system whose transitions execute items: the initial state, the transition of an item (`Carried`), which states
-- are final, and the outcome of each.
pub record ItemTransitionSystem (State : Type 0) : Type 1 where
  pub start : State
  pub Carried : Item → State → State → Type 0
  pub is_final : State → Bool
  pub outcome_of : State → FinalState

module _ {State : Type 0} (system : ItemTransitionSystem State) where
  -- These items, executed in sequence, lead from one state to another.
  abbrev pub ItemsRunTo : List Item → State → State → Type 0
  ItemsRunTo [] s end = end ≡ s
  ItemsRunTo (a ∷ items) s end = (next : State) × system.Carried a s next × ItemsRunTo items next end

  -- The items of an order, executed in sequence, lead from one state to another.
  abbrev pub OrderRunsTo : List Item → List ℕ → State → State → Type 0
  OrderRunsTo items order = ItemsRunTo (map (item_at items) order)

  -- An order of items leads from the initial state, each thread along its path, to a final state with this outcome.
  pub record FollowsPathsToEnd (items : List Item) (order : List ℕ) (o : FinalState) : Type 0 where
    pub end : State
    pub ran : OrderRunsTo items order system.start end
    pub final : IsTrue (system.is_final end)
    pub outcome_is : o ≡ system.outcome_of end

  -- The outcome is one of a path assignment: that of a linear extension of its items.
  pub record IsAssignmentOutcome {S : Type 0} (language : Language S) (program : List (List S)) (paths : List (List ℕ)) (o : FinalState) : Type 0 where
    pub order : List ℕ
    pub keeps : IsLinearExtension (constraints_of language program (items_of language program paths)) order
    pub run : FollowsPathsToEnd (items_of language program paths) order o
