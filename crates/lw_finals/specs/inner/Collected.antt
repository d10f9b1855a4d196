-- Collecting the outcomes of runs of orders, each with what is kept for it. Used only within the crate.
use Rattle.std.specs.Prelude.{◌≡◌, ℕ, Bool, true, false, All, Contains, List}
use Rattle.lw_base.specs.Outcomes.{FinalState}
use Rattle.lw_orders.specs.Sequence.{orders}
use Rattle.lw_paths.specs.declared.item.Item.{Item}
use Rattle.lw_paths.specs.AssignmentLists.{path_assignments}
use Rattle.lw_litmus.specs.Languages.{Language}
use Rattle.lw_paths.specs.Items.{items_of}
use Rattle.lw_paths.specs.ReducedPairs.{reduced_constraints_of}
use Rattle.lw_outcome_map.specs.Listings.{OutcomesWith, outcomes_of}

-- What a contract sees of a runner: a test, and the outcome of its last run.
pub record RunnerState (Test : Type 0) : Type 0 where
  pub test : Test
  pub end : FinalState

-- The result of a run: if it is `true`, `end` is an outcome of the order, and its only one; if `false`, the order has none.
abbrev pub RunResult : (FinalState → Type 0) → Bool → FinalState → Type 0
RunResult Ends true end = Ends end × ((o : FinalState) → Ends o → o ≡ end)
RunResult Ends false end = (o : FinalState) → Ends o → ⊥

-- Entries have grown from `old` to `new`: all outcomes are now among them, the old ones still are, and if each old value leads to its
-- outcome, so does each new one.
pub record CollectsOutcomes {Kept : Type 0} (Ends : FinalState → Type 0) (Leads : Kept → FinalState → Type 0) (old new : OutcomesWith Kept) : Type 0 where
  pub covered : (o : FinalState) → Ends o → Contains (outcomes_of new) o
  pub preserves_outcomes : (o : FinalState) → Contains (outcomes_of old) o → Contains (outcomes_of new) o
  pub each_leads : All (λ e. Leads e.1 e.0) old → All (λ e. Leads e.1 e.0) new

-- The outcomes of one of several orders, or of one of several path assignments.
abbrev pub OutcomesOfOne : {X : Type 0} → (X → FinalState → Type 0) → List X → FinalState → Type 0
OutcomesOfOne {X} Ends xs o = (x : X) × Contains xs x × Ends x o

module _ {S : Type 0} (language : Language S) (Ends : List Item → List ℕ → FinalState → Type 0) (program : List (List S)) where
  -- The outcomes of the enumerated orders of items.
  abbrev pub OutcomesOfItems : List Item → FinalState → Type 0
  OutcomesOfItems items = OutcomesOfOne (Ends items) (orders (reduced_constraints_of language program items))

  -- The outcomes of the enumerated orders of a path assignment's items.
  abbrev pub OutcomesOfAssignment : List (List ℕ) → FinalState → Type 0
  OutcomesOfAssignment paths = OutcomesOfItems (items_of language program paths)

  -- The outcomes of the enumerated orders of all path assignments.
  abbrev pub OutcomesOfProgram : FinalState → Type 0
  OutcomesOfProgram = OutcomesOfOne OutcomesOfAssignment (path_assignments language program)
