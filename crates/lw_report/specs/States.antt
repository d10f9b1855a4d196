-- The states of a set of outcomes in a report. A set is a predicate.
use Rattle.std.specs.Prelude.{◌≡◌, ◌≢◌, ◌⊎◌, ◌↔◌, ◌<◌, ℕ, Bool, List, Some, map, slice_get, All, Contains}
use Rattle.std.specs.List.{AllPairs}
use Rattle.std.specs.Cmp.Lexicographic.{slice_cmp}
use Rattle.std.specs.Ordering.{nat_cmp}
use Rattle.std.specs.declared.cmp.Ordering.TheVariants.{Less}
use Rattle.lw_base.specs.Heads.{TestHead}
use Rattle.lw_base.specs.Outcomes.{FinalState, final_state_cmp}
use Rattle.lw_report.specs.Truth.{is_true}
use Rattle.lw_report.specs.Observed.{observed_words}

-- The state of an outcome in a report: its words of the observed names, and whether the test's proposition is true in it.
pub record ProjectedState : Type 0 where
  pub words : List ℕ
  pub holds : Bool

-- The state of an outcome of the test.
abbrev pub project_state : TestHead → FinalState → ProjectedState
project_state head o = record { words = observed_words head o; holds = is_true head.proposition o }

-- The states of a set of outcomes: one for each list of observed words, sorted by the words.
pub record AreStatesOf (head : TestHead) (Has : FinalState → Type 0) (states : List ProjectedState) : Type 0 where
  pub sorted : AllPairs (λ (first : ProjectedState) (later : ProjectedState). slice_cmp nat_cmp first.words later.words ≡ Less) states
  pub exactly : (s : ProjectedState) → Contains states s ↔ ((o : FinalState) × Has o × (project_state head o ≡ s))

-- This is the smallest outcome of a set with these words.
pub record IsSmallestOf (head : TestHead) (Has : FinalState → Type 0) (words : List ℕ) (o : FinalState) : Type 0 where
  pub has : Has o
  pub shows : observed_words head o ≡ words
  pub least : (other : FinalState) → Has other → observed_words head other ≡ words → (o ≡ other) ⊎ (final_state_cmp o other ≡ Less)

-- ---- The states of a list of outcomes.

-- A state with the index of the first outcome with its words, which is the smallest, since a listing is ascending.
pub record ListedState : Type 0 where
  pub words : List ℕ
  pub entry : ℕ
  pub holds : Bool

-- A listed state without its index.
abbrev pub projection_of : ListedState → ProjectedState
projection_of s = record { words = s.words; holds = s.holds }

-- The outcome at the state's index has its words, and none before it has.
pub record IsFirstWithWords (head : TestHead) (outcomes : List FinalState) (s : ListedState) : Type 0 where
  pub outcome : FinalState
  pub at : slice_get outcomes s.entry ≡ Some outcome
  pub shows : project_state head outcome ≡ projection_of s
  pub first : (i : ℕ) (o : FinalState) → i < s.entry → slice_get outcomes i ≡ Some o → observed_words head o ≢ s.words

-- The states of the listed outcomes, each with the index of the first outcome with its words.
pub record AreListedStates (head : TestHead) (outcomes : List FinalState) (states : List ListedState) : Type 0 where
  pub states_are : AreStatesOf head (Contains outcomes) (map projection_of states)
  pub entries : All (IsFirstWithWords head outcomes) states
