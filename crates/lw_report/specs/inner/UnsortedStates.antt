-- How the states of a listing are made: one for each outcome, then sorted, then the first of those with the same words. Used only within
-- the crate.
use Rattle.std.specs.Prelude.{◌≡◌, ℕ, ◌<◌, ◌≤◌, List, Some, slice_get, All, Contains}
use Rattle.std.specs.List.{AllPairs}
use Rattle.std.specs.Cmp.Lexicographic.{slice_cmp}
use Rattle.std.specs.Ordering.{nat_cmp, bool_cmp, ordering_then}
use Rattle.std.specs.declared.cmp.Ordering.{Ordering}
use Rattle.std.specs.declared.cmp.Ordering.TheVariants.{Less}
use Rattle.lw_base.specs.Heads.{TestHead}
use Rattle.lw_base.specs.Outcomes.{FinalState}
use Rattle.lw_report.specs.Observed.{observed_words}
use Rattle.lw_report.specs.States.{ListedState, project_state, projection_of}
use Rattle.lw_report.specs.Truth.{is_true}

-- The state of an outcome: its observed words, its index in the listing, and whether the proposition is true in it.
abbrev pub state_at : TestHead → ℕ → FinalState → ListedState
state_at head entry o = record { words = observed_words head o; entry = entry; holds = is_true head.proposition o }

-- The outcome at the state's index in the listing has this state.
pub record Shows (head : TestHead) (outcomes : List FinalState) (s : ListedState) : Type 0 where
  pub outcome : FinalState
  pub at : slice_get outcomes s.entry ≡ Some outcome
  pub shows : project_state head outcome ≡ projection_of s

-- The states of the first `count` outcomes of a list, one for each outcome, in any order.
pub record AreStatesOfFirst (head : TestHead) (outcomes : List FinalState) (count : ℕ) (states : List ListedState) : Type 0 where
  pub shows : All (Shows head outcomes) states
  pub each : (i : ℕ) (o : FinalState) → i < count → slice_get outcomes i ≡ Some o → Contains states (state_at head i o)

-- The order of states: by their words, then by the indices of their outcomes.
abbrev pub state_cmp : ListedState → ListedState → Ordering
state_cmp s t = ordering_then (slice_cmp nat_cmp s.words t.words) (ordering_then (nat_cmp s.entry t.entry) (bool_cmp s.holds t.holds))

-- `states` are those of `all` with the smallest index among the states with the same words, sorted by the words.
pub record AreFirstStates (all states : List ListedState) : Type 0 where
  pub sorted : AllPairs (λ (first later : ListedState). slice_cmp nat_cmp first.words later.words ≡ Less) states
  pub among : All (λ s. Contains all s) states
  pub smallest : All (λ (s : ListedState). (t : ListedState) → Contains all t → t.words ≡ s.words → s.entry ≤ t.entry) states
  pub each : (t : ListedState) → Contains all t → (s : ListedState) × Contains states s × (s.words ≡ t.words)
