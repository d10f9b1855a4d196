-- The final states that a report shows, while a search's states are looked at one after another. Used only within the crate.
use Rattle.std.specs.Prelude.{◌≡◌, ◌⊎◌, ◌++◌, ◌∷◌, [], ℕ, Bool, false, List, Some, slice_get, IsTrue, All, Contains}
use Rattle.lw_base.specs.FinalWords.{final_words, ContainsWordsOf}
use Rattle.lw_base.specs.Outcomes.{FinalState}
use Rattle.lw_base.specs.declared.head.Seen.{Seen}
use Rattle.lw_litmus.specs.declared.instr.Instr.{Instr}
use Rattle.lw_memory.specs.Flat.{flat_memory}
use Rattle.lw_outcome_map.specs.Listings.{OutcomesWith, outcomes_of}
use Rattle.lw_tso.specs.Runs.{is_final, machine_outcome}
use Rattle.lw_search.specs.inner.StateKeys.{State, Components, FoundStates}
use Rattle.lw_search.specs.inner.Invariant.{SearchInvariant, LeadsTo, IsOfSomeRun}

-- A set of lists of words, and outcomes that have these words for some names.
pub record ObservedWords : Type 0 where
  pub words : List (List ℕ)
  pub outcomes : OutcomesWith (Unit {0})

-- Each list of words in the set is what one of its outcomes has for these names.
abbrev pub AreObserved : List Seen → ObservedWords → Type 0
AreObserved names observed =
    (i : ℕ) (words : List ℕ) → slice_get observed.words i ≡ Some words
    → (p : FinalState) × Contains (outcomes_of observed.outcomes) p × (final_words names p ≡ words)

-- The set has these words.
abbrev pub HasWords : ObservedWords → List ℕ → Type 0
HasWords observed words = (i : ℕ) × (slice_get observed.words i ≡ Some words)

-- Words were inserted, unless the set has them. If they are not new, the set has them.
pub record InsertsWords (old : ObservedWords) (words : List ℕ) (is_new : Bool) (new : ObservedWords) : Type 0 where
  pub outcomes : new.outcomes ≡ old.outcomes
  pub words_are : (i : ℕ) (others : List ℕ) → slice_get new.words i ≡ Some others → (slice_get old.words i ≡ Some others) ⊎ (others ≡ words)
  pub known : is_new ≡ false → HasWords old words

-- An outcome was appended, and its words were inserted.
pub record InsertsObserved (old : ObservedWords) (words : List ℕ) (o : FinalState) (new : ObservedWords) : Type 0 where
  pub outcomes : new.outcomes ≡ old.outcomes ++ (o, tt) ∷ []
  pub words_are : (i : ℕ) (others : List ℕ) → slice_get new.words i ≡ Some others → (slice_get old.words i ≡ Some others) ⊎ (others ≡ words)

module _ (names : List Seen) (program : List (List Instr)) (tables : Components) (visited : FoundStates) where
  -- If all words were observed, they still are, and the outcome of the state at an index is observed too if the state is final. The new
  -- outcomes include the old ones, and if some run leads to each old outcome, some run leads to each new one.
  pub record ObservesState (at : ℕ) (old new : ObservedWords) : Type 0 where
    pub observed : (start : State) (found : List State) (closed : ℕ) → SearchInvariant program start tables visited found closed
        → AreObserved names old → AreObserved names new
    pub covered : (start : State) (found : List State) (closed : ℕ) (s : State) → SearchInvariant program start tables visited found closed
        → AreObserved names old → slice_get found at ≡ Some s → IsTrue (is_final program s)
        → ContainsWordsOf names (outcomes_of new.outcomes) (machine_outcome flat_memory s)
    pub preserves_outcomes : (o : FinalState) → Contains (outcomes_of old.outcomes) o → Contains (outcomes_of new.outcomes) o
    pub each_leads : (start : State) (found : List State) (closed : ℕ) → SearchInvariant program start tables visited found closed
        → All (LeadsTo IsOfSomeRun program start) old.outcomes → All (LeadsTo IsOfSomeRun program start) new.outcomes
