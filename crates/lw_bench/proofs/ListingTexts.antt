-- A report or a list of schedules rendered from a listing is that of the set of its outcomes: for any set,
-- and any relation of schedules to outcomes. TestReports applies it to the list of a test.
use Rattle.lw_bench.proofs.Common.{project_state, marked_list_text, IsMarkedList, ◌≡◌, ◌⊎◌, inl, inr, ℕ, ◌<◌}
use Rattle.lw_bench.proofs.Common.{◌↔◌, List, [], ◌∷◌, zero, suc, Some, map, refl, sym, ap, ◌∙◌, subst}
use Rattle.lw_bench.proofs.Common.{slice_get, arith, All, Contains, slice_index_or, Less, same_Some, cases_lt}
use Rattle.lw_bench.proofs.Common.{All-map, All-weaker, slice_get-get_or, slice_get_within}
use Rattle.lw_bench.proofs.Common.{get_or_from_slice_get, TestHead, FinalState, final_state_cmp, Event}
use Rattle.lw_bench.proofs.Common.{OutcomeEntries, outcomes_of, schedules_of, IsStrictlySorted, IsReport}
use Rattle.lw_bench.proofs.Common.{IsScheduleList, report_text, schedule_list_text, scheduled, ProjectedState}
use Rattle.lw_bench.proofs.Common.{AreStatesOf, IsSmallestOf, ListedState, projection_of, IsFirstWithWords}
use Rattle.lw_bench.proofs.Common.{AreListedStates, Claim}

-- If the words of a set's outcomes are those of the listed ones, which are of the set, the states of the listed ones are those of the set.
module _ (head : TestHead) (Has : FinalState → Type 0) (outcomes : List FinalState)
    (sound : (o : FinalState) → Contains outcomes o → Has o)
    (covered : (o : FinalState)
    → Has o
    → (p : FinalState) × Contains outcomes p × (project_state head p ≡ project_state head o)) where
  -- The states of the listing's outcomes are those of the set of its outcomes.
  AreStatesOf-AreListedStates : (states : List ProjectedState)
      → AreStatesOf head (Contains outcomes) states
      → AreStatesOf head Has states
  AreStatesOf-AreListedStates states are = record {
    sorted = are.sorted;
    exactly = λ s. (
      (λ c. let e = (are.exactly s).0 c in (e.0, sound e.0 e.1, e.2)),
      (λ h. let p = covered h.0 h.1 in (are.exactly s).1 (p.0, p.1, p.2 ∙ h.2)),
    );
  }

  -- A report of the states of a listing is the report of the set of its outcomes.
  pub IsReport-of_listing : (claim : Claim) (states : List ListedState) (text : List ℕ)
      → AreListedStates head outcomes states
      → text ≡ report_text head claim (map projection_of states)
      → IsReport head Has claim text
  IsReport-of_listing claim states text listed is = record {
    states = map projection_of states;
    states_are = AreStatesOf-AreListedStates (map projection_of states) listed.states_are;
    text_is = is;
  }

  -- A list of the marked states of a listing is that of the set of its outcomes.
  pub IsMarkedList-of_listing : (states : List ListedState) (text : List ℕ)
      → AreListedStates head outcomes states
      → text ≡ marked_list_text head (map projection_of states)
      → IsMarkedList head Has text
  IsMarkedList-of_listing states text listed is = record {
    states = map projection_of states;
    states_are = AreStatesOf-AreListedStates (map projection_of states) listed.states_are;
    text_is = is;
  }

module _ (head : TestHead) (Has : FinalState → Type 0) (entries : OutcomeEntries)
    (same : (o : FinalState) → Contains (outcomes_of entries) o ↔ Has o) where
  module _ (sorted : IsStrictlySorted entries) where
    -- Of two outcomes of a sorted listing the later is greater.
    later_outcome_greater : (i j : ℕ) (o other : FinalState)
        → slice_get (outcomes_of entries) i ≡ Some o
        → slice_get (outcomes_of entries) j ≡ Some other
        → i < j
        → final_state_cmp o other ≡ Less
    later_outcome_greater i j o other at to lt =
        let first = get_or_from_slice_get (outcomes_of entries) i o o at in
        let later = get_or_from_slice_get (outcomes_of entries) j other o to in
        (λ k. final_state_cmp (sym first k) (sym later k)) ∙ sorted i j o lt (slice_get_within _ j other to)

    -- An outcome of a sorted listing is equal to, or less than, one that is not before it.
    earlier_outcome_at_most : (i j : ℕ) (o other : FinalState)
        → slice_get (outcomes_of entries) i ≡ Some o
        → slice_get (outcomes_of entries) j ≡ Some other
        → (j < i → ⊥)
        → (o ≡ other) ⊎ (final_state_cmp o other ≡ Less)
    earlier_outcome_at_most i j o other at to none = elim (cases_lt i j) [
      | inl lt ↦ inr (later_outcome_greater i j o other at to lt)
      | inr le ↦ elim (cases_lt j i) [
        | inl before ↦ absurd (none before)
        | inr ge ↦
            let here : i ≡ j = omega arith in inl (same_Some o other (sym at ∙ ap (slice_get (outcomes_of entries)) here ∙ to))
      ]
    ]

    -- The first outcome of the listing with a state is the least of the set with it.
    IsSmallestOf-first_in_listing : (s : ListedState) (shows : IsFirstWithWords head (outcomes_of entries) s)
        → IsSmallestOf head Has s.words shows.outcome
    IsSmallestOf-first_in_listing s shows = record {
      has = (same shows.outcome).0 (
        s.entry,
        slice_get_within (outcomes_of entries) s.entry shows.outcome shows.at,
        get_or_from_slice_get (outcomes_of entries) s.entry shows.outcome shows.outcome shows.at,
      );
      shows = ap (λ (x : ProjectedState). x.words) shows.shows;
      least = λ other has words.
          let c = (same other).1 has in
          let to = slice_get-get_or (outcomes_of entries) c.0 other c.1 ∙ ap Some c.2 in
          earlier_outcome_at_most s.entry c.0 shows.outcome other shows.at to (λ before. shows.first c.0 other before to words);
    }

    module _ (Leads : List Event → FinalState → Type 0) (lead : All (λ e. Leads e.1 e.0) entries) where
      -- The schedule of the entry at an index reaches the outcome of that entry.
      Leads-of_entry : (i : ℕ) (o : FinalState)
          → slice_get (outcomes_of entries) i ≡ Some o
          → Leads (slice_index_or (schedules_of entries) i []) o
      Leads-of_entry i o at = go entries i lead at
        where
          -- By induction on the entries: at each index the schedule reaches the outcome of the entry.
          go : (es : OutcomeEntries) (k : ℕ)
              → All (λ e. Leads e.1 e.0) es
              → slice_get (outcomes_of es) k ≡ Some o
              → Leads (slice_index_or (schedules_of es) k []) o
          go [] k all at = absurd (omega (arith, slice_get_within (outcomes_of {Kept = List Event} []) k o at))
          go (e ∷ es) zero all at = subst (Leads e.1) (same_Some e.0 o at) (all 0 e (omega arith))
          go (e ∷ es) (suc k) all at = go es k (λ j d lt. all (suc j) d (omega (arith, lt))) at

      -- A list of the schedules of a listing is the list of schedules of the set of its outcomes.
      pub IsScheduleList-of_listing : (states : List ListedState) (text : List ℕ)
          → AreListedStates head (outcomes_of entries) states
          → text ≡ schedule_list_text head (map (scheduled (schedules_of entries)) states)
          → IsScheduleList head Has Leads text
      IsScheduleList-of_listing states text listed is = record {
        states = map (scheduled (schedules_of entries)) states;
        states_are =
            subst (AreStatesOf head Has) (sym (scheduled-states states))
            (AreStatesOf-AreListedStates head Has (outcomes_of entries) (λ o. (same o).0) (λ o h. (o, (same o).1 h, refl)) _
            listed.states_are);
        lead =
            All-map (λ s. (o : FinalState) × IsSmallestOf head Has s.0.words o × Leads s.1 o) (scheduled (schedules_of entries))
            states
            (All-weaker (IsFirstWithWords head (outcomes_of entries)) (λ (s : ListedState).
            (o : FinalState) × IsSmallestOf head Has s.words o × Leads (slice_index_or (schedules_of entries) s.entry []) o)
            (λ s shows. (shows.outcome, IsSmallestOf-first_in_listing s shows, Leads-of_entry s.entry shows.outcome shows.at))
            states listed.entries);
        text_is = is;
      }
        where
          -- Pairing the states with their schedules and then leaving the schedules out gives the states.
          scheduled-states : (ss : List ListedState)
              → map (λ s. s.0) (map (scheduled (schedules_of entries)) ss) ≡ map projection_of ss
          scheduled-states [] = refl
          scheduled-states (s ∷ ss) = ap (λ l. projection_of s ∷ l) (scheduled-states ss)
