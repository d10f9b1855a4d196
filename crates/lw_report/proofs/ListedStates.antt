-- The states of a list of outcomes, one for each. For `project_outcomes` and `states_of`: sorted and without
-- duplicates they are the states of the report.
use Rattle.lw_report.proofs.Common.{◌≡◌, ℕ, ◌+◌, ◌<◌, inl, inr, List, [], ◌∷◌, ◌++◌, length, map, get_or}
use Rattle.lw_report.proofs.Common.{refl, sym, ap, ◌∙◌, subst, arith, All, Contains, Some, slice_get}
use Rattle.lw_report.proofs.Common.{IsPermutation, AllPairs, nat_cmp, Less, slice_cmp, cases_lt, get_or-map}
use Rattle.lw_report.proofs.Common.{length-map, All-push, All-contains, All-get_or, Contains-append_left}
use Rattle.lw_report.proofs.Common.{Contains-push, Contains-get_or, All-permutation, Contains-permutation}
use Rattle.lw_report.proofs.Common.{same_Some, slice_get_within, slice_get-get_or, get_or_from_slice_get}
use Rattle.lw_report.proofs.Common.{TestHead, FinalState, HasOutcomeShape, MentionsOnly, OutcomesWith}
use Rattle.lw_report.proofs.Common.{outcomes_of, state_at, Shows, AreStatesOfFirst, AreFirstStates}
use Rattle.lw_report.proofs.Common.{observed_words, ProjectedState, ListedState, project_state, projection_of}
use Rattle.lw_report.proofs.Common.{IsFirstWithWords, AreListedStates, is_true}
use Rattle.lw_report.proofs.Truths.{is_true-same_observed_words}

-- ---- The outcomes of entries.

-- If all outcomes of a listing have the test's numbers of threads and locations, so does the one at index k.
pub HasOutcomeShape-of_entry : {Kept : Type 0} (head : TestHead) (entries : OutcomesWith Kept) (k : ℕ) (o : FinalState)
    → All (HasOutcomeShape head.threads (length head.locs)) (outcomes_of entries)
    → slice_get (outcomes_of entries) k ≡ Some o
    → HasOutcomeShape head.threads (length head.locs) o
HasOutcomeShape-of_entry head entries k o each at =
    let P : FinalState → Type 0 = HasOutcomeShape head.threads (length head.locs) in
    subst P (get_or_from_slice_get _ k o o at) (All-get_or P _ k o (slice_get_within _ k o at) each)

-- ---- One state for each outcome.

module _ (head : TestHead) (outcomes : List FinalState) where
  -- If the states are those of the first `count` outcomes, and o is the next one, appending its state gives those of one more.
  pub AreStatesOfFirst-push : {count : ℕ} {states after : List ListedState} {o : FinalState}
      → AreStatesOfFirst head outcomes count states
      → slice_get outcomes count ≡ Some o
      → after ≡ states ++ state_at head count o ∷ []
      → AreStatesOfFirst head outcomes (count + 1) after
  AreStatesOfFirst-push {count = count} {states = states} {o = o} are at e =
      subst (AreStatesOfFirst head outcomes (count + 1)) (sym e) (record {
        shows = All-push (Shows head outcomes) states x are.shows (record { outcome = o; at = at; shows = refl });
        each = Contains-state_of_outcome;
      })
    where
      -- The state of the next outcome.
      x : ListedState
      x = state_at head count o

      -- The longer list has the state of each of the outcomes.
      Contains-state_of_outcome : (i : ℕ) (p : FinalState)
          → i < count + 1
          → slice_get outcomes i ≡ Some p
          → Contains (states ++ state_at head count o ∷ []) (state_at head i p)
      Contains-state_of_outcome i p lt there = elim (cases_lt i count) [
        | inl before ↦ Contains-append_left states _ (state_at head i p) (are.each i p before there)
        | inr le ↦
            let same : count ≡ i = omega (arith, lt, le) in
            let is : o ≡ p = same_Some o p (sym at ∙ ap (slice_get outcomes) same ∙ there) in
            let whole = ap (λ (n : ℕ). state_at head n o) same ∙ ap (state_at head i) is in
            subst (Contains (states ++ state_at head count o ∷ [])) whole (Contains-push states _)
      ]

  -- Sorting preserves that states are those of the first `count` outcomes.
  pub AreStatesOfFirst-sorted : (count : ℕ) (states sorted : List ListedState)
      → IsPermutation states sorted
      → AreStatesOfFirst head outcomes count states
      → AreStatesOfFirst head outcomes count sorted
  AreStatesOfFirst-sorted count states sorted p are = record {
    shows = All-permutation (Shows head outcomes) states sorted p are.shows;
    each = λ i o lt e. Contains-permutation states sorted (state_at head i o) p (are.each i o lt e);
  }

-- ---- The states without their indices.

module _ (states : List ListedState) where
  -- If a list has a state, the list without indices has it without its index.
  Contains-projection : (s : ListedState) → Contains states s → Contains (map projection_of states) (projection_of s)
  Contains-projection s h =
      let within : h.0 < length (map projection_of states) = omega (arith, h.1, length-map states projection_of) in
      (h.0, within, get_or-map projection_of states h.0 s (projection_of s) h.1 ∙ ap projection_of h.2)

  -- If the list without indices has a state, the list has a state that is it, with an index.
  Contains-projection_inv : (s : ProjectedState)
      → Contains (map projection_of states) s
      → (t : ListedState) × Contains states t × (projection_of t ≡ s)
  Contains-projection_inv s h =
      let d : ListedState = record { words = s.words; entry = 0; holds = s.holds } in
      let within : h.0 < length states = omega (arith, h.1, length-map states projection_of) in
      (get_or states h.0 d, Contains-get_or _ h.0 d within, sym (get_or-map _ states h.0 d s within) ∙ h.2)

  -- If states are sorted by their words, so are the states without their indices.
  AllPairs-projections : AllPairs (λ (first later : ListedState). slice_cmp nat_cmp first.words later.words ≡ Less) states
      → AllPairs (λ (first later : ProjectedState). slice_cmp nat_cmp first.words later.words ≡ Less) (map projection_of states)
  AllPairs-projections up i j d less lt =
      let e : ListedState = record { words = d.words; entry = 0; holds = d.holds } in
      let within : j < length states = omega (arith, lt, length-map states projection_of) in
      rw (get_or-map projection_of states i e d (omega (arith, less, within)), get_or-map projection_of states j e d within)
      (up i j e less within)

-- ---- The first state with its words.

module _ (head : TestHead) (outcomes : List FinalState) (all states : List ListedState)
    (speaks : MentionsOnly head.threads (length head.locs) head.proposition)
    (are : AreStatesOfFirst head outcomes (length outcomes) all) (firsts : AreFirstStates all states) where
  -- If an outcome is listed, its state is one of the first states.
  Contains-projection_of_outcome : (o : FinalState)
      → Contains outcomes o
      → Contains (map projection_of states) (project_state head o)
  Contains-projection_of_outcome o h =
      let at : slice_get outcomes h.0 ≡ Some o = slice_get-get_or outcomes h.0 o h.1 ∙ ap Some h.2 in
      let found = firsts.each (state_at head h.0 o) (are.each h.0 o h.1 at) in
      let s : ListedState = found.0 in
      let from : Shows head outcomes s =
      All-contains (Shows head outcomes) all s are.shows (All-contains (λ t. Contains all t) states s firsts.among found.1) in
      let words : observed_words head from.outcome ≡ observed_words head o =
      ap (λ (t : ProjectedState). t.words) from.shows ∙ found.2 in
      let truth : is_true head.proposition from.outcome ≡ is_true head.proposition o =
      is_true-same_observed_words head from.outcome o speaks words in
      let same : project_state head from.outcome ≡ project_state head o = cc in
      subst (Contains (map projection_of states)) (sym from.shows ∙ same) (Contains-projection states s found.1)

  -- If a state is in the list, it is that of the outcome at its index.
  Shows-each_state : (s : ListedState) → Contains states s → Shows head outcomes s
  Shows-each_state s h =
      All-contains (Shows head outcomes) all s are.shows (All-contains (λ t. Contains all t) states s firsts.among h)

  -- Each state without its index is that of a listed outcome.
  from_outcome : (s : ProjectedState)
      → Contains (map projection_of states) s
      → (o : FinalState) × Contains outcomes o × (project_state head o ≡ s)
  from_outcome s h =
      let found = Contains-projection_inv states s h in
      let from : Shows head outcomes found.0 = Shows-each_state found.0 found.1 in (
        from.outcome,
        (
          found.0.entry,
          slice_get_within outcomes found.0.entry from.outcome from.at,
          get_or_from_slice_get outcomes found.0.entry from.outcome from.outcome from.at,
        ),
        from.shows ∙ found.2,
      )

  -- The index of each state is that of the first outcome with its words.
  IsFirstWithWords-each_state : All (IsFirstWithWords head outcomes) states
  IsFirstWithWords-each_state k d lt =
      let s : ListedState = get_or states k d in
      let from : Shows head outcomes s = Shows-each_state s (Contains-get_or states k d lt) in
      record {
        outcome = from.outcome;
        at = from.at;
        shows = from.shows;
        first = λ i o before at e.
            let le = firsts.smallest k d lt (state_at head i o) (are.each i o (slice_get_within outcomes i o at) at) e in
            omega (arith, le, before);
      }

  -- The first states with their words, of those of all outcomes, are the states of the listed outcomes.
  pub AreListedStates-first_states : AreListedStates head outcomes states
  AreListedStates-first_states = record {
    states_are = record {
      sorted = AllPairs-projections states firsts.sorted;
      exactly =
          λ s. (from_outcome s, λ o. subst (Contains (map projection_of states)) o.2 (Contains-projection_of_outcome o.0 o.1));
    };
    entries = IsFirstWithWords-each_state;
  }
