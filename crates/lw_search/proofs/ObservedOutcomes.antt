-- The states that a report shows: an outcome is kept for each list of words that a final state has for some names. The words of the kept
-- outcomes are those of all final states that were looked at.
use Rattle.lw_search.proofs.Common.{not, true≢false, Register, zero, same_Some, Processor, slice_index}
use Rattle.lw_search.proofs.Common.{get_or_from_slice_get, ObservesState, take, final_word, map, Bool, List}
use Rattle.lw_search.proofs.Common.{if◌then◌else◌, ◌++◌, ◌∷◌, [], ℕ, slice_get, Some, ◌⊎◌, true, inl, ap, sym}
use Rattle.lw_search.proofs.Common.{◌∙◌, false, slice_get-append_cases, inr, OutcomesWith, FinalState, get_or}
use Rattle.lw_search.proofs.Common.{Contains-get_or, All-contains, Contains, outcomes_of, subst, map-append}
use Rattle.lw_search.proofs.Common.{Contains-push, Contains-append_left, All, All-push, Seen, Instr}
use Rattle.lw_search.proofs.Common.{Components, FoundStates, ObservedWords, State, Represents, length, IsTrue}
use Rattle.lw_search.proofs.Common.{is_final, final_words, machine_outcome, flat_memory, InsertsWords}
use Rattle.lw_search.proofs.Common.{InsertsObserved, suc, arith, LeadsTo, IsOfSomeRun, SearchInvariant, ◌<◌}
use Rattle.lw_search.proofs.Common.{slice_get_within, slice_get-in_range, AreObserved, ContainsWordsOf}
use Rattle.lw_search.proofs.Common.{All-nil, ◌+◌, cases_lt, ◌≤◌, CollectsAll, HaveSameWords, ◌≡◌, option_map}
use Rattle.lw_search.proofs.Common.{slice_get-map}
use Rattle.lw_search.proofs.Collected.{MachineRunsTo-found}

-- ---- the words of a state

-- The word of a thread's register in a final state is that of the thread.
pub final_word-register : (s : State) (t r : ℕ) (p : Processor)
    → slice_get s.processors t ≡ Some p
    → slice_index p.regs r ≡ final_word (machine_outcome flat_memory s) (Register t r)
final_word-register s t r p at =
    let f : Processor → List ℕ = λ q. q.regs in
    sym (ap (λ l. slice_index l r)
    (get_or_from_slice_get (map f s.processors) t p.regs [] (slice_get-map f s.processors t ∙ ap (option_map f) at)))

module _ (program : List (List Instr)) (tables : Components) (key : List ℕ) (names : List Seen) where
  -- In each state that the key represents, the first n names have these words.
  abbrev pub AreWordsOfFirst : ℕ → List ℕ → Type 0
  AreWordsOfFirst n words =
      (s : State)
      → Represents tables key s
      → length s.processors ≡ length program
      → words ≡ final_words (take n names) (machine_outcome flat_memory s)

-- ---- inserting

-- Inserting a list of words that may be present adds nothing but this list.
pub word_in-inserted : {X : Type 0} (b : Bool) (ks new : List X) (k : X)
    → new ≡ (if b then ks else (ks ++ k ∷ []))
    → (i : ℕ) (other : X)
    → slice_get new i ≡ Some other
    → (slice_get ks i ≡ Some other) ⊎ (other ≡ k)
word_in-inserted true ks new k e i other at = inl (ap (λ l. slice_get l i) (sym e) ∙ at)
word_in-inserted false ks new k e i other at = elim (slice_get-append_cases ks k other i (ap (λ l. slice_get l i) (sym e) ∙ at)) [
  | inl old ↦ inl old
  | inr last ↦ inr (sym last.1)
]

-- Inserting a list of words that is not new changes nothing.
pub words-unchanged : {X : Type 0} (found is_new : Bool) (ks new : List X) (k : X)
    → is_new ≡ not found
    → is_new ≡ false
    → new ≡ (if found then ks else (ks ++ k ∷ []))
    → new ≡ ks
words-unchanged true is_new ks new k says known e = e
words-unchanged false is_new ks new k says known e = absurd (true≢false (sym says ∙ known))

-- After an entry is appended, its outcome is listed.
pub Contains-appended_outcome : (old new : OutcomesWith (Unit {0})) (o : FinalState)
    → new ≡ old ++ (o, tt) ∷ []
    → Contains (outcomes_of new) o
Contains-appended_outcome old new o grown =
    subst (λ ks. Contains ks o) (sym (ap outcomes_of grown ∙ map-append _ old ((o, tt) ∷ []))) (Contains-push (outcomes_of old) o)

-- Appending an entry preserves the outcomes that are listed.
pub Contains-kept_outcome : (old new : OutcomesWith (Unit {0})) (o p : FinalState)
    → new ≡ old ++ (o, tt) ∷ []
    → Contains (outcomes_of old) p
    → Contains (outcomes_of new) p
Contains-kept_outcome old new o p grown has =
    subst (λ ks. Contains ks p) (sym (ap outcomes_of grown ∙ map-append _ old ((o, tt) ∷ [])))
    (Contains-append_left (outcomes_of old) (o ∷ []) p has)

-- What holds of the old entries and of the new one holds of all.
pub All-appended_entry : (P : FinalState × Unit {0} → Type 0) (old new : OutcomesWith (Unit {0})) (o : FinalState)
    → new ≡ old ++ (o, tt) ∷ []
    → All P old
    → P (o, tt)
    → All P new
All-appended_entry P old new o grown all one = subst (λ es. All P es) (sym grown) (All-push P old (o, tt) all one)

-- ---- one state

module _ (names : List Seen) (program : List (List Instr)) (tables : Components) (visited : FoundStates) where
  -- If the state at an index is not final, to observe it changes nothing.
  pub ObservesState-not_final : (at : ℕ) (key : List ℕ) (observed : ObservedWords)
      → slice_get visited.keys at ≡ Some key
      → ((s : State) → Represents tables key s → length s.processors ≡ length program → IsTrue (is_final program s) → ⊥)
      → ObservesState names program tables visited at observed observed
  ObservesState-not_final at key observed key_at not = record {
    observed = λ start found closed invariant are. are;
    covered = λ start found closed s invariant are found_at final.
        absurd (not s (invariant.represents at key s key_at found_at) (invariant.thread_count at s found_at) final);
    preserves_outcomes = λ p c. c;
    each_leads = λ start found closed invariant all. all;
  }

  -- If the words of the state at an index are observed already, to observe it changes nothing.
  pub ObservesState-known : (at : ℕ) (key words : List ℕ) (is_new : Bool) (old new : ObservedWords)
      → slice_get visited.keys at ≡ Some key
      → ((s : State)
      → Represents tables key s
      → length s.processors ≡ length program
      → words ≡ final_words names (machine_outcome flat_memory s))
      → InsertsWords old words is_new new
      → is_new ≡ false
      → ObservesState names program tables visited at old new
  ObservesState-known at key words is_new old new key_at are_words inserts known =
      let has = inserts.known known in
      let listed : (p : FinalState) → Contains (outcomes_of old.outcomes) p → Contains (outcomes_of new.outcomes) p =
      λ p c. subst (λ es. Contains (outcomes_of es) p) (sym inserts.outcomes) c in
      record {
        observed = λ start found closed invariant are i others there. elim (inserts.words_are i others there) [
          | inl before ↦ let p = are i others before in (p.0, listed p.0 p.1, p.2)
          | inr last ↦ let p = are has.0 words has.1 in (p.0, listed p.0 p.1, p.2 ∙ sym last)
        ];
        covered = λ start found closed s invariant are found_at final.
            let is = are_words s (invariant.represents at key s key_at found_at) (invariant.thread_count at s found_at) in
            let p = are has.0 words has.1 in
            (p.0, listed p.0 p.1, p.2 ∙ is);
        preserves_outcomes = listed;
        each_leads = λ start found closed invariant all.
            subst (λ es. All (LeadsTo IsOfSomeRun program start) es) (sym inserts.outcomes) all;
      }

  -- If the state at an index is final, and its outcome is inserted with its words, the state is observed.
  pub ObservesState-new : (at : ℕ) (key words : List ℕ) (o : FinalState) (old new : ObservedWords)
      → slice_get visited.keys at ≡ Some key
      → ((s : State)
      → Represents tables key s
      → length s.processors ≡ length program
      → words ≡ final_words names (machine_outcome flat_memory s))
      → ((s : State) → Represents tables key s → length s.processors ≡ length program → o ≡ machine_outcome flat_memory s)
      → ((s : State) → Represents tables key s → length s.processors ≡ length program → IsTrue (is_final program s))
      → InsertsObserved old words o new
      → ObservesState names program tables visited at old new
  ObservesState-new at key words o old new key_at are_words is final inserts = record {
    observed = λ start found closed invariant are i others there. elim (inserts.words_are i others there) [
      | inl before ↦
          let p = are i others before in (p.0, Contains-kept_outcome old.outcomes new.outcomes o p.0 inserts.outcomes p.1, p.2)
      | inr last ↦
          let s = state_at start found closed invariant in
          let words_is = are_words s.0 s.1 s.2 in
          (o, added, ap (final_words names) (is s.0 s.1 s.2) ∙ sym words_is ∙ sym last)
    ];
    covered = λ start found closed s invariant are found_at ends.
        let same = is s (invariant.represents at key s key_at found_at) (invariant.thread_count at s found_at) in
        (o, added, ap (final_words names) same);
    preserves_outcomes = λ p c. Contains-kept_outcome old.outcomes new.outcomes o p inserts.outcomes c;
    each_leads = λ start found closed invariant all.
        let s = state_at start found closed invariant in
        let ran = MachineRunsTo-found program start tables visited found closed invariant (suc at) at s.0 (omega arith) s.3 in
        let to : LeadsTo IsOfSomeRun program start (o, tt) = (ran.0, tt, (s.0, ran.1, final s.0 s.1 s.2, is s.0 s.1 s.2)) in
        All-appended_entry (LeadsTo IsOfSomeRun program start) old.outcomes new.outcomes o inserts.outcomes all to;
  }
    where
      -- The new outcomes have o.
      added : Contains (outcomes_of new.outcomes) o
      added = Contains-appended_outcome old.outcomes new.outcomes o inserts.outcomes

      -- The index has a state of those found, which its key represents.
      state_at : (start : State) (found : List State) (closed : ℕ)
          (invariant : SearchInvariant program start tables visited found closed)
          → (s : State) × Represents tables key s × (length s.processors ≡ length program) × (slice_get found at ≡ Some s)
      state_at start found closed invariant =
          let lt : at < length found = subst (λ n. at < n) invariant.key_count (slice_get_within visited.keys at key key_at) in
          let s = slice_get-in_range found at lt in
          (s.0, invariant.represents at key s.0 key_at s.1, invariant.thread_count at s.0 s.1, s.1)

  -- ---- the first states

  -- The final ones of the first n states are observed.
  pub record ObservesFirst (n : ℕ) (observed : ObservedWords) : Type 0 where
    pub words : (start : State) (found : List State) (closed : ℕ)
        → SearchInvariant program start tables visited found closed
        → AreObserved names observed
    pub covered : (start : State) (found : List State) (closed : ℕ) (i : ℕ) (s : State)
        → SearchInvariant program start tables visited found closed
        → i < n
        → slice_get found i ≡ Some s
        → IsTrue (is_final program s)
        → ContainsWordsOf names (outcomes_of observed.outcomes) (machine_outcome flat_memory s)
    pub each_leads : (start : State) (found : List State) (closed : ℕ)
        → SearchInvariant program start tables visited found closed
        → All (LeadsTo IsOfSomeRun program start) observed.outcomes

  -- Of the first 0 states nothing is observed.
  pub ObservesFirst-none : ObservesFirst 0 (record { words = []; outcomes = [] })
  ObservesFirst-none = record {
    words = λ start found closed invariant i words at. absurd cc;
    covered = λ start found closed i s invariant lt at final. absurd (omega (arith, lt));
    each_leads = λ start found closed invariant. All-nil (LeadsTo IsOfSomeRun program start);
  }

  -- If the first n states are observed, and then the state at index n, the first n + 1 are observed.
  pub ObservesFirst-next : (n : ℕ) (old new : ObservedWords)
      → ObservesFirst n old
      → ObservesState names program tables visited n old new
      → ObservesFirst (n + 1) new
  ObservesFirst-next n old new first here = record {
    words = λ start found closed invariant. here.observed start found closed invariant (first.words start found closed invariant);
    covered = λ start found closed i s invariant lt at final. elim (cases_lt i n) [
      | inl less ↦
          (let p = first.covered start found closed i s invariant less at final in (p.0, here.preserves_outcomes p.0 p.1, p.2))
      | inr not ↦
          let same : i ≡ n = omega arith in
          here.covered start found closed s invariant (first.words start found closed invariant)
          (ap (slice_get found) (sym same) ∙ at) final
    ];
    each_leads = λ start found closed invariant.
        here.each_leads start found closed invariant (first.each_leads start found closed invariant);
  }

  -- The outcomes that are observed of all states are collected, in any order, and each at least once.
  pub CollectsAll-of_observed : (n : ℕ) (observed : ObservedWords) (entries : OutcomesWith (Unit {0}))
      → ObservesFirst n observed
      → length visited.keys ≤ n
      → ((e : FinalState × Unit {0}) → Contains entries e → Contains observed.outcomes e)
      → ((o : FinalState) → Contains (outcomes_of observed.outcomes) o → Contains (outcomes_of entries) o)
      → CollectsAll (HaveSameWords names) IsOfSomeRun program tables visited entries
  CollectsAll-of_observed n observed entries first few from complete = record {
    covered = λ start found closed i s invariant at final.
        let lt : i < n = (let h = slice_get_within found i s at in omega (arith, h, few, invariant.key_count)) in
        let p = first.covered start found closed i s invariant lt at final in
        (p.0, complete p.0 p.1, p.2);
    each_leads = λ start found closed invariant k d lt.
        let among = from (get_or entries k d) (Contains-get_or entries k d lt) in
        All-contains (LeadsTo IsOfSomeRun program start) observed.outcomes (get_or entries k d)
        (first.each_leads start found closed invariant) among;
  }
