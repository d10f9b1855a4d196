-- A search that has expanded all states that it found gives a complete list of outcomes with schedules, or all states that a report shows.
-- The main theorem of this crate, from AllFound.
use Rattle.lw_search.proofs.Common.{IsFinished, ContainsAgreeing, AreSame, IsScheduleOf, ◌≡◌, ◌↔◌, List, []}
use Rattle.lw_search.proofs.Common.{◌∷◌, length, refl, sym, subst, inl, inr, All, Event, FinalState}
use Rattle.lw_search.proofs.Common.{flat_memory, ReplaysTo, IsMachineOutcome, initial_machine_state}
use Rattle.lw_search.proofs.Common.{without_evictions, X86Test, Contains, All-weaker, All-contains}
use Rattle.lw_search.proofs.Common.{not-Contains-nil, Contains-head, Contains-tail, Contains-cons}
use Rattle.lw_search.proofs.Common.{IsListedOutcome, OutcomeEntries, OutcomesWith, outcomes_of, Mesi}
use Rattle.lw_search.proofs.Common.{Protocol, ReplaysToOverCaches, OutcomeOverCaches}
use Rattle.lw_search.proofs.Common.{without_evictions-flat_run, State, Components, FoundStates}
use Rattle.lw_search.proofs.Common.{SearchInvariant, CollectsAll, LeadsTo, HasOutcomeShape, All-map}
use Rattle.lw_search.proofs.Common.{IsComplete, ListsAgreeing, Contains-entry_of_outcome}
use Rattle.lw_search.proofs.AllFound.{final_state-found}

module _ (test : X86Test)
    (replay : (protocol : Protocol) (events : List Event) (o : FinalState)
    → without_evictions events ≡ events
    → ReplaysToOverCaches protocol test events o ↔ ReplaysTo flat_memory test test.head.init_words events o)
    (of_test : (protocol : Protocol) (events : List Event) (o : FinalState)
    → ReplaysToOverCaches protocol test events o
    → IsListedOutcome test.head (o, events)) where
  -- The initial state of the test.
  start : State
  start = initial_machine_state test test.head.init_words

  -- A run that was found is a replay over caches.
  ReplaysToOverCaches-of_entry : {Kept : Type 0} (Describes : Kept → List Event → Type 0) (protocol : Protocol)
      (e : FinalState × Kept) (leads : LeadsTo Describes test.threads start e)
      → ReplaysToOverCaches protocol test leads.0 e.0
  unfolding start
  ReplaysToOverCaches-of_entry Describes protocol e leads =
      let reached = leads.2 in
      (replay protocol leads.0 e.0
      (without_evictions-flat_run test.threads leads.0 (initial_machine_state test test.head.init_words) reached.0 reached.1)).1 (record {
        end = reached.0;
        ran = reached.1;
        final = reached.2;
        outcome_is = reached.3;
      })

  module _ (Agrees : FinalState → FinalState → Type 0) {Kept : Type 0} (Describes : Kept → List Event → Type 0)
      (flat : (protocol : Protocol) (o : FinalState)
      → OutcomeOverCaches protocol test o ↔ IsMachineOutcome flat_memory test test.head.init_words o) (tables : Components)
      (visited : FoundStates) (finished : IsFinished test tables visited) (entries : OutcomesWith Kept)
      (collected : CollectsAll Agrees Describes test.threads tables visited entries) where
    -- A run from the initial state reaches the outcome of each entry, and the entry represents this run.
    All-LeadsTo : All (LeadsTo Describes test.threads (initial_machine_state test test.head.init_words)) entries
    All-LeadsTo =
        collected.each_leads (initial_machine_state test test.head.init_words) finished.0 (length visited.keys) finished.1

    -- Each listed outcome is one of the test over flat memory.
    reached : (o : FinalState) → Contains (outcomes_of entries) o → IsMachineOutcome flat_memory test test.head.init_words o
    reached o c =
        let e = Contains-entry_of_outcome entries o c in
        let to =
        All-contains (LeadsTo Describes test.threads (initial_machine_state test test.head.init_words)) entries e.0 All-LeadsTo
        e.1 in
        subst (IsMachineOutcome flat_memory test test.head.init_words) e.2
        (to.0, record { end = to.2.0; ran = to.2.1; final = to.2.2; outcome_is = to.2.3 })

    -- For each outcome of the test over flat memory, one is listed that agrees with it.
    covered : (o : FinalState)
        → IsMachineOutcome flat_memory test test.head.init_words o
        → ContainsAgreeing Agrees (outcomes_of entries) o
    covered o (events, h) =
        let all : SearchInvariant test.threads (initial_machine_state test test.head.init_words) tables visited finished.0
        (length finished.0) =
        subst (λ n. SearchInvariant test.threads (initial_machine_state test test.head.init_words) tables visited finished.0 n)
        finished.1.key_count finished.1 in
        let at =
        final_state-found test.threads (initial_machine_state test test.head.init_words) tables visited finished.0 all events
        h.end h.ran h.final in
        subst (ContainsAgreeing Agrees (outcomes_of entries)) (sym h.outcome_is)
        (collected.covered (initial_machine_state test test.head.init_words) finished.0 (length visited.keys) at.0 h.end
        finished.1 at.1 h.final)

    -- For each outcome of the test one is listed that agrees with it, and each listed outcome is one of the test.
    pub lists_agreeing : ListsAgreeing Agrees Describes test entries
    unfolding start
    lists_agreeing = record {
      covered = covered;
      reached = reached;
      flat = flat;
      shapes =
          All-map (HasOutcomeShape test.head.threads (length test.head.locs)) (λ (e : FinalState × Kept). e.0) entries
          (All-weaker (LeadsTo Describes test.threads (initial_machine_state test test.head.init_words))
          (λ (e : FinalState × Kept). HasOutcomeShape test.head.threads (length test.head.locs) e.0)
          (λ e to. (of_test Mesi to.0 e.0 (ReplaysToOverCaches-of_entry Describes Mesi e to)).outcome) entries All-LeadsTo);
      each_leads = All-LeadsTo;
    }

  -- If each outcome of the test is listed, with a schedule, the list is complete.
  pub IsComplete-of_schedules : (entries : OutcomeEntries)
      → ListsAgreeing AreSame IsScheduleOf test entries
      → IsComplete (IsMachineOutcome flat_memory test test.head.init_words) test entries
  unfolding start
  IsComplete-of_schedules entries lists =
      let replays : (protocol : Protocol) → All (λ e. ReplaysToOverCaches protocol test e.1 e.0) entries = λ protocol.
      All-weaker (LeadsTo IsScheduleOf test.threads (initial_machine_state test test.head.init_words))
      (λ e. ReplaysToOverCaches protocol test e.1 e.0) (λ e to.
      subst (λ events. ReplaysToOverCaches protocol test events e.0) (sym to.1)
      (ReplaysToOverCaches-of_entry IsScheduleOf protocol e to)) entries lists.each_leads in
      let has : (o : FinalState) → IsMachineOutcome flat_memory test test.head.init_words o → Contains (outcomes_of entries) o =
      λ o m. (let p = lists.covered o m in subst (Contains (outcomes_of entries)) p.2 p.1) in
      record {
        has_all_outcomes = record {
          exactly = λ o. (lists.reached o, has o);
          over_caches =
              λ protocol o. (λ c. (lists.flat protocol o).1 (lists.reached o c), λ over. has o ((lists.flat protocol o).0 over));
          shapes = lists.shapes;
        };
        replays = replays;
        of_program = All-weaker _ _ (λ e h. of_test Mesi e.1 e.0 h) entries (replays Mesi);
      }
