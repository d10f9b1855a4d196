-- From the list of a test to its report and to its list of schedules. The functions of lists.rt promise the
-- outputs by these lemmas.
use Rattle.lw_bench.proofs.Common.{MentionsOnly, observed_words, is_true, AreObservedOutcomesOf, refl}
use Rattle.lw_bench.proofs.Common.{Contains, project_state, marked_list_text, IsExactMarkedList, ◌≡◌, ℕ, List}
use Rattle.lw_bench.proofs.Common.{length, map, sym, subst, All, AllByRecursion, All-map, All-weaker}
use Rattle.lw_bench.proofs.Common.{TestHead, FinalState, HasOutcomeShape, IsEvent, Event, IsListedOutcome}
use Rattle.lw_bench.proofs.Common.{OutcomeEntries, outcomes_of, schedules_of, report_text, schedule_list_text}
use Rattle.lw_bench.proofs.Common.{scheduled, ListedState, projection_of, AreListedStates, Exact, LitmusTest}
use Rattle.lw_bench.proofs.Common.{head_of_test, OutcomeOf, ProgramReplaysTo, IsExactReport}
use Rattle.lw_bench.proofs.Common.{IsExactScheduleList, IsListOf, AreOutcomesOf}
use Rattle.lw_bench.proofs.ListingTexts.{IsMarkedList-of_listing, IsReport-of_listing}
use Rattle.lw_bench.proofs.ListingTexts.{IsScheduleList-of_listing}

-- Outcomes with the same observed words agree on the test's proposition.
abbrev pub SameWordsAgree : Type 0
SameWordsAgree =
    (head : TestHead) (o p : FinalState)
    → MentionsOnly head.threads (length head.locs) head.proposition
    → observed_words head o ≡ observed_words head p
    → is_true head.proposition o ≡ is_true head.proposition p

module _ (agree : SameWordsAgree) (test : LitmusTest) (outcomes : List FinalState)
    (are_observed : AreObservedOutcomesOf test outcomes) (head : TestHead) (same : head ≡ head_of_test test)
    (speaks : MentionsOnly head.threads (length head.locs) head.proposition) where
  -- Each outcome of the test has the state of a listed one.
  state_observed : (o : FinalState)
      → OutcomeOf test o
      → (p : FinalState) × Contains outcomes p × (project_state (head_of_test test) p ≡ project_state (head_of_test test) o)
  state_observed o has =
      let p = are_observed.covered o has in
      let truth =
      agree (head_of_test test) p.0 o (subst (λ d. MentionsOnly d.threads (length d.locs) d.proposition) same speaks) p.2 in
      (p.0, p.1, λ i. record { words = p.2 i; holds = truth i })

  -- The report rendered from a list that shows a test's outcomes is the test's report.
  pub IsExactReport-of_list : (states : List ListedState) (text : List ℕ)
      → AreListedStates head outcomes states
      → text ≡ report_text head Exact (map projection_of states)
      → IsExactReport test text
  IsExactReport-of_list states text listed is =
      IsReport-of_listing _ _ _ are_observed.sound state_observed Exact states text
      (subst (λ d. AreListedStates d outcomes states) same listed)
      (subst (λ d. text ≡ report_text d Exact (map projection_of states)) same is)

  -- The list of marked states that results from a list that shows a test's outcomes is the test's.
  pub IsExactMarkedList-of_list : (states : List ListedState) (text : List ℕ)
      → AreListedStates head outcomes states
      → text ≡ marked_list_text head (map projection_of states)
      → IsExactMarkedList test text
  IsExactMarkedList-of_list states text listed is =
      IsMarkedList-of_listing _ _ _ are_observed.sound state_observed states text
      (subst (λ d. AreListedStates d outcomes states) same listed)
      (subst (λ d. text ≡ marked_list_text d (map projection_of states)) same is)

-- Outcomes with the shape of the test's head have the shape of an equal head.
pub HasOutcomeShape-of_same_head : (test : LitmusTest) (outcomes : List FinalState)
    → All (HasOutcomeShape (head_of_test test).threads (length (head_of_test test).locs)) outcomes
    → (head : TestHead)
    → head ≡ head_of_test test
    → All (HasOutcomeShape head.threads (length head.locs)) outcomes
HasOutcomeShape-of_same_head test outcomes shapes head same =
    subst (λ d. All (HasOutcomeShape d.threads (length d.locs)) outcomes) (sym same) shapes

module _ (test : LitmusTest) (entries : OutcomeEntries) (list : IsListOf test entries) (head : TestHead)
    (same : head ≡ head_of_test test) where
  -- The list of schedules rendered from a test's list is the test's list of schedules.
  pub IsExactScheduleList-of_list : (states : List ListedState) (text : List ℕ)
      → AreListedStates head (outcomes_of entries) states
      → text ≡ schedule_list_text head (map (scheduled (schedules_of entries)) states)
      → IsExactScheduleList test text
  IsExactScheduleList-of_list states text listed is = record {
    program = list.program;
    of_test = list.of_test;
    is_schedule_list =
        IsScheduleList-of_listing _ (OutcomeOf test) entries list.exactly list.sorted (ProgramReplaysTo list.program) list.lead
        states text (subst (λ d. AreListedStates d (outcomes_of entries) states) same listed) (rw same at is);
  }

  -- The schedules of the list name only the test's locations.
  pub IsEvent-of_schedules : All (AllByRecursion (IsEvent head.locs)) (schedules_of entries)
  IsEvent-of_schedules =
      All-map (AllByRecursion (IsEvent head.locs)) (λ (e : FinalState × List Event). e.1) entries
      (All-weaker (IsListedOutcome (head_of_test test)) (λ e. AllByRecursion (IsEvent head.locs) e.1)
      (λ e is. subst (λ d. AllByRecursion (IsEvent d.locs) e.1) (sym same) is.schedule) entries list.entries_are)
