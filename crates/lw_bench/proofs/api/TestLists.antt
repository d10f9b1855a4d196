-- When entries are the list of a test: sorted, with exactly the test's outcomes, and with a schedule for each
-- if schedules are listed. The enumeration (`list_test`, `list_outcomes`) and the search of lw_beyond cite
-- it.
use Rattle.lw_bench.proofs.Common.{AreObservedOutcomesOf, IsWellScoped-well_formed, source_language}
use Rattle.lw_bench.proofs.Common.{x86_language, ◌≡◌, ◌↔◌, refl, All, Contains, Result, Ok, Err, IfOk}
use Rattle.lw_bench.proofs.Common.{FinalState, IsListedOutcome, OutcomeEntries, outcomes_of, IsStrictlySorted}
use Rattle.lw_bench.proofs.Common.{ListsMachine, ReplaysToOverCaches, OutcomeOverCaches, Protocol, Mesi}
use Rattle.lw_bench.proofs.Common.{SourceOutcome, SourceTest, X86Test, Of_source, Of_x86, IsListOf}
use Rattle.lw_bench.proofs.Common.{IsWellFormedSource, IsWellFormedProgram, IsMachineOutcome-compiled_iff}
use Rattle.lw_bench.proofs.Common.{AreOutcomesOf, OutcomesWith, OutcomeOf, LitmusTest, head_of_test}
use Rattle.lw_bench.proofs.Common.{HasOutcomeShape, All-map, All-weaker, List, length, Event}
use Rattle.lw_bench.proofs.Theorems.{CachesAreFlat}

-- Sorted entries that have exactly a source test's outcomes, each with a schedule of its compiled program that reaches it, are the test's
-- list.
pub IsListOf-source_entries : (test : SourceTest) (entries : OutcomeEntries)
    → IsWellFormedSource test
    → IsStrictlySorted entries
    → ((o : FinalState) → Contains (outcomes_of entries) o ↔ SourceOutcome test o)
    → ListsMachine test entries
    → All (IsListedOutcome test.head) entries
    → IsListOf (Of_source test) entries
IsListOf-source_entries test entries ok sorted exactly lists of = record {
  program = lists.program;
  of_test = record {
    runs = (lists.starts, lists.compiled);
    outcomes = λ o.
        IsMachineOutcome-compiled_iff test lists.program lists.starts o (IsWellScoped-well_formed source_language ok)
        lists.compiled;
  };
  sorted = sorted;
  exactly = exactly;
  entries_are = of;
  lead = λ k d lt protocol. lists.replays protocol k d lt;
}

-- If a function's result for a source test is `Ok`, its entries are a list of the test's outcomes.
pub IsListOf-source_result : {E : Type 0} (test : SourceTest) (r : Result OutcomeEntries E)
    → IsWellFormedSource test
    → IfOk r IsStrictlySorted
    → IfOk r (λ l. (o : FinalState) → Contains (outcomes_of l) o ↔ SourceOutcome test o)
    → IfOk r (ListsMachine test)
    → IfOk r (λ l. All (IsListedOutcome test.head) l)
    → IfOk r (IsListOf (Of_source test))
IsListOf-source_result test (Ok l) ok sorted exactly lists of = IsListOf-source_entries test l ok sorted exactly lists of
IsListOf-source_result test (Err e) ok sorted exactly lists of = tt

-- The outcomes of an x86 test over caches are the test's.
outcomes-iff_OutcomeOf_x86 : CachesAreFlat
    → (test : X86Test) (outcomes : List FinalState)
    → IsWellFormedProgram test
    → ((protocol : Protocol) (o : FinalState) → Contains outcomes o ↔ OutcomeOverCaches protocol test o)
    → (o : FinalState)
    → Contains outcomes o ↔ OutcomeOf (Of_x86 test) o
outcomes-iff_OutcomeOf_x86 caches test outcomes ok exactly o =
    let listed = exactly Mesi o in
    let over = caches Mesi test o (IsWellScoped-well_formed x86_language ok) ok.head.bounded in
    ((λ there. over.0 (listed.0 there)), (λ outcome. listed.1 (over.1 outcome)))

-- Sorted entries that have exactly an x86 test's outcomes over caches, each with a schedule that reaches it, are the test's list.
pub IsListOf-x86_entries : CachesAreFlat
    → (test : X86Test) (entries : OutcomeEntries)
    → IsWellFormedProgram test
    → IsStrictlySorted entries
    → ((protocol : Protocol) (o : FinalState) → Contains (outcomes_of entries) o ↔ OutcomeOverCaches protocol test o)
    → ((protocol : Protocol) → All (λ e. ReplaysToOverCaches protocol test e.1 e.0) entries)
    → All (IsListedOutcome test.head) entries
    → IsListOf (Of_x86 test) entries
IsListOf-x86_entries caches test entries ok sorted exactly replays of = record {
  program = test;
  of_test = record { runs = refl; outcomes = λ o. ((λ outcome. outcome), (λ outcome. outcome)) };
  sorted = sorted;
  exactly = outcomes-iff_OutcomeOf_x86 caches test (outcomes_of entries) ok exactly;
  entries_are = of;
  lead = λ k d lt protocol. replays protocol k d lt;
}

-- If a function's result for an x86 test is `Ok`, its entries are a list of the test's outcomes.
pub IsListOf-x86_result : {E : Type 0}
    → CachesAreFlat
    → (test : X86Test) (r : Result OutcomeEntries E)
    → IsWellFormedProgram test
    → IfOk r IsStrictlySorted
    → IfOk r (λ l. (protocol : Protocol) (o : FinalState) → Contains (outcomes_of l) o ↔ OutcomeOverCaches protocol test o)
    → IfOk r (λ l. (protocol : Protocol) → All (λ e. ReplaysToOverCaches protocol test e.1 e.0) l)
    → IfOk r (λ l. All (IsListedOutcome test.head) l)
    → IfOk r (IsListOf (Of_x86 test))
IsListOf-x86_result caches test (Ok l) ok sorted exactly replays of =
    IsListOf-x86_entries caches test l ok sorted exactly replays of
IsListOf-x86_result caches test (Err e) ok sorted exactly replays of = tt

-- The outcomes of a test's list are exactly the test's.
pub AreOutcomesOf-IsListOf : (test : LitmusTest) (entries : OutcomeEntries)
    → IsListOf test entries
    → AreOutcomesOf test (outcomes_of entries)
AreOutcomesOf-IsListOf test entries list = record {
  exactly = list.exactly;
  shapes =
      All-map (HasOutcomeShape (head_of_test test).threads (length (head_of_test test).locs))
      (λ (e : FinalState × List Event). e.0) entries
      (All-weaker (IsListedOutcome (head_of_test test))
      (λ (e : FinalState × List Event). HasOutcomeShape (head_of_test test).threads (length (head_of_test test).locs) e.0)
      (λ e is. is.outcome) entries list.entries_are);
}

-- A list of all outcomes of a test has the words of each.
pub AreObservedOutcomesOf-if_all : (test : LitmusTest) (outcomes : List FinalState)
    → AreOutcomesOf test outcomes
    → AreObservedOutcomesOf test outcomes
AreObservedOutcomesOf-if_all test outcomes are =
    record { sound = λ o. (are.exactly o).0; covered = λ o h. (o, (are.exactly o).1 h, refl); shapes = are.shapes }

-- If the result for a source test is `Ok`, and its outcomes are exactly the test's and have its shape, they are the test's
-- (`AreOutcomesOf`).
pub AreOutcomesOf-source_result : {E Kept : Type 0} (test : SourceTest) (r : Result (OutcomesWith Kept) E)
    → IfOk r (λ l. (o : FinalState) → Contains (outcomes_of l) o ↔ SourceOutcome test o)
    → IfOk r (λ l. All (HasOutcomeShape test.head.threads (length test.head.locs)) (outcomes_of l))
    → IfOk r (λ l. AreOutcomesOf (Of_source test) (outcomes_of l))
AreOutcomesOf-source_result test (Ok l) exactly shapes = record { exactly = exactly; shapes = shapes }
AreOutcomesOf-source_result test (Err e) exactly shapes = tt

-- If the result for an x86 test is `Ok`, and its outcomes are exactly the test's over caches and have its shape, they are the
-- test's (`AreOutcomesOf`).
pub AreOutcomesOf-x86_result : {E Kept : Type 0}
    → CachesAreFlat
    → (test : X86Test) (r : Result (OutcomesWith Kept) E)
    → IsWellFormedProgram test
    → IfOk r (λ l. (protocol : Protocol) (o : FinalState) → Contains (outcomes_of l) o ↔ OutcomeOverCaches protocol test o)
    → IfOk r (λ l. All (HasOutcomeShape test.head.threads (length test.head.locs)) (outcomes_of l))
    → IfOk r (λ l. AreOutcomesOf (Of_x86 test) (outcomes_of l))
AreOutcomesOf-x86_result caches test (Ok l) ok exactly shapes =
    record { exactly = outcomes-iff_OutcomeOf_x86 caches test (outcomes_of l) ok exactly; shapes = shapes }
AreOutcomesOf-x86_result caches test (Err e) ok exactly shapes = tt
