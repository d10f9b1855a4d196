-- The list that a search returns is the list of the test, with schedules or without. Both kinds of lists cite these lemmas.
use Rattle.lw_beyond.proofs.Common.{List, Seen, ◌≡◌, observed, ContainsWordsOf, AreObservedOutcomesOf, subst}
use Rattle.lw_beyond.proofs.Common.{Mesi, OutcomeOf, IsWellScoped-well_formed, x86_language, ◌↔◌, All}
use Rattle.lw_beyond.proofs.Common.{Contains, Result, Ok, Err, IfOk, FinalState, IsListedOutcome, length}
use Rattle.lw_beyond.proofs.Common.{HasOutcomeShape, AreOutcomesOf, OutcomesWith, AreOutcomesOf-source_result}
use Rattle.lw_beyond.proofs.Common.{AreOutcomesOf-x86_result, OutcomeEntries, outcomes_of, IsStrictlySorted}
use Rattle.lw_beyond.proofs.Common.{ListsMachine, ReplaysToOverCaches, OutcomeOverCaches, Protocol}
use Rattle.lw_beyond.proofs.Common.{SourceOutcome, SourceTest, X86Test, Of_source, Of_x86, IsListOf}
use Rattle.lw_beyond.proofs.Common.{IsWellFormedSource, IsWellFormedProgram, CachesAreFlat}
use Rattle.lw_beyond.proofs.Common.{IsListOf-source_entries, IsListOf-x86_entries}

-- If a search of a source test succeeds, and its list is sorted and has exactly the test's outcomes, each with a schedule, the list is the
-- test's.
pub IsListOf-searched_source : {S E : Type 0} (list : S → OutcomeEntries) (test : SourceTest) (r : Result S E)
    → IsWellFormedSource test
    → IfOk r (λ s. IsStrictlySorted (list s))
    → IfOk r (λ s. (o : FinalState) → Contains (outcomes_of (list s)) o ↔ SourceOutcome test o)
    → IfOk r (λ s. ListsMachine test (list s))
    → IfOk r (λ s. All (IsListedOutcome test.head) (list s))
    → IfOk r (λ s. IsListOf (Of_source test) (list s))
IsListOf-searched_source list test (Ok s) ok sorted exactly lists of =
    IsListOf-source_entries test (list s) ok sorted exactly lists of
IsListOf-searched_source list test (Err e) ok sorted exactly lists of = tt

-- If a search of an x86 test succeeds, and its list is sorted and has exactly the test's outcomes over caches of each protocol,
-- each with a schedule, the list is the test's.
pub IsListOf-searched_x86 : {S E : Type 0} (list : S → OutcomeEntries)
    → CachesAreFlat
    → (test : X86Test) (r : Result S E)
    → IsWellFormedProgram test
    → IfOk r (λ s. IsStrictlySorted (list s))
    → IfOk r (λ s. (protocol : Protocol) (o : FinalState) → Contains (outcomes_of (list s)) o ↔ OutcomeOverCaches protocol test o)
    → IfOk r (λ s. (protocol : Protocol) → All (λ e. ReplaysToOverCaches protocol test e.1 e.0) (list s))
    → IfOk r (λ s. All (IsListedOutcome test.head) (list s))
    → IfOk r (λ s. IsListOf (Of_x86 test) (list s))
IsListOf-searched_x86 list caches test (Ok s) ok sorted exactly replays of =
    IsListOf-x86_entries caches test (list s) ok sorted exactly replays of
IsListOf-searched_x86 list caches test (Err e) ok sorted exactly replays of = tt

-- If a search of a source test succeeds, its outcomes are outcomes of the test, and each outcome of the test has the observed
-- words of one of them, then they are the test's observed outcomes.
pub AreObservedOutcomesOf-source_search : {S E Kept : Type 0} (list : S → OutcomesWith Kept) (test : SourceTest)
    (names : List Seen) (r : Result S E)
    → names ≡ observed test.head
    → IfOk r (λ s. (o : FinalState) → Contains (outcomes_of (list s)) o → SourceOutcome test o)
    → IfOk r (λ s. (o : FinalState) → SourceOutcome test o → ContainsWordsOf names (outcomes_of (list s)) o)
    → IfOk r (λ s. All (HasOutcomeShape test.head.threads (length test.head.locs)) (outcomes_of (list s)))
    → IfOk r (λ s. AreObservedOutcomesOf (Of_source test) (outcomes_of (list s)))
AreObservedOutcomesOf-source_search list test names (Ok s) same reached covered shapes = record {
  sound = reached;
  covered = λ o has. subst (λ l. ContainsWordsOf l (outcomes_of (list s)) o) same (covered o has);
  shapes = shapes;
}
AreObservedOutcomesOf-source_search list test names (Err e) same reached covered shapes = tt

-- If a search of an x86 test succeeds, its outcomes are outcomes over caches of each protocol, and each such outcome has the
-- observed words of one of them, then they are the test's observed outcomes.
pub AreObservedOutcomesOf-x86_search : {S E Kept : Type 0} (list : S → OutcomesWith Kept)
    → CachesAreFlat
    → (test : X86Test) (names : List Seen) (r : Result S E)
    → IsWellFormedProgram test
    → names ≡ observed test.head
    → IfOk r (λ s. (protocol : Protocol) (o : FinalState) → Contains (outcomes_of (list s)) o → OutcomeOverCaches protocol test o)
    → IfOk r (λ s.
    (protocol : Protocol) (o : FinalState) → OutcomeOverCaches protocol test o → ContainsWordsOf names (outcomes_of (list s)) o)
    → IfOk r (λ s. All (HasOutcomeShape test.head.threads (length test.head.locs)) (outcomes_of (list s)))
    → IfOk r (λ s. AreObservedOutcomesOf (Of_x86 test) (outcomes_of (list s)))
AreObservedOutcomesOf-x86_search list caches test names (Ok s) ok same reached covered shapes = record {
  sound = λ o c. (over o).0 (reached Mesi o c);
  covered = λ o has. subst (λ l. ContainsWordsOf l (outcomes_of (list s)) o) same (covered Mesi o ((over o).1 has));
  shapes = shapes;
}
  where
    -- The outcomes of the test are those over MESI caches.
    over : (o : FinalState) → OutcomeOverCaches Mesi test o ↔ OutcomeOf (Of_x86 test) o
    over o = caches Mesi test o (IsWellScoped-well_formed x86_language ok) ok.head.bounded
AreObservedOutcomesOf-x86_search list caches test names (Err e) ok same reached covered shapes = tt
