-- The report of a test, and the list of its schedules, for tests of either language.
use Rattle.std.specs.Prelude.{◌↔◌, All, Contains, List, length}
use Rattle.lw_base.specs.FinalWords.{ContainsWordsOf}
use Rattle.lw_base.specs.ListedOutcomes.{IsListedOutcome}
use Rattle.lw_base.specs.Outcomes.{FinalState, HasOutcomeShape}
use Rattle.lw_base.specs.Types.{Bytes}
use Rattle.lw_paths.specs.Counts.{IsWithinLimits}
use Rattle.lw_outcome_map.specs.Listings.{OutcomeEntries, outcomes_of, IsStrictlySorted}
use Rattle.lw_litmus.specs.Sources.{source_language}
use Rattle.lw_litmus.specs.Programs.{x86_language}
use Rattle.lw_report.specs.Observed.{observed}
use Rattle.lw_report.specs.Reports.{IsReport, IsScheduleList, IsMarkedList}
use Rattle.lw_report.specs.declared.judgement.Claim.TheVariants.{Exact}
use Rattle.lw_litmus.specs.Tests.{X86Test}
use Rattle.lw_bench.specs.LitmusTests.{LitmusTest, Of_source, Of_x86, head_of_test}
use Rattle.lw_bench.specs.Outcomes.{OutcomeOf, IsProgramRunFor, IsProgramOf, HasOverCaches, ProgramReplaysTo}
use Rattle.lw_bench.specs.TestTexts.{HasTest}

-- The test is within the limits of lists: no path assignment has more items, and all together have no more orders, than a list takes.
abbrev pub IsWithinListLimits : LitmusTest → Type 0
IsWithinListLimits (Of_source test) = IsWithinLimits source_language test.threads
IsWithinListLimits (Of_x86 test) = IsWithinLimits x86_language test.threads

-- The text is the report of exactly the test's outcomes.
abbrev pub IsExactReport : LitmusTest → Bytes → Type 0
IsExactReport test = IsReport (head_of_test test) (OutcomeOf test) Exact

-- The text is the list of exactly the states of the test's outcomes, each marked by whether the proposition is true in it.
abbrev pub IsExactMarkedList : LitmusTest → Bytes → Type 0
IsExactMarkedList test = IsMarkedList (head_of_test test) (OutcomeOf test)

-- The text is the list of a test's states, each with a schedule of the program that reaches the smallest outcome with its words.
pub record IsExactScheduleList (test : LitmusTest) (text : Bytes) : Type 0 where
  pub program : X86Test
  pub of_test : IsProgramOf test program
  pub is_schedule_list : IsScheduleList (head_of_test test) (OutcomeOf test) (ProgramReplaysTo program) text

-- The text is the report of exactly the test's outcomes, and the test is within the limits of lists.
pub record IsStatesReport (test : LitmusTest) (text : Bytes) : Type 0 where
  pub within : IsWithinListLimits test
  pub is_report : IsExactReport test text

-- The outcomes are exactly the test's, and have its threads and locations.
pub record AreOutcomesOf (test : LitmusTest) (outcomes : List FinalState) : Type 0 where
  pub exactly : (o : FinalState) → Contains outcomes o ↔ OutcomeOf test o
  pub shapes : All (HasOutcomeShape (head_of_test test).threads (length (head_of_test test).locs)) outcomes

-- Each outcome of the list is one of the test, and has its threads and locations; and each outcome of the test has the observed words of
-- one of the list.
pub record AreObservedOutcomesOf (test : LitmusTest) (outcomes : List FinalState) : Type 0 where
  pub sound : (o : FinalState) → Contains outcomes o → OutcomeOf test o
  pub covered : (o : FinalState) → OutcomeOf test o → ContainsWordsOf (observed (head_of_test test)) outcomes o
  pub shapes : All (HasOutcomeShape (head_of_test test).threads (length (head_of_test test).locs)) outcomes

-- The entries are the test's list: exactly its outcomes, sorted, without duplicates, each with a schedule of the test's x86 program that
-- reaches it over caches of any protocol.
pub record IsListOf (test : LitmusTest) (entries : OutcomeEntries) : Type 0 where
  pub program : X86Test
  pub of_test : IsProgramOf test program
  pub sorted : IsStrictlySorted entries
  pub exactly : (o : FinalState) → Contains (outcomes_of entries) o ↔ OutcomeOf test o
  pub entries_are : All (IsListedOutcome (head_of_test test)) entries
  pub lead : All (λ e. ProgramReplaysTo program e.1 e.0) entries

-- Of every test of the text, the outcomes are those that its x86 program reaches on the machine.
abbrev pub IsReachedOnMachine : Bytes → Type 0
IsReachedOnMachine text = (test : LitmusTest) → HasTest text test → (program : X86Test) × IsProgramOf test program

-- Of every test of the text, the outcomes are those that its x86 program reaches over caches.
abbrev pub IsReachedOverCaches : Bytes → Type 0
IsReachedOverCaches text =
    (test : LitmusTest) (program : X86Test) → HasTest text test → IsProgramRunFor test program → HasOverCaches test program

-- The text is the list of a test's states, each with a schedule of the program that reaches the smallest outcome with its words, and the
-- test is within the limits of lists.
pub record IsScheduleReport (test : LitmusTest) (text : Bytes) : Type 0 where
  pub within : IsWithinListLimits test
  pub is_schedule_list : IsExactScheduleList test text
