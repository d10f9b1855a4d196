-- The output of a request, how its list is made, and when it is rejected.
use Rattle.std.specs.Prelude.{◌≡◌, ◌≢◌, ◌⊎◌, ◌≤◌, ℕ, true, false}
use Rattle.lw_base.specs.Types.{Bytes}
use Rattle.lw_paths.specs.declared.fault.ListFault.{ListFault}
use Rattle.lw_paths.specs.declared.fault.ListFault.TheVariants as list
use Rattle.lw_litmus.specs.Tests.{X86Test}
use Rattle.lw_search.specs.Reachability.{Visits, ExceedsBudget}
use Rattle.lw_bench.specs.LitmusTests.{LitmusTest}
use Rattle.lw_bench.specs.Lists.{IsWithinListLimits, IsExactReport, IsExactMarkedList, IsExactScheduleList}
use Rattle.lw_bench.specs.Outcomes.{IsProgramRunFor}
use Rattle.lw_bench.specs.TestTexts.{HasTest}
use Rattle.lw_bench.specs.FaultTruth.{ReadFaultIsTrue, TestLimitFaultIsTrue}
use Rattle.lw_bench.specs.FaultTruth as lw
use Rattle.lw_bench.specs.declared.fault.BenchFault.TheVariants.{Memory}
use Rattle.lw_beyond.specs.declared.fault.BeyondFault.{BeyondFault}
use Rattle.lw_beyond.specs.declared.fault.BeyondFault.TheVariants.{Bench, Budget}
use Rattle.lw_beyond.specs.declared.lists.Method.{Method}
use Rattle.lw_beyond.specs.declared.lists.Method.TheVariants.{Orders, Search}
use Rattle.lw_beyond.specs.declared.lists.Output.{Output}
use Rattle.lw_beyond.specs.declared.lists.Output.TheVariants.{States, Schedules, Marks}
use Rattle.lw_beyond.specs.declared.lists.Request.{Request}

-- The output of a test: the report of exactly its outcomes, or the list of its states with schedules or marks.
abbrev pub IsMadeFor : Output → LitmusTest → Bytes → Type 0
IsMadeFor States = IsExactReport
IsMadeFor Schedules = IsExactScheduleList
IsMadeFor Marks = IsExactMarkedList

-- The test exceeds a limit of lists.
abbrev pub PassesLimit : LitmusTest → Type 0
PassesLimit test = (limit : ListFault) × (limit ≢ list.Memory) × TestLimitFaultIsTrue test limit

-- A search visits `count` different reachable states of the test's x86 program, all final ones among them.
abbrev pub VisitsStatesOf : LitmusTest → ℕ → Type 0
VisitsStatesOf test count = (program : X86Test) × IsProgramRunFor test program × Visits program count

-- The test's x86 program has more than `budget` different reachable states.
abbrev pub ExceedsBudgetOf : LitmusTest → ℕ → Type 0
ExceedsBudgetOf test budget = (program : X86Test) × IsProgramRunFor test program × ExceedsBudget program budget

-- The list needs a search: the request asks for one, or the test exceeds a limit of lists.
abbrev pub NeedsSearch : LitmusTest → Request → Type 0
NeedsSearch test request = (request.search ≡ true) ⊎ PassesLimit test

-- The list of a test is made for a request by this method: by orders if the test is within the limits of lists and no search is requested;
-- otherwise by a search within the budget.
abbrev pub IsListedBy : LitmusTest → Request → Method → Type 0
IsListedBy test request Orders = (request.search ≡ false) × IsWithinListLimits test
IsListedBy test request (Search count) = NeedsSearch test request × VisitsStatesOf test count × (count ≤ request.budget)

-- A request has no list of a test for this reason: memory ran out, or a search is needed and exceeds the budget.
abbrev pub RefusesList : LitmusTest → Request → BeyondFault → Type 0
RefusesList test request (Bench f) = f ≡ Memory
RefusesList test request (Budget n) = NeedsSearch test request × (n ≡ request.budget) × ExceedsBudgetOf test n

-- A request on a text is rejected for this reason: a fault of the text or of a cell, which is true of it; memory ran out; or a search of
-- the test is needed and exceeds the budget.
abbrev pub RefusesText : Request → Bytes → BeyondFault → Type 0
RefusesText request text (Bench f) = ReadFaultIsTrue text f
RefusesText request text (Budget n) = (test : LitmusTest) × HasTest text test × RefusesList test request (Budget n)

-- The fault is not the failure of a device.
abbrev pub IsNoDevice : BeyondFault → Type 0
IsNoDevice (Bench f) = lw.IsNotDeviceFault f
IsNoDevice (Budget n) = Unit {0}
