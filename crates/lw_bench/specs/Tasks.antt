-- The output of a task on a test, and what its fault states.
use Rattle.std.specs.Prelude.{◌≡◌, ℕ}
use Rattle.lw_base.specs.Types.{Bytes}
use Rattle.lw_base.specs.declared.stop.End.{End}
use Rattle.lw_bench.specs.Compilations.{IsCompilation}
use Rattle.lw_bench.specs.Faults.{success_status, end_status}
use Rattle.lw_bench.specs.Lists.{IsStatesReport, IsScheduleReport}
use Rattle.lw_bench.specs.LitmusTests.{LitmusTest}
use Rattle.lw_bench.specs.Replays.{IsReplayPage}
use Rattle.lw_bench.specs.FaultTruth.{ListFaultIsTrue, NoFaultIsTrue, ReplayFaultIsTrue}
use Rattle.lw_bench.specs.declared.command.Task.{Task}
use Rattle.lw_bench.specs.declared.command.Task.TheVariants.{States, Compile, Schedules, Replay}
use Rattle.lw_bench.specs.declared.fault.BenchFault.{BenchFault}

-- The task has this output on the test, and this exit status.
abbrev pub IsTaskOutput : Task → LitmusTest → Bytes → ℕ → Type 0
IsTaskOutput States test made status = IsStatesReport test made × (status ≡ success_status)
IsTaskOutput Compile test made status = IsCompilation test made × (status ≡ success_status)
IsTaskOutput Schedules test made status = IsScheduleReport test made × (status ≡ success_status)
IsTaskOutput (Replay schedule protocol) test made status =
    (end : End) × IsReplayPage protocol test schedule.now made end × (status ≡ end_status end)

-- The fault of a task is true of a test.
abbrev pub TaskFaultIsTrue : Task → LitmusTest → BenchFault → Type 0
TaskFaultIsTrue States = ListFaultIsTrue
TaskFaultIsTrue Compile = NoFaultIsTrue
TaskFaultIsTrue Schedules = ListFaultIsTrue
TaskFaultIsTrue (Replay schedule protocol) = ReplayFaultIsTrue schedule.now
