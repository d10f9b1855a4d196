-- `render` of a task promises the output of the task on the test, and its exit status. Each arm passes on
-- what its callee ensures: a replay's status is that of its end, the others' that of success.
use Rattle.lw_bench.proofs.render.TaskRenderer.render.Goals as goal

pub returns-in_ok-report_of-in-States-clause-found : goal.returns-in_ok-report_of-in-States-clause-found
returns-in_ok-report_of-in-States-clause-found g c =
    rw c.in-States.is (c.in_ok-report_of-in-States.ensures.found, c.success_status.ensures)

pub returns-in_ok-compilation_of-in-Compile-clause-found : goal.returns-in_ok-compilation_of-in-Compile-clause-found
returns-in_ok-compilation_of-in-Compile-clause-found g c =
    rw c.in-Compile.is (c.in_ok-compilation_of-in-Compile.ensures, c.success_status-in-Compile.ensures)

pub returns-in_ok-schedules_of-in-Schedules-clause-found : goal.returns-in_ok-schedules_of-in-Schedules-clause-found
returns-in_ok-schedules_of-in-Schedules-clause-found g c =
    rw c.in-Schedules.is (c.in_ok-schedules_of-in-Schedules.ensures.found, c.success_status-in-Schedules.ensures)

pub returns-in_ok-page-in-Replay-clause-found : goal.returns-in_ok-page-in-Replay-clause-found
returns-in_ok-page-in-Replay-clause-found g c =
    rw c.in-Replay.is (c.in_ok-page-in-Replay.end, c.in_ok-page-in-Replay.ensures.found, c.end_status.ensures)
