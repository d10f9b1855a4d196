-- `schedules_of_listing` promises the list of states, each with a schedule that reaches it. The schedules are
-- those of the listing's entries, and name only locations of the test (`IsEvent-of_schedules`);
-- `IsExactScheduleList-of_list` goes from the listing to the test.
use Rattle.lw_bench.proofs.Common.{IfOk-weaker, litmus_test_of, IsExactScheduleList}
use Rattle.lw_bench.proofs.api.TestLists.{AreOutcomesOf-IsListOf}
use Rattle.lw_bench.proofs.TestReports.{IsExactScheduleList-of_list, HasOutcomeShape-of_same_head}
use Rattle.lw_bench.proofs.TestReports.{IsEvent-of_schedules}
use Rattle.lw_bench.proofs.lists.schedules_of_listing.Goals as goal

pub states_of-requires-clause-threads : goal.states_of-requires-clause-threads
states_of-requires-clause-threads g c = c.head-head.ensures.formed.bounded

pub states_of-requires-clause-condition : goal.states_of-requires-clause-condition
states_of-requires-clause-condition g c = c.head-head.ensures.formed.condition

pub states_of-requires-clause-outcomes : goal.states_of-requires-clause-outcomes
states_of-requires-clause-outcomes g c =
    HasOutcomeShape-of_same_head (litmus_test_of c.args.test.now) _ (AreOutcomesOf-IsListOf _ _ c.requires).shapes _
    c.head-head.ensures.head

pub write_schedules-list-requires-clause-threads : goal.write_schedules-list-requires-clause-threads
write_schedules-list-requires-clause-threads g c = c.head-head.ensures.formed.bounded

pub write_schedules-list-requires-clause-schedules : goal.write_schedules-list-requires-clause-schedules
write_schedules-list-requires-clause-schedules g c =
    IsEvent-of_schedules (litmus_test_of c.args.test.now) c.args.listing.now c.requires _ c.head-head.ensures.head

pub write_schedules-list-requires-clause-states : goal.write_schedules-list-requires-clause-states
write_schedules-list-requires-clause-states g c = c.in_ok-states.ensures

pub returns : goal.returns
returns g c =
    IfOk-weaker _ _ (IsExactScheduleList (litmus_test_of c.args.test.now))
    (λ text is. IsExactScheduleList-of_list _ _ c.requires _ c.head-head.ensures.head _ text c.in_ok-states.ensures is)
    c.write_schedules-list.ensures
