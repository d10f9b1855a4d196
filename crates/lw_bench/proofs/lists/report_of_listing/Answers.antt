-- `report_of_listing` promises the report of the test's outcomes. The states are those of the listing, which
-- has exactly these outcomes, so the printed text is the report of the set (`IsExactReport-of_list`). The other
-- goals are the bounds of a well-formed head, and that the outcomes have its shape.
use Rattle.lw_bench.proofs.Common.{length, MentionsLocationsBelow-if_mentions_only, TestHead, head_of}
use Rattle.lw_bench.proofs.Common.{litmus_test_of, IfOk-weaker, outcomes_of, IsExactReport}
use Rattle.lw_bench.proofs.TestReports.{IsExactReport-of_list, HasOutcomeShape-of_same_head}
use Rattle.lw_bench.proofs.lists.report_of_listing.Goals as goal

pub states_of-states-requires-clause-threads : goal.states_of-states-requires-clause-threads
states_of-states-requires-clause-threads g c = c.head-head.ensures.formed.bounded

pub states_of-states-requires-clause-condition : goal.states_of-states-requires-clause-condition
states_of-states-requires-clause-condition g c = c.head-head.ensures.formed.condition

pub states_of-states-requires-clause-outcomes : goal.states_of-states-requires-clause-outcomes
states_of-states-requires-clause-outcomes g c =
    HasOutcomeShape-of_same_head (litmus_test_of c.args.test.now) (outcomes_of c.args.listing) c.requires.shapes _
    c.head-head.ensures.head

pub write_report-report-requires-clause-locations : goal.write_report-report-requires-clause-locations
write_report-report-requires-clause-locations g c =
    let head : TestHead = head_of c.head-head.result.now in
    MentionsLocationsBelow-if_mentions_only head.threads (length head.locs) head.proposition c.head-head.ensures.formed.condition

pub returns : goal.returns
returns g c =
    IfOk-weaker _ _ (IsExactReport (litmus_test_of c.args.test.now)) (λ text is.
    IsExactReport-of_list c.outcomes_with_the_same_words_agree.ensures _ (outcomes_of c.args.listing) c.requires _
    c.head-head.ensures.head c.head-head.ensures.formed.condition c.in_ok-states.states text c.in_ok-states.ensures is)
    c.write_report-report.ensures

pub write_report-report-requires-clause-threads : goal.write_report-report-requires-clause-threads
write_report-report-requires-clause-threads g c = c.head-head.ensures.formed.bounded
