-- `marks_of_listing` promises the list of the states of all outcomes, with marks. The states are those of the
-- listing, which has exactly the test's outcomes, so the list depends only on the test (`IsExactMarkedList-of_list`). The
-- other goals are the bounds of a well-formed head.
use Rattle.lw_bench.proofs.Common.{IsExactMarkedList, litmus_test_of, IfOk-weaker, outcomes_of}
use Rattle.lw_bench.proofs.TestReports.{IsExactMarkedList-of_list, HasOutcomeShape-of_same_head}
use Rattle.lw_bench.proofs.lists.marks_of_listing.Goals as goal

pub states_of-states-requires-clause-threads : goal.states_of-states-requires-clause-threads
states_of-states-requires-clause-threads g c = c.head-head.ensures.formed.bounded

pub states_of-states-requires-clause-condition : goal.states_of-states-requires-clause-condition
states_of-states-requires-clause-condition g c = c.head-head.ensures.formed.condition

pub states_of-states-requires-clause-outcomes : goal.states_of-states-requires-clause-outcomes
states_of-states-requires-clause-outcomes g c =
    HasOutcomeShape-of_same_head (litmus_test_of c.args.test.now) (outcomes_of c.args.listing) c.requires.shapes _
    c.head-head.ensures.head

pub write_marks-list-requires : goal.write_marks-list-requires
write_marks-list-requires g c = c.head-head.ensures.formed.bounded

pub returns : goal.returns
returns g c =
    IfOk-weaker _ _ (IsExactMarkedList (litmus_test_of c.args.test.now)) (λ text is.
    IsExactMarkedList-of_list c.outcomes_with_the_same_words_agree.ensures _ (outcomes_of c.args.listing) c.requires _
    c.head-head.ensures.head c.head-head.ensures.formed.condition c.in_ok-states.states text c.in_ok-states.ensures is)
    c.write_marks-list.ensures
