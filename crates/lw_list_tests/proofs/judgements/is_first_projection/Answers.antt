-- `is_first_projection` promises nothing but to be safe. The premise of `project` is that the outcome has the
-- test's threads and locations, which holds of each outcome in the test's list.
use Rattle.lw_base.specs.Heads.{head_of}
use Rattle.lw_list_tests.proofs.Entries.{outcome_of_test}
use Rattle.lw_list_tests.proofs.judgements.is_first_projection.Goals as goal

pub project-requires-clause-outcome : goal.project-requires-clause-outcome
project-requires-clause-outcome c =
    outcome_of_test (head_of c.args.source.now.head) c.in-Ok.listing 0 c.outcome.result.now c.in-Ok.ensures.of_test
    c.outcome.ensures
