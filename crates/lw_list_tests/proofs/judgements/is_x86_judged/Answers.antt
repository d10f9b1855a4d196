-- `is_x86_judged` promises nothing but to be safe. The premise of `is_judged` holds since the outcomes in a
-- test's list have its threads and locations.
use Rattle.lw_base.specs.Heads.{head_of}
use Rattle.lw_list_tests.proofs.Entries.{outcomes_of_test}
use Rattle.lw_list_tests.proofs.judgements.is_x86_judged.Goals as goal

pub is_judged-requires-clause-outcomes : goal.is_judged-requires-clause-outcomes
is_judged-requires-clause-outcomes c = outcomes_of_test (head_of c.args.program.now.head) c.in-Ok.listing c.in-Ok.ensures.of_test
