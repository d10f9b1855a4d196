-- `list_outcomes` promises that the list has exactly the outcomes of the test. For a source test this is what
-- `list_source_outcomes` ensures; for an x86 test the callee speaks of outcomes over caches, which are the
-- test's by `outcomes_over_caches_are_flat`.
use Rattle.lw_bench.proofs.api.TestLists.{AreOutcomesOf-source_result, AreOutcomesOf-x86_result}
use Rattle.lw_bench.proofs.lists.list_outcomes.Goals as goal

pub returns-in-Source-clause-listed : goal.returns-in-Source-clause-listed
returns-in-Source-clause-listed g c =
    rw c.in-Source.is
    (AreOutcomesOf-source_result _ _ c.list_source_outcomes.ensures.exactly c.list_source_outcomes.ensures.of_test)

pub returns-in-X86-clause-listed : goal.returns-in-X86-clause-listed
returns-in-X86-clause-listed g c =
    rw c.in-X86.is
    (AreOutcomesOf-x86_result c.outcomes_over_caches_are_flat.ensures _ c.list_x86_outcomes.result c.in-X86.program.well_formed
    c.list_x86_outcomes.ensures.exactly c.list_x86_outcomes.ensures.of_test)
