-- `list_test` promises a sorted list of exactly the test's outcomes, each with a schedule that reaches it.
-- The clauses of the callees are joined into one record; an x86 test's outcomes over caches are exchanged for
-- its outcomes by `outcomes_over_caches_are_flat`.
use Rattle.lw_bench.proofs.api.TestLists.{IsListOf-source_result, IsListOf-x86_result}
use Rattle.lw_bench.proofs.lists.list_test.Goals as goal

pub returns-in-Source-clause-listed : goal.returns-in-Source-clause-listed
returns-in-Source-clause-listed g c =
    rw c.in-Source.is
    (IsListOf-source_result _ _ c.in-Source.source.well_formed c.list_source.ensures.sorted c.list_source.ensures.exactly
    c.list_source.ensures.machine c.list_source.ensures.of_test)

pub returns-in-X86-clause-listed : goal.returns-in-X86-clause-listed
returns-in-X86-clause-listed g c =
    rw c.in-X86.is
    (IsListOf-x86_result c.outcomes_over_caches_are_flat.ensures _ c.list_x86.result c.in-X86.program.well_formed
    c.list_x86.ensures.sorted c.list_x86.ensures.exactly c.list_x86.ensures.replays c.list_x86.ensures.of_test)
