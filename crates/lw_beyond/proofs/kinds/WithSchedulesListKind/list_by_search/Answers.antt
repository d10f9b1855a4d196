-- `list_by_search` with schedules promises the test's list. The clauses of the search, sorted, exact and with
-- a schedule for each outcome, are joined into one record (`IsListOf-searched_source`, `IsListOf-searched_x86`). An x86 test's
-- outcomes over caches are exchanged for its outcomes.
use Rattle.lw_beyond.proofs.SearchedLists.{IsListOf-searched_source, IsListOf-searched_x86}
use Rattle.lw_beyond.proofs.kinds.WithSchedulesListKind.list_by_search.Goals as goal

pub returns-in-Source-clause-listed : goal.returns-in-Source-clause-listed
returns-in-Source-clause-listed g c =
    rw c.in-Source.is
    (IsListOf-searched_source (λ s. s.listing) _ c.reach_source.result c.in-Source.source.well_formed
    c.reach_source.ensures.sorted c.reach_source.ensures.exactly c.reach_source.ensures.machine c.reach_source.ensures.of_test)

pub returns-in-X86-clause-listed : goal.returns-in-X86-clause-listed
returns-in-X86-clause-listed g c =
    rw c.in-X86.is
    (IsListOf-searched_x86 (λ s. s.listing) c.outcomes_over_caches_are_flat.ensures _ c.reach_program.result
    c.in-X86.program.well_formed c.reach_program.ensures.sorted c.reach_program.ensures.exactly c.reach_program.ensures.replays
    c.reach_program.ensures.of_test)
