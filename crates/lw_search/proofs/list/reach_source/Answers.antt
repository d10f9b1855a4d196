-- Proves `reach_source`, the complete list of a source test with schedules of its compiled program. The
-- program is searched; by the contract of `compile` it has exactly the outcomes of its source, and the same
-- threads and locations.
use Rattle.lw_search.proofs.Common.{IfOk-weaker, program_of, ListsMachine-of_complete}
use Rattle.lw_search.proofs.Common.{IsListedOutcome-of_source}
use Rattle.lw_search.proofs.list.reach_source.Goals as goal

pub returns-clause-exactly : goal.returns-clause-exactly
returns-clause-exactly g c =
    IfOk-weaker c.search_schedules.result _ _ (λ s is o. (
      λ there. (c.in_ok-compiled.ensures.outcomes o).0 ((is.has_all_outcomes.exactly o).0 there),
      λ has. (is.has_all_outcomes.exactly o).1 ((c.in_ok-compiled.ensures.outcomes o).1 has),
    )) c.search_schedules.ensures.complete

pub returns-clause-machine : goal.returns-clause-machine
returns-clause-machine g c =
    let compiled = c.in_ok-compiled.compiled in
    IfOk-weaker c.search_schedules.result _ _ (λ s is.
    ListsMachine-of_complete _ (program_of compiled.program) compiled.starts c.in_ok-compiled.ensures.compiled _ s.listing is)
    c.search_schedules.ensures.complete

pub returns-clause-of_test : goal.returns-clause-of_test
returns-clause-of_test g c =
    let compiled = c.in_ok-compiled.compiled in
    IfOk-weaker c.search_schedules.result _ _ (λ s is.
    IsListedOutcome-of_source _ (program_of compiled.program) compiled.starts c.in_ok-compiled.ensures.compiled _ s.listing is)
    c.search_schedules.ensures.complete
