-- `reach_source_states` says of a source test what `search_observed` says of the compiled program, which has the same outcomes.
use Rattle.lw_search.proofs.Common.{HasOutcomeShape-of_compiled, IfOk-weaker, outcomes_of, program_of}
use Rattle.lw_search.proofs.list.reach_source_states.Goals as goal

pub returns-clause-reached : goal.returns-clause-reached
returns-clause-reached g c =
    IfOk-weaker c.search_observed.result _ _ (λ s lists o there. (c.in_ok-compiled.ensures.outcomes o).0 (lists.reached o there))
    c.search_observed.ensures.observed

pub returns-clause-observed : goal.returns-clause-observed
returns-clause-observed g c =
    IfOk-weaker c.search_observed.result _ _ (λ s lists o has. lists.covered o ((c.in_ok-compiled.ensures.outcomes o).1 has))
    c.search_observed.ensures.observed

pub returns-clause-of_test : goal.returns-clause-of_test
returns-clause-of_test g c =
    let compiled = c.in_ok-compiled.compiled in
    IfOk-weaker c.search_observed.result _ _ (λ s lists.
    HasOutcomeShape-of_compiled _ (program_of compiled.program) compiled.starts c.in_ok-compiled.ensures.compiled
    (outcomes_of s.listing) lists.shapes) c.search_observed.ensures.observed
