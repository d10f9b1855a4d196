-- `reach_program_states` says over caches what `search_observed` says of the machine over flat memory: the outcomes are the same.
use Rattle.lw_search.proofs.Common.{IfOk-weaker}
use Rattle.lw_search.proofs.list.reach_program_states.Goals as goal

pub returns-clause-reached : goal.returns-clause-reached
returns-clause-reached g c =
    IfOk-weaker c.search_observed.result _ _ (λ s lists protocol o there. (lists.flat protocol o).1 (lists.reached o there))
    c.search_observed.ensures.observed

pub returns-clause-observed : goal.returns-clause-observed
returns-clause-observed g c =
    IfOk-weaker c.search_observed.result _ _ (λ s lists protocol o over. lists.covered o ((lists.flat protocol o).0 over))
    c.search_observed.ensures.observed

pub returns-clause-of_test : goal.returns-clause-of_test
returns-clause-of_test g c = IfOk-weaker c.search_observed.result _ _ (λ s lists. lists.shapes) c.search_observed.ensures.observed
