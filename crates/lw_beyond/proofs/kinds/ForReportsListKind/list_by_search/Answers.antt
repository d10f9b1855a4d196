-- A list by a search for a report has an outcome for each list of observed words that the test's runs end in: the search is asked for the
-- observed names of the test's head.
use Rattle.lw_beyond.proofs.Common.{◌∙◌, ap, observed}
use Rattle.lw_beyond.proofs.SearchedLists.{AreObservedOutcomesOf-source_search}
use Rattle.lw_beyond.proofs.SearchedLists.{AreObservedOutcomesOf-x86_search}
use Rattle.lw_beyond.proofs.kinds.ForReportsListKind.list_by_search.Goals as goal

pub observed-requires : goal.observed-requires
observed-requires g c = c.head.ensures.formed.bounded

pub returns-in-Source-clause-listed : goal.returns-in-Source-clause-listed
returns-in-Source-clause-listed g c =
    let names = c.as_slice.ensures ∙ c.in_ok-names.ensures.names ∙ ap observed (rw c.in-Source.is at c.head.ensures.head) in
    rw c.in-Source.is
    (AreObservedOutcomesOf-source_search (λ s. s.listing) _ _ c.reach_source_states.result names
    c.reach_source_states.ensures.reached c.reach_source_states.ensures.observed c.reach_source_states.ensures.of_test)

pub returns-clause-listed : goal.returns-clause-listed
returns-clause-listed g c =
    let names = c.as_slice-in-X86.ensures ∙ c.in_ok-names.ensures.names ∙ ap observed (rw c.in-X86.is at c.head.ensures.head) in
    rw c.in-X86.is
    (AreObservedOutcomesOf-x86_search (λ s. s.listing) c.outcomes_over_caches_are_flat.ensures _ _ c.reach_program_states.result
    c.in-X86.program.well_formed names c.reach_program_states.ensures.reached c.reach_program_states.ensures.observed
    c.reach_program_states.ensures.of_test)
