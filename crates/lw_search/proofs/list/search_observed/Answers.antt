-- `search_observed` lists an outcome for each list of words: the search was finished, so each final state was looked at.
use Rattle.lw_search.proofs.Common.{err_from_is_err_and, sym, ◌∙◌, IsWellScoped-well_formed, x86_language}
use Rattle.lw_search.proofs.Common.{program_of, subst, Visits, HaveSameWords, IsOfSomeRun}
use Rattle.lw_search.proofs.CompleteLists.{lists_agreeing}
use Rattle.lw_search.proofs.list.search_observed.Goals as goal

-- The collected outcomes agree with all of the test's at the observed names.
pub returns-clause-observed : goal.returns-clause-observed
returns-clause-observed g c =
    let test = program_of c.args.program.now in
    let formed = c.args.program.now.well_formed in
    let ok = IsWellScoped-well_formed x86_language formed in
    let few = formed.head.bounded in
    let replays = c.replays_over_caches_are_flat.ensures in
    let search = c.in_ok-search.search in
    lists_agreeing test (λ protocol events o kept. replays.flat protocol test events o ok few kept)
    (λ protocol events o run. replays.of_test protocol test events o ok few run) (HaveSameWords c.args.names.now) IsOfSomeRun
    (λ protocol o. c.outcomes_over_caches_are_flat.ensures protocol test o ok few) search.tables search.states
    c.in_ok-search.ensures.finished c.in_ok-listing.listing
    (rw c.in_ok-search.ensures.program at c.in_ok-listing.ensures.collected)

pub returns-clause-visited : goal.returns-clause-visited
returns-clause-visited g c = subst (Visits (program_of c.args.program.now)) (sym c.len.ensures) c.in_ok-search.ensures.visited

pub returns-in_err-listing-clause-budget : goal.returns-in_err-listing-clause-budget
returns-in_err-listing-clause-budget g c =
    let p = err_from_is_err_and c.from_residual-in_err-listing.result c.from_residual-in_err-listing.ensures.1 in
    rw p.1 (λ e. absurd (let clash = sym p.2 ∙ e in cc))
