-- `search_schedules` gives a complete list: the search was finished, so each final state was collected with a schedule.
use Rattle.lw_search.proofs.Common.{err_from_is_err_and, sym, ◌∙◌, IsWellScoped-well_formed, x86_language}
use Rattle.lw_search.proofs.Common.{program_of, subst, Visits, AreSame, IsScheduleOf}
use Rattle.lw_search.proofs.CompleteLists.{lists_agreeing, IsComplete-of_schedules}
use Rattle.lw_search.proofs.list.search_schedules.Goals as goal

-- The collected outcomes are all of the test's, each with a schedule.
pub returns-clause-complete : goal.returns-clause-complete
returns-clause-complete g c =
    let test = program_of c.args.program.now in
    let formed = c.args.program.now.well_formed in
    let ok = IsWellScoped-well_formed x86_language formed in
    let few = formed.head.bounded in
    let replays = c.replays_over_caches_are_flat.ensures in
    let search = c.in_ok-search.search in
    IsComplete-of_schedules test (λ protocol events o kept. replays.flat protocol test events o ok few kept)
    (λ protocol events o run. replays.of_test protocol test events o ok few run) c.in_ok-listing.listing
    (lists_agreeing test (λ protocol events o kept. replays.flat protocol test events o ok few kept)
    (λ protocol events o run. replays.of_test protocol test events o ok few run) AreSame IsScheduleOf
    (λ protocol o. c.outcomes_over_caches_are_flat.ensures protocol test o ok few) search.tables search.states
    c.in_ok-search.ensures.finished c.in_ok-listing.listing
    (rw c.in_ok-search.ensures.program at c.in_ok-listing.ensures.collected))

pub returns-clause-visited : goal.returns-clause-visited
returns-clause-visited g c = subst (Visits (program_of c.args.program.now)) (sym c.len.ensures) c.in_ok-search.ensures.visited

pub returns-in_err-listing-clause-budget : goal.returns-in_err-listing-clause-budget
returns-in_err-listing-clause-budget g c =
    let p = err_from_is_err_and c.from_residual-in_err-listing.result c.from_residual-in_err-listing.ensures.1 in
    rw p.1 (λ e. absurd (let clash = sym p.2 ∙ e in cc))
