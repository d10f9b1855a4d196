-- Proves `states_of`, which returns the sorted states of a listing, without duplicates. Sorting only permutes the
-- states (`AreStatesOfFirst-sorted`); `AreListedStates-first_states` says that the first ones of each run of equal words are the
-- states that the report shows.
use Rattle.lw_report.proofs.Common.{ℕ, length, sym, subst, length-map, head_of, outcomes_of, AreStatesOfFirst}
use Rattle.lw_report.proofs.ListedStates.{AreStatesOfFirst-sorted, AreListedStates-first_states}
use Rattle.lw_report.proofs.states.states_of.Goals as goal

-- The states of all outcomes, sorted, of which the first with each list of words remain, are those of the report.
pub returns : goal.returns
returns g c =
    let head = head_of c.args.head.now in
    let outcomes = outcomes_of c.args.listing.now in
    let all = c.sort_unstable.new.self.items in
    let sorted : AreStatesOfFirst head outcomes (length c.args.listing.now) all =
    AreStatesOfFirst-sorted head outcomes (length c.args.listing.now) c.in_ok-states.states.items all
    c.sort_unstable.ensures.permutation c.in_ok-states.ensures in
    let are : AreStatesOfFirst head outcomes (length outcomes) all =
    subst (λ (n : ℕ). AreStatesOfFirst head outcomes n all) (sym (length-map c.args.listing.now (λ e. e.0))) sorted in
    AreListedStates-first_states head outcomes all c.first_of_each.result c.requires.condition are c.first_of_each.ensures
