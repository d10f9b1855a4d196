-- Proves `Listing::find`, which returns the index of an outcome, or `None` if it is not listed. The listing is strictly sorted, so a
-- binary search finds what is listed (`search-finds_outcome`).
use Rattle.std.proofs.lemmas.Fn.{always_returns_same}
use Rattle.lw_base.specs.Outcomes.{final_state_cmp}
use Rattle.lw_outcome_map.proofs.SortedEntries.{search-finds_outcome}
use Rattle.lw_outcome_map.proofs.listing.Listing.find.Goals as goal

pub returns : goal.returns
returns g c =
    rw (← c.self.view_is)
    (rw c.ok.ensures.value
    (search-finds_outcome c.self.inside.entries.items c.args.outcome.now c.binary_search_by.result c.self.invariant
    (rw c.deref.ensures.value at c.binary_search_by.ensures.bound)
    (rw c.deref.ensures.value at c.binary_search_by.ensures.position (λ e. final_state_cmp e.0 c.args.outcome.now)
    (always_returns_same _ _ _ (λ a r f' k. (k.met.1, λ i. record { 0 = k.met.0 i }))))))
