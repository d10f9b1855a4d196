-- Proves `OutcomeMap::into_listing`, which sorts the entries of the map: the listing is strictly ascending and a permutation of the map. No
-- two keys of a map compare equal, so sorted keys are strictly ascending (`IsStrictlySorted-of_permutation`).
use Rattle.std.proofs.Common.{◌∙◌, ◌≡◌, ◌++◌, ap}
use Rattle.indexmap.proofs.CallerLemmas.{Drains-YieldsInOrder}
use Rattle.lw_outcome_map.proofs.SortedEntries.{IsStrictlySorted-of_permutation}
use Rattle.lw_outcome_map.proofs.listing.OutcomeMap.into_listing.Given as given
use Rattle.lw_outcome_map.proofs.listing.OutcomeMap.into_listing.Goals as goal

-- What is sorted are the entries of the map.
entries-of_map : (g : given.Over) (c : goal.After-sort_by_outcome g) → c.extend.new.self.items ≡ c.self.inside.found.entries
entries-of_map g c =
    let ran = c.in_ok-extend.ensures.ran in
    ran.3.0 ∙ ap (λ es. es ++ ran.1) c.in_ok-entries.ensures.items ∙ Drains-YieldsInOrder _ _ ran.0 ran.1 ran.2.2 ran.4 ∙ ran.2.0

pub invariant_of-result : goal.invariant_of-result
invariant_of-result g c =
    IsStrictlySorted-of_permutation c.self.inside.found.entries c.sort_by_outcome.new.entries.items c.in_ok-extend.ensures.ran.2.4
    (rw (entries-of_map g c) at c.sort_by_outcome.ensures.same) c.sort_by_outcome.ensures.sorted

pub returns-clause-sorted : goal.returns-clause-sorted
returns-clause-sorted g c = invariant_of-result g c

pub returns-clause-same : goal.returns-clause-same
returns-clause-same g c = rw (← c.self.view_is) (rw (entries-of_map g c) at c.sort_by_outcome.ensures.same)
