-- Proves `Listing::from_entries`, which sorts entries and leaves the first of those with the same outcome.
use Rattle.std.proofs.Common.{rules}
use Rattle.std.proofs.lemmas.Fn.{dedup_same}
use Rattle.std.proofs.lemmas.List.Kept.{Contains-from_dedup}
use Rattle.std.proofs.lemmas.List.Sorted.{Contains-permutation, IsPermutation-sym}
use Rattle.lw_outcome_map.proofs.api.Listings.{Contains-permuted_outcomes}
use Rattle.lw_outcome_map.proofs.SortedEntries.{have_same_outcome, IsStrictlySorted-dedup, Contains-outcomes_of_dedup}
use Rattle.lw_outcome_map.proofs.listing.Listing.from_entries.Goals as goal

pub invariant_of-result : goal.invariant_of-result
invariant_of-result g c =
    let left = dedup_same _ have_same_outcome _ (λ x y b f' x' y' k. search rules) _ _ c.dedup_by.ensures.filtered in
    rw left (IsStrictlySorted-dedup c.sort_by_outcome.new.entries.items c.sort_by_outcome.ensures.sorted)

pub returns-clause-sorted : goal.returns-clause-sorted
returns-clause-sorted g c =
    let left = dedup_same _ have_same_outcome _ (λ x y b f' x' y' k. search rules) _ _ c.dedup_by.ensures.filtered in
    rw left (IsStrictlySorted-dedup c.sort_by_outcome.new.entries.items c.sort_by_outcome.ensures.sorted)

pub returns-clause-from : goal.returns-clause-from
returns-clause-from g c entry listed =
    let left = dedup_same _ have_same_outcome _ (λ x y b f' x' y' k. search rules) _ _ c.dedup_by.ensures.filtered in
    Contains-permutation _ _ entry (IsPermutation-sym _ _ c.sort_by_outcome.ensures.same)
    (Contains-from_dedup have_same_outcome c.sort_by_outcome.new.entries.items entry (rw left at listed))

pub returns-clause-complete : goal.returns-clause-complete
returns-clause-complete g c outcome found =
    let left = dedup_same _ have_same_outcome _ (λ x y b f' x' y' k. search rules) _ _ c.dedup_by.ensures.filtered in
    rw left
    (Contains-outcomes_of_dedup c.sort_by_outcome.new.entries.items outcome
    ((Contains-permuted_outcomes c.args.entries.items c.sort_by_outcome.new.entries.items outcome
    c.sort_by_outcome.ensures.same).0 found))
