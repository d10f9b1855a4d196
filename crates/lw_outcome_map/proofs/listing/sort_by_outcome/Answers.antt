-- Proves `sort_by_outcome`, which sorts entries by their outcomes: the closure compares by a total order, so the sort's
-- promise holds of that order, and the outcomes of sorted entries are sorted.
use Rattle.std.proofs.Common.{ap, is_lt, refl}
use Rattle.std.proofs.lemmas.Fn.{always_returns_same}
use Rattle.std.proofs.lemmas.List.MinMax.{ranks_by}
use Rattle.indexmap.proofs.MapLemmas.{sorted_keys}
use Rattle.lw_base.specs.Outcomes.{final_state_cmp}
use Rattle.lw_outcome_map.proofs.api.Listings.{IsTotalOrder-final_state_cmp}
use Rattle.lw_outcome_map.proofs.listing.sort_by_outcome.Goals as goal

pub returns-clause-sorted : goal.returns-clause-sorted
returns-clause-sorted g c =
    sorted_keys (λ o p. is_lt (final_state_cmp o p)) _
    (c.sort_unstable_by.ensures.sorted (λ a b. is_lt (final_state_cmp a.0 b.0)) (ranks_by IsTotalOrder-final_state_cmp (λ e. e.0))
    (always_returns_same _ _ _ (λ a r f' k. (ap is_lt k.met, refl))))
