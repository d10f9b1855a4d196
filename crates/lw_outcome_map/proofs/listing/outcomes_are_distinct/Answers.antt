-- Proves the law that an outcome of a listing is at one index only. This is the lemma `outcome_index-unique`: the
-- list is strictly ascending.
use Rattle.lw_outcome_map.proofs.api.Listings.{outcome_index-unique}
use Rattle.lw_outcome_map.proofs.listing.outcomes_are_distinct.Goals as goal

pub returns : goal.returns
returns c entries i j outcome sorted at to = outcome_index-unique entries i j outcome sorted at to
