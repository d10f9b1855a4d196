-- Proves `OutcomeMap::contains`, which says whether an outcome is in the map. `lookup-iff_Contains` turns the map's
-- promise, about keys that compare equal, into membership in the list.
use Rattle.lw_outcome_map.proofs.api.Listings.{lookup-iff_Contains}
use Rattle.lw_outcome_map.proofs.listing.OutcomeMap.contains.Goals as goal

pub returns : goal.returns
returns g c = rw (← c.self.view_is) (lookup-iff_Contains c.self.inside.found.entries _ _ c.contains_key.ensures)
