-- Proves `OutcomeMap::insert_new`, which appends an outcome that is not in the map. The map appends an entry
-- if no key compares equal to the new one, and by the premise none does (`insert_entry-appends`).
use Rattle.lw_outcome_map.proofs.api.Listings.{insert_entry-appends}
use Rattle.lw_outcome_map.proofs.listing.OutcomeMap.insert_new.Goals as goal

pub returns-clause-inserted : goal.returns-clause-inserted
returns-clause-inserted g c =
    rw (← c.self.view_is)
    (insert_entry-appends c.self.inside.found.entries _ _ _ (λ i. c.requires (rw (← c.self.view_is) i))
    c.in_ok-insert.ensures.entries)
