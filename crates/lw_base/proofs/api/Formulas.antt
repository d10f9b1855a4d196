-- The locations that a formula mentions. If a formula mentions only a test's threads and locations, its
-- locations are in the table, as printing requires.
use Rattle.lw_base.proofs.Common.{ℕ, Formula, Word_is, Not, And, Or, MentionsOnly, MentionsLocationsBelow}

-- A formula that mentions only existing threads and locations mentions only locations below their number.
pub MentionsLocationsBelow-if_mentions_only : (threads locs : ℕ) (p : Formula)
    → MentionsOnly threads locs p
    → MentionsLocationsBelow locs p
MentionsLocationsBelow-if_mentions_only threads locs (Word_is x n) h = h.0
MentionsLocationsBelow-if_mentions_only threads locs (Not p) h = MentionsLocationsBelow-if_mentions_only threads locs p h
MentionsLocationsBelow-if_mentions_only threads locs (And p q) h =
    (MentionsLocationsBelow-if_mentions_only threads locs p h.0, MentionsLocationsBelow-if_mentions_only threads locs q h.1)
MentionsLocationsBelow-if_mentions_only threads locs (Or p q) h =
    (MentionsLocationsBelow-if_mentions_only threads locs p h.0, MentionsLocationsBelow-if_mentions_only threads locs q h.1)
MentionsLocationsBelow-if_mentions_only threads locs _ h = tt
