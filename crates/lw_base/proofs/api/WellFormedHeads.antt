-- A longer table of locations preserves that a head is well-formed. Reading cells inserts names into the table of a head that was read
-- before.
use Rattle.lw_base.proofs.Common.{ℕ, zero, suc, ◌-◌, ◌≤◌, List, [], ◌∷◌, ◌++◌, length, arith, length-append}
use Rattle.lw_base.proofs.Common.{replicate, AllByRecursion, length-replicate, Seen, Register, Location}
use Rattle.lw_base.proofs.Common.{Formula, Word_is, Not, And, Or, TestHead, set_location_names, IsNameTable}
use Rattle.lw_base.proofs.Common.{IsSeenInRange, IsWordNumber, MentionsOnly, IsWellFormedHead}

-- If a register or location is in range for `few` locations, it is in range for `more`, if `few` ≤ `more`.
IsSeenInRange-more_locations : (threads few more : ℕ)
    → few ≤ more
    → (s : Seen)
    → IsSeenInRange threads few s
    → IsSeenInRange threads more s
IsSeenInRange-more_locations threads few more le (Register t r) h = h
IsSeenInRange-more_locations threads few more le (Location x) h = omega (arith, h)

-- If all registers and locations in a list are in range for `few` locations, they are for `more`, if `few` ≤ `more`.
IsSeenInRange-all_more_locations : (threads few more : ℕ)
    → few ≤ more
    → (ss : List Seen)
    → AllByRecursion (IsSeenInRange threads few) ss
    → AllByRecursion (IsSeenInRange threads more) ss
IsSeenInRange-all_more_locations threads few more le [] h = tt
IsSeenInRange-all_more_locations threads few more le (s ∷ ss) h =
    (IsSeenInRange-more_locations _ few _ le s h.0, IsSeenInRange-all_more_locations _ few _ le ss h.1)

-- If a formula mentions only `threads` threads and `few` locations, it mentions only `threads` threads and `more` locations, if
-- `few` ≤ `more`.
MentionsOnly-more_locations : (threads few more : ℕ)
    → few ≤ more
    → (p : Formula)
    → MentionsOnly threads few p
    → MentionsOnly threads more p
MentionsOnly-more_locations threads few more le (Word_is x n) h = (omega (arith, h.0), h.1)
MentionsOnly-more_locations threads few more le (Not p) h = MentionsOnly-more_locations threads few more le p h
MentionsOnly-more_locations threads few more le (And p q) h =
    (MentionsOnly-more_locations _ few _ le p h.0, MentionsOnly-more_locations _ few more le q h.1)
MentionsOnly-more_locations threads few more le (Or p q) h =
    (MentionsOnly-more_locations _ few _ le p h.0, MentionsOnly-more_locations _ few more le q h.1)
MentionsOnly-more_locations threads few more le _ h = h

-- Words followed by zeros are words.
IsWordNumber-append_zeros : (ws : List ℕ) (n : ℕ)
    → AllByRecursion IsWordNumber ws
    → AllByRecursion IsWordNumber (ws ++ replicate n 0)
IsWordNumber-append_zeros [] zero h = tt
IsWordNumber-append_zeros [] (suc n) h = (omega arith, IsWordNumber-append_zeros [] n tt)
IsWordNumber-append_zeros (w ∷ ws) n h = (h.0, IsWordNumber-append_zeros ws n h.1)

-- If a head is well-formed, and `names` is a table that is no shorter than the head's, then the head with this table, and with
-- the word 0 for each new location, is well-formed.
pub IsWellFormedHead-set_location_names : (head : TestHead) (names : List (List ℕ))
    → IsWellFormedHead head
    → IsNameTable names
    → length head.locs ≤ length names
    → IsWellFormedHead (set_location_names head names)
IsWellFormedHead-set_location_names head names h table le = record {
  name = h.name;
  has_thread = h.has_thread;
  bounded = h.bounded;
  table = table;
  regs = h.regs;
  register_counts = h.register_counts;
  register_words = h.register_words;
  words = omega (
    arith,
    h.words,
    length-append head.init_words (replicate (length names - length head.locs) 0),
    length-replicate {A = ℕ} (length names - length head.locs) 0,
  );
  location_words = IsWordNumber-append_zeros head.init_words (length names - length head.locs) h.location_words;
  listed_in_range =
      IsSeenInRange-all_more_locations head.threads (length head.locs) (length names) le head.listed h.listed_in_range;
  ascending = h.ascending;
  nodes_bounded = h.nodes_bounded;
  condition = MentionsOnly-more_locations head.threads (length head.locs) (length names) le head.proposition h.condition;
}
