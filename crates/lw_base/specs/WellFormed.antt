-- Well-formed heads: what is true of the head of every test.
use Rattle.std.specs.Prelude.{◌≡◌, ℕ, ◌<◌, ◌≤◌, ◌^◌, ◌⊎◌, List, [], ◌∷◌, length}
use Rattle.std.specs.List.{AllByRecursion}
use Rattle.lw_base.specs.Limits.{most_threads, registers, most_nodes}
use Rattle.lw_base.specs.declared.head.Seen.{Seen}
use Rattle.lw_base.specs.declared.head.Seen.TheVariants.{Register, Location}
use Rattle.lw_base.specs.Formula.{Formula, Yes, No, Reg_is, Word_is, Not, And, Or, nodes}
use Rattle.lw_base.specs.Heads.{TestHead}
use Rattle.lw_base.specs.Names.{IsNameTable, IsTestName}

-- The number is a word: below 2^32.
abbrev pub IsWordNumber : ℕ → Type 0
IsWordNumber n = n < 2 ^ 32

-- The number is the index of a register of a thread.
abbrev pub IsRegisterIndex : ℕ → Type 0
IsRegisterIndex r = r < registers

-- The register is of a thread below `threads`, or the location is below `locs`.
abbrev pub IsSeenInRange : ℕ → ℕ → Seen → Type 0
IsSeenInRange threads locs (Register t r) = (t < threads) × (r < registers)
IsSeenInRange threads locs (Location x) = x < locs

-- The first comes before the second: registers by thread and index, then locations by index.
abbrev pub IsSeenLess : Seen → Seen → Type 0
IsSeenLess (Register t r) (Register u s) = (t < u) ⊎ ((t ≡ u) × (r < s))
IsSeenLess (Register t r) (Location x) = Unit {0}
IsSeenLess (Location x) (Register t r) = ⊥
IsSeenLess (Location x) (Location y) = x < y

-- The list is strictly ascending in this order, so it has no duplicates.
abbrev pub IsAscending : List Seen → Type 0
IsAscending [] = Unit {0}
IsAscending (s ∷ ss) = AllByRecursion (IsSeenLess s) ss × IsAscending ss

-- The formula mentions only threads and locations below these numbers, and only words.
abbrev pub MentionsOnly : ℕ → ℕ → Formula → Type 0
MentionsOnly threads locs Yes = Unit {0}
MentionsOnly threads locs No = Unit {0}
MentionsOnly threads locs (Reg_is t r n) = (t < threads) × (r < registers) × IsWordNumber n
MentionsOnly threads locs (Word_is x n) = (x < locs) × IsWordNumber n
MentionsOnly threads locs (Not p) = MentionsOnly threads locs p
MentionsOnly threads locs (And p q) = MentionsOnly threads locs p × MentionsOnly threads locs q
MentionsOnly threads locs (Or p q) = MentionsOnly threads locs p × MentionsOnly threads locs q

-- The formula mentions only locations below this number.
abbrev pub MentionsLocationsBelow : ℕ → Formula → Type 0
MentionsLocationsBelow locs Yes = Unit {0}
MentionsLocationsBelow locs No = Unit {0}
MentionsLocationsBelow locs (Reg_is t r n) = Unit {0}
MentionsLocationsBelow locs (Word_is x n) = x < locs
MentionsLocationsBelow locs (Not p) = MentionsLocationsBelow locs p
MentionsLocationsBelow locs (And p q) = MentionsLocationsBelow locs p × MentionsLocationsBelow locs q
MentionsLocationsBelow locs (Or p q) = MentionsLocationsBelow locs p × MentionsLocationsBelow locs q

-- The head is well-formed: a valid name; 1 to `most_threads` threads; a table of at most eight valid names without duplicates; six words
-- for each thread and one for each location; listed names, sorted and without duplicates; and a condition on existing threads and
-- locations, of at most 256 nodes.
pub record IsWellFormedHead (h : TestHead) : Type 0 where
  pub name : IsTestName h.name
  pub has_thread : 1 ≤ h.threads
  pub bounded : h.threads ≤ most_threads
  pub table : IsNameTable h.locs
  pub regs : length h.init_regs ≡ h.threads
  pub register_counts : AllByRecursion (λ row. length row ≡ registers) h.init_regs
  pub register_words : AllByRecursion (AllByRecursion IsWordNumber) h.init_regs
  pub words : length h.init_words ≡ length h.locs
  pub location_words : AllByRecursion IsWordNumber h.init_words
  pub listed_in_range : AllByRecursion (IsSeenInRange h.threads (length h.locs)) h.listed
  pub ascending : IsAscending h.listed
  pub nodes_bounded : nodes h.proposition ≤ most_nodes
  pub condition : MentionsOnly h.threads (length h.locs) h.proposition
