-- Coherence of cache lines, and the states of a protocol: what is true of the caches after any requests.
use Rattle.std.specs.Prelude.{◌≡◌, ◌≢◌, ℕ, ◌<◌, ◌≤◌, length, Some}
use Rattle.lw_base.specs.Limits.{most_threads}
use Rattle.lw_memory.specs.SystemLaws.{Invariant, invariant_of}
use Rattle.lw_mesi.specs.declared.protocol.Protocol.{Protocol}
use Rattle.lw_mesi.specs.declared.protocol.Protocol.TheVariants.{Mesi, Moesi}
use Rattle.lw_mesi.specs.CacheLines.{Copy, Modified, Owned, Exclusive, Shared, Invalid, CacheLine, Caches, copy_of, copy_word, cache_line_at, coherent_word}

-- The copy is in M or E, so it must be the only one.
abbrev pub IsOnlyCopy : Copy → Type 0
IsOnlyCopy (Modified w) = Unit {0}
IsOnlyCopy (Owned w) = ⊥
IsOnlyCopy (Exclusive w) = Unit {0}
IsOnlyCopy (Shared w) = ⊥
IsOnlyCopy Invalid = ⊥

-- The copy is in M or O, so memory may differ.
abbrev pub IsDirty : Copy → Type 0
IsDirty (Modified w) = Unit {0}
IsDirty (Owned w) = Unit {0}
IsDirty (Exclusive w) = ⊥
IsDirty (Shared w) = ⊥
IsDirty Invalid = ⊥

-- The cache line is coherent: a single writer or many readers, and one word.
pub record IsCoherentCacheLine (line : CacheLine) : Type 0 where
  pub as_many : length line.copies ≡ most_threads
  -- If a copy is in M or E, there is no other copy.
  pub no_other_copy : (t u : ℕ) → IsOnlyCopy (copy_of line t) → t ≢ u → copy_of line u ≡ Invalid
  -- At most one copy is in M or O.
  pub one_dirty : (t u : ℕ) → IsDirty (copy_of line t) → IsDirty (copy_of line u) → t ≡ u
  -- Every copy has the coherent word.
  pub same_word : (t w : ℕ) → copy_word (copy_of line t) ≡ Some w → w ≡ coherent_word line

-- The caches are coherent: the cache line of every location is.
pub record IsCoherent (m : Caches) : Type 0 where
  pub bounded : m.cpus ≤ most_threads
  pub cache_lines : (x : ℕ) → x < length m.cache_lines → IsCoherentCacheLine (cache_line_at m.cache_lines x)

-- The copy is in a state of the protocol. Only MOESI has O.
abbrev pub IsProtocolState : Protocol → Copy → Type 0
IsProtocolState Mesi (Owned w) = ⊥
IsProtocolState Mesi c = Unit {0}
IsProtocolState Moesi c = Unit {0}

-- Every copy of a cache line is in a state of the protocol.
abbrev pub HasProtocolStates : Protocol → CacheLine → Type 0
HasProtocolStates p line = (t : ℕ) → IsProtocolState p (copy_of line t)

-- The cache line satisfies a protocol: it is coherent, and its copies are in states of the protocol.
pub record LineSatisfiesProtocol (p : Protocol) (line : CacheLine) : Type 0 where
  pub coherent : IsCoherentCacheLine line
  pub states : HasProtocolStates p line

-- The caches satisfy a protocol: each cache line is coherent and in the protocol's states. This is true after any requests.
pub record SatisfiesProtocol (p : Protocol) (m : Caches) : Type 0 where
  pub coherent : IsCoherent m
  pub states : (x : ℕ) → x < length m.cache_lines → HasProtocolStates p (cache_line_at m.cache_lines x)

-- The invariant of caches of a protocol, in the form of lw_memory's laws.
abbrev pub caches_invariant : Protocol → Invariant Caches
caches_invariant p = invariant_of (λ (m : Caches). m.cpus) (SatisfiesProtocol p)
