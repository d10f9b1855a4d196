-- The cache line that a packed record represents.
use Rattle.std.specs.Prelude.{◌≡◌, ℕ, ◌<◌, Some, None, Bool, true, false, if◌then◌else◌, slice_index_or, length}
use Rattle.lw_base.specs.Limits.{most_threads}
use Rattle.lw_mesi.specs.declared.cache_line.PackedCacheLine.TheInside.{Inside}
use Rattle.lw_mesi.specs.inner.EachIndex.{at_each, empty_cpu_set, is_owner}
use Rattle.lw_mesi.specs.CacheLines.{Copy, Modified, Owned, Exclusive, Shared, Invalid, CacheLine}

-- The owner's copy with the line's word, from whether it is dirty (first) and whether it is in O (second).
abbrev pub owner_copy : Bool → Bool → ℕ → Copy
owner_copy true false w = Modified w
owner_copy true true w = Owned w
owner_copy false o w = Exclusive w

-- The copy, with the line's word, of a processor that is not the owner: in S if it is a sharer, and otherwise invalid.
abbrev pub sharer_copy : Bool → ℕ → Copy
sharer_copy true w = Shared w
sharer_copy false w = Invalid

-- A processor's copy in a packed record.
abbrev pub copy_at : Inside → ℕ → Copy
copy_at p t = if is_owner p.owner t then owner_copy p.is_dirty p.is_owned p.word else sharer_copy (slice_index_or p.sharers t false) p.word

-- The cache line of a packed record: the copies of all processors, and memory's word.
abbrev pub unpacked : Inside → CacheLine
unpacked p = record { copies = at_each (copy_at p); memory = p.memory }

-- The invariant of packed records. If there are no copies, the word is memory's.
pub record IsPacked (p : Inside) : Type 0 where
  pub as_many : length p.sharers ≡ most_threads
  -- The owner is a processor and no sharer, and there are sharers beside it only in O.
  pub in_range : (o : ℕ) → p.owner ≡ Some o → o < most_threads
  pub owner_is_no_sharer : (o : ℕ) → p.owner ≡ Some o → slice_index_or p.sharers o false ≡ false
  pub no_other_copy : (o : ℕ) → p.owner ≡ Some o → p.is_owned ≡ false → p.sharers ≡ empty_cpu_set
  -- Only an owner is dirty, and only a dirty owner is in O.
  pub unowned : p.owner ≡ None → p.is_dirty ≡ false
  pub owned : p.is_dirty ≡ false → p.is_owned ≡ false
  -- Memory differs only if a copy is dirty.
  pub clean : p.is_dirty ≡ false → p.memory ≡ p.word
