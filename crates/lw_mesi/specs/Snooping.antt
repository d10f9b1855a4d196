-- How caches that snoop on an atomic bus handle a request. A request and its bus transaction (GetS: for a copy to read; GetM: for the only
-- copy) are atomic, so stable states suffice. After Sorin, Hill and Wood, 'A Primer on Memory Consistency and Cache Coherence', the chapter
-- on snooping: each row is followed by the entry of its tables, as 'what is sent / the next state'. The tables of MESI and MOESI differ
-- only in the effect of another cache's GetS, which is defined in Protocols; O does not occur under MESI.
use Rattle.std.specs.Prelude.{◌≡◌, ℕ, List, length, map, Option, None, Bool, true, false, slice_set}
use Rattle.std.specs.List.{list_any}
use Rattle.lw_memory.specs.declared.request.Access.{Access}
use Rattle.lw_memory.specs.declared.request.Access.TheVariants.{Load, Store, Update}
use Rattle.lw_memory.specs.declared.request.Request.{Request}
use Rattle.lw_memory.specs.declared.request.Request.TheVariants.{Ask, Evict}
use Rattle.lw_base.specs.Changes.{changed_word}
use Rattle.lw_memory.specs.Memory.{IsInRange, IsEnabled, is_held, request_location}
use Rattle.lw_mesi.specs.CacheLines.{Copy, Modified, Owned, Exclusive, Shared, Invalid, CacheLine, Caches, copy_of, copy_state, cache_line_at, copy_word, coherent_word}
use Rattle.lw_mesi.specs.CacheLines.{line_state}

-- The column in which the protocols' tables differ.
pub record ProtocolTable : Type 0 where
  pub on_other_get_s : Copy → Copy  -- A copy after another cache's GetS.
  pub memory_after_get_s : CacheLine → ℕ  -- The word in memory after it.

-- Tests whether some cache holds the line.
abbrev pub is_held_anywhere : List Copy → Bool
is_held_anywhere copies = list_any (λ c. is_held (copy_state c)) copies

-- The copy that a GetS brings, with the word that was sent: in S if some cache holds the line (`true`), in E otherwise.
abbrev pub copy_from : Bool → ℕ → Copy
copy_from true w = Shared w
copy_from false w = Exclusive w

-- GetS of processor t, which has no copy: t gets the coherent word, and the other copies and memory change as the table says.
abbrev pub get_s : ProtocolTable → ℕ → CacheLine → CacheLine
get_s table t line = record {
  copies = slice_set (map table.on_other_get_s line.copies) t (copy_from (is_held_anywhere line.copies) (coherent_word line));
  memory = table.memory_after_get_s line;
}

-- GetM of processor t: every other copy is invalidated, and t has the coherent word in M. Memory is not written.
abbrev pub get_m : ℕ → CacheLine → CacheLine
get_m t line = record { copies = slice_set (map (λ c. Invalid) line.copies) t (Modified (coherent_word line)); memory = line.memory }

-- The line that is read by a load of processor t, by its copy: a copy is read as it is; without one a GetS comes first.
abbrev pub on_load : ProtocolTable → Copy → ℕ → CacheLine → CacheLine
on_load table Invalid t line = get_s table t line  -- issue GetS / S or E
on_load table held t line = line  -- M, O, E, S: hit / the same

-- The line in which a write of processor t finds the old word, by its copy: in M or E the line as it is; otherwise a GetM comes
-- first.
abbrev pub on_write : Copy → ℕ → CacheLine → CacheLine
on_write (Modified w) t line = line  -- hit / M
on_write (Exclusive w) t line = line  -- hit / M
on_write other t line = get_m t line  -- O, S, I: issue GetM / M

-- The line after an eviction of processor t, by its copy: a copy in M or O is written to memory and invalidated, one in E or S
-- is invalidated, and without a copy, for which an eviction is rejected, nothing changes.
abbrev pub on_evict : Copy → ℕ → CacheLine → CacheLine
on_evict (Modified w) t line = record { copies = slice_set line.copies t Invalid; memory = w }  -- send data to memory / I
on_evict (Owned w) t line = record { copies = slice_set line.copies t Invalid; memory = w }  -- send data to memory / I
-- rejected
on_evict Invalid t line = line
on_evict other t line = record { copies = slice_set line.copies t Invalid; memory = line.memory }  -- E, S: send no data / I

-- The line from which a processor's load takes its word.
abbrev pub cache_line_to_read : ProtocolTable → ℕ → CacheLine → CacheLine
cache_line_to_read table t line = on_load table (copy_of line t) t line

-- The line in which a processor's write finds the old word.
abbrev pub cache_line_to_write : ℕ → CacheLine → CacheLine
cache_line_to_write t line = on_write (copy_of line t) t line

-- The line after the write itself, which leaves the copy in M.
abbrev pub cache_line_with_word : ℕ → ℕ → CacheLine → CacheLine
cache_line_with_word t w line = record { copies = slice_set line.copies t (Modified w); memory = line.memory }

-- The line after a processor's write.
abbrev pub cache_line_written : ℕ → ℕ → CacheLine → CacheLine
cache_line_written t w line = cache_line_with_word t w (cache_line_to_write t line)

-- The line after a processor's eviction.
abbrev pub cache_line_evicted : ℕ → CacheLine → CacheLine
cache_line_evicted t line = on_evict (copy_of line t) t line

-- The line after a processor's access.
abbrev pub cache_line_after_access : ProtocolTable → ℕ → Access → CacheLine → CacheLine
cache_line_after_access table t Load line = cache_line_to_read table t line
cache_line_after_access table t (Store w) line = cache_line_written t w line
cache_line_after_access table t (Update change) line = cache_line_written t (changed_word change (coherent_word line)) line

-- The line of the request's location after it.
abbrev pub cache_line_after : ProtocolTable → Request → CacheLine → CacheLine
cache_line_after table (Ask t x access) line = cache_line_after_access table t access line
cache_line_after table (Evict t x) line = cache_line_evicted t line

-- The result of an access, if it has one. The result of an update is the word before it.
abbrev pub answer_to : ProtocolTable → ℕ → Access → CacheLine → Option ℕ
answer_to table t Load line = copy_word (copy_of (cache_line_to_read table t line) t)
answer_to table t (Store w) line = None
answer_to table t (Update change) line = copy_word (copy_of (cache_line_to_write t line) t)

-- The result of a request, if it has one.
abbrev pub answer_from : ProtocolTable → Request → CacheLine → Option ℕ
answer_from table (Ask t x access) line = answer_to table t access line
answer_from table (Evict t x) line = None

-- All lines after a request.
abbrev pub caches_after : ProtocolTable → Request → Caches → Caches
caches_after table r m =
    record { cpus = m.cpus; cache_lines = slice_set m.cache_lines (request_location r) (cache_line_after table r (cache_line_at m.cache_lines (request_location r))) }

-- The transition relation of a protocol: the lines, an enabled request, its result, and the lines after it.
pub record ProtocolTransition (table : ProtocolTable) (m : Caches) (r : Request) (a : Option ℕ) (n : Caches) : Type 0 where
  pub request_in_range : IsInRange m.cpus (length m.cache_lines) r
  pub possible : IsEnabled (line_state m) r
  pub answer : a ≡ answer_from table r (cache_line_at m.cache_lines (request_location r))
  pub cache_lines : n ≡ caches_after table r m
