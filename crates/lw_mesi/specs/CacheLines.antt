-- Cache lines: at most one copy for each processor and location, and memory's words.
use Rattle.std.specs.Prelude.{ℕ, List, [], ◌∷◌, map, replicate, Option, Some, None, slice_index_or}
use Rattle.lw_base.specs.Limits.{most_threads}
use Rattle.lw_memory.specs.declared.system.LineState.{LineState}
use Rattle.lw_memory.specs.declared.system.LineState.TheVariants.{M, O, E, S, I}

-- A processor's copy of a location: its state and its word.
pub data Copy : Type 0 where
  Modified : ℕ → Copy  -- M: the only copy. Memory may differ.
  Owned : ℕ → Copy  -- O: other copies may be in S. Memory may differ.
  Exclusive : ℕ → Copy  -- E: the only copy. Memory has the same word.
  Shared : ℕ → Copy  -- S: other copies may be in S. Memory has the same word unless another copy is in O.
  Invalid : Copy  -- I: no copy.

-- The copies of one location, by processor, and memory's word.
pub record CacheLine : Type 0 where
  pub copies : List Copy
  pub memory : ℕ

-- The cache lines of all locations, by index, and the number of processors.
pub record Caches : Type 0 where
  pub cpus : ℕ
  pub cache_lines : List CacheLine

-- A location that no cache holds, with this word in memory.
abbrev pub unheld_cache_line : ℕ → CacheLine
unheld_cache_line w = record { copies = replicate most_threads Invalid; memory = w }

-- Empty caches, over a memory with these words.
abbrev pub empty_caches : ℕ → List ℕ → Caches
empty_caches cpus words = record { cpus = cpus; cache_lines = map unheld_cache_line words }

-- The copy that the processor with this index has in a cache line; `Invalid` past the last.
abbrev pub copy_of : CacheLine → ℕ → Copy
copy_of line t = slice_index_or line.copies t Invalid

-- The cache line of the location with this index; one that no cache holds past the last.
abbrev pub cache_line_at : List CacheLine → ℕ → CacheLine
cache_line_at cache_lines x = slice_index_or cache_lines x (unheld_cache_line 0)

-- The state of a copy.
abbrev pub copy_state : Copy → LineState
copy_state (Modified w) = M
copy_state (Owned w) = O
copy_state (Exclusive w) = E
copy_state (Shared w) = S
copy_state Invalid = I

-- The word of a copy; `None` if there is no copy.
abbrev pub copy_word : Copy → Option ℕ
copy_word (Modified w) = Some w
copy_word (Owned w) = Some w
copy_word (Exclusive w) = Some w
copy_word (Shared w) = Some w
copy_word Invalid = None

-- The word of the first copy in M or O, or the first argument if there is no such copy.
abbrev pub dirty_word_or : ℕ → List Copy → ℕ
dirty_word_or w [] = w
dirty_word_or w (Modified v ∷ copies) = v
dirty_word_or w (Owned v ∷ copies) = v
dirty_word_or w (clean ∷ copies) = dirty_word_or w copies

-- The coherent word of a location: that of the copy in M or O, if there is one, and memory's otherwise.
abbrev pub coherent_word : CacheLine → ℕ
coherent_word line = dirty_word_or line.memory line.copies

-- The coherent word of every location.
abbrev pub coherent_words : Caches → List ℕ
coherent_words m = map coherent_word m.cache_lines

-- The words in memory.
abbrev pub memory_words_of : Caches → List ℕ
memory_words_of m = map (λ (line : CacheLine). line.memory) m.cache_lines

-- The state of a processor's copy of a location.
abbrev pub line_state : Caches → ℕ → ℕ → LineState
line_state m t x = copy_state (copy_of (cache_line_at m.cache_lines x) t)
