-- Flat memory: one word for each location, without caches.
use Rattle.std.specs.Prelude.{◌≡◌, ℕ, List, Option}
use Rattle.lw_memory.specs.declared.system.LineState.TheVariants.{I}
use Rattle.lw_memory.specs.declared.request.Request.{Request}
use Rattle.lw_memory.specs.declared.request.Request.TheVariants.{Ask, Evict}
use Rattle.lw_memory.specs.Content.{value_returned, words_after}
use Rattle.lw_memory.specs.Memory.{Memory}

-- What a contract sees of flat memory: its number of processors, and its words.
pub record Flat : Type 0 where
  pub cpus : ℕ
  pub words : List ℕ

-- The transition relation on words: an access, its result, and the words after it. There is none for an eviction.
abbrev pub WordsStep : List ℕ → Request → Option ℕ → List ℕ → Type 0
WordsStep words (Ask t x access) a after = (a ≡ value_returned words x access) × (after ≡ words_after words x access)
WordsStep words (Evict t x) a after = ⊥

-- The transition relation of flat memory: that of its words; the number of processors is preserved.
abbrev pub FlatStep : Flat → Request → Option ℕ → Flat → Type 0
FlatStep m r a n = WordsStep m.words r a n.words × (n.cpus ≡ m.cpus)

-- Flat memory as a memory system whose states are its words.
abbrev pub flat_memory : Memory (List ℕ)
flat_memory = record { content = λ words. words; state = λ words t x. I; serves = WordsStep }
