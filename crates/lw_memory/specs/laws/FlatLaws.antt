-- Flat memory is lawful. Its impl cites this; there is no definition here.
use Rattle.std.proofs.Common.{ℕ, List, Option, refl}
use Rattle.lw_memory.specs.declared.system.LineState.TheVariants.{I}
use Rattle.lw_memory.specs.declared.request.Request.{Request}
use Rattle.lw_memory.specs.declared.request.Request.TheVariants.{Ask, Evict}
use Rattle.lw_memory.specs.Content.{request_result, words_after}
use Rattle.lw_memory.specs.Flat.{Flat, WordsStep, FlatStep, flat_memory}
use Rattle.lw_memory.specs.SystemLaws.{Invariant, invariant_of, IsLawful, RequestEffect}
use Rattle.lw_memory.specs.Memory.{Memory, memory_of, IsEnabled}

-- ---- The memory system of words.

-- The invariant of words, which every list satisfies, for a number of processors.
abbrev pub words_invariant : ℕ → Invariant (List ℕ)
words_invariant cpus = invariant_of (λ words. cpus) (λ words. Unit {0})

-- A transition of words has what the laws state of a transition, for any number of processors.
RequestEffect-of_words_step : {cpus : ℕ} (m : List ℕ) (r : Request) (a : Option ℕ) (n : List ℕ) → WordsStep m r a n → RequestEffect flat_memory (words_invariant cpus) m r a n
RequestEffect-of_words_step m (Ask t x access) a n s = record { possible = tt; answer = s.0; content = s.1; cpus = refl; sound = tt }
RequestEffect-of_words_step m (Evict t x) a n s = absurd s

-- Every request that is enabled without caches has a transition, with the result of the laws.
WordsStep-exists : (m : List ℕ) (r : Request) → IsEnabled (λ t x. I) r → (n : List ℕ) × WordsStep m r (request_result m r) n
WordsStep-exists m (Ask t x access) h = (words_after m x access, (refl, refl))
WordsStep-exists m (Evict t x) h = cc

-- The memory system of words is lawful.
pub words_lawful : (cpus : ℕ) → IsLawful flat_memory (words_invariant cpus)
words_lawful cpus = record {
  served = λ m r a n sound s. RequestEffect-of_words_step m r a n s;
  serves = λ m r sound there possible. WordsStep-exists m r possible;
}

-- ---- The memory system of flat memory's states.

-- The memory system of flat memory's states.
abbrev pub flats : Memory Flat
flats = memory_of (λ (m : Flat). m.words) (λ (m : Flat) t x. I) FlatStep

-- The invariant of flat memory, which every state satisfies.
abbrev pub flats_invariant : Invariant Flat
flats_invariant = invariant_of (λ (m : Flat). m.cpus) (λ (m : Flat). Unit {0})

-- A transition of flat memory's states has what the laws state of a transition.
RequestEffect-of_flat_step : (m : Flat) (r : Request) (a : Option ℕ) (n : Flat) → FlatStep m r a n → RequestEffect flats flats_invariant m r a n
RequestEffect-of_flat_step m r a n s =
    let w : RequestEffect flat_memory (words_invariant m.cpus) m.words r a n.words = RequestEffect-of_words_step m.words r a n.words s.0 in
    record { possible = w.possible; answer = w.answer; content = w.content; cpus = s.1; sound = tt }

-- Every request that is enabled without caches has a transition, with the result of the laws.
FlatStep-exists : (m : Flat) (r : Request) → IsEnabled (λ t x. I) r → (n : Flat) × FlatStep m r (request_result m.words r) n
FlatStep-exists m r h = let w = WordsStep-exists m.words r h in (record m { words = w.0 }, (w.1, refl))

-- Flat memory is lawful.
pub flat_lawful : IsLawful flats flats_invariant
flat_lawful = record {
  served = λ m r a n sound s. RequestEffect-of_flat_step m r a n s;
  serves = λ m r sound there possible. FlatStep-exists m r possible;
}
