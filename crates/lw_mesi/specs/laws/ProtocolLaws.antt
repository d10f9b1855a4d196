-- Caches of a protocol are a lawful memory system. Their impl cites these proofs; there is no definition here.
use Rattle.std.proofs.Common.{◌≡◌, ℕ, zero, suc, ◌<◌, List, [], ◌∷◌, length, map, set, Some, refl, sym, ap, ◌∙◌, subst, arith, slice_index, slice_set, true}
use Rattle.std.proofs.Common.{length-set, get_or-set_same, get_or-set_other}
use Rattle.std.proofs.lemmas.List.{length-map}
use Rattle.lw_base.specs.Limits.{most_threads}
use Rattle.lw_memory.specs.declared.request.Access.TheVariants.{Load, Store, Update}
use Rattle.lw_memory.specs.declared.request.Request.{Request}
use Rattle.lw_memory.specs.declared.request.Request.TheVariants.{Ask, Evict}
use Rattle.lw_base.specs.Changes.{changed_word}
use Rattle.lw_memory.specs.Memory.{is_held, request_location, IsInRange, IsEnabled}
use Rattle.lw_memory.specs.SystemLaws.{IsLawful, RequestEffect}
use Rattle.lw_mesi.specs.CacheLines.{CacheLine, Caches, copy_of, copy_state, copy_word, unheld_cache_line, cache_line_at, coherent_word, line_state}
use Rattle.lw_mesi.specs.Coherence.{IsCoherentCacheLine, HasProtocolStates, LineSatisfiesProtocol, SatisfiesProtocol, caches_invariant}
use Rattle.lw_mesi.specs.declared.protocol.Protocol.{Protocol}
use Rattle.lw_mesi.specs.Snooping.{cache_line_to_read, cache_line_to_write, cache_line_written, cache_line_evicted, answer_from, caches_after}
use Rattle.lw_mesi.specs.Protocols.{table_of, caches_by}
use Rattle.lw_mesi.specs.laws.Coherent.{at_index, LineAfterRequest}
use Rattle.lw_mesi.specs.laws.Cases.{LineAfterRequest-after_write}
use Rattle.lw_mesi.specs.laws.ProtocolCases.{PreservesCoherentLine-of_table, HasProtocolStates-after_load, HasProtocolStates-after_write, HasProtocolStates-after_eviction}

-- Replacing the line of location x replaces the coherent word of x, and no other.
coherent_words-set : (cache_lines : List CacheLine) (x : ℕ) (line : CacheLine)
    → map coherent_word (set cache_lines x line) ≡ slice_set (map coherent_word cache_lines) x (coherent_word line)
coherent_words-set (l ∷ cache_lines) (suc x) line = ap (λ r. coherent_word l ∷ r) (coherent_words-set cache_lines x line)
coherent_words-set _ _ line = refl

-- If a line has the coherent word of the line of location x, replacing this line by it preserves all coherent words.
coherent_words-set_same_word : (cache_lines : List CacheLine) (x : ℕ) (line : CacheLine)
    → coherent_word line ≡ coherent_word (cache_line_at cache_lines x) → map coherent_word (set cache_lines x line) ≡ map coherent_word cache_lines
coherent_words-set_same_word [] x line e = refl
coherent_words-set_same_word (l ∷ cache_lines) zero line e = ap (λ c. c ∷ map coherent_word cache_lines) e
coherent_words-set_same_word (l ∷ cache_lines) (suc x) line e = ap (λ r. coherent_word l ∷ r) (coherent_words-set_same_word cache_lines x line e)

-- The coherent word of a location's line is at the location's index.
coherent_word-at_location : (cache_lines : List CacheLine) (x : ℕ) → coherent_word (cache_line_at cache_lines x) ≡ slice_index (map coherent_word cache_lines) x
coherent_word-at_location (l ∷ cache_lines) (suc x) = coherent_word-at_location cache_lines x
coherent_word-at_location _ _ = refl

-- If caches and a line satisfy a protocol, so do the caches with that line in place of the one of location x.
pub SatisfiesProtocol-set : (p : Protocol) (m : Caches) (x : ℕ) (line : CacheLine)
    → SatisfiesProtocol p m → x < length m.cache_lines → LineSatisfiesProtocol p line → SatisfiesProtocol p (record { cpus = m.cpus; cache_lines = set m.cache_lines x line })
SatisfiesProtocol-set p m x line ok lt s =
    let each : (P : CacheLine → Type 0) → P line → ((y : ℕ) → y < length m.cache_lines → P (cache_line_at m.cache_lines y))
    → (y : ℕ) → y < length (set m.cache_lines x line) → P (cache_line_at (set m.cache_lines x line) y) =
    λ P new old y within.
    at_index x (λ y. y < length m.cache_lines → P (cache_line_at (set m.cache_lines x line) y))
    (λ _. subst P (sym (get_or-set_same m.cache_lines x line (unheld_cache_line 0) lt)) new)
    (λ y ne within. subst P (sym (get_or-set_other m.cache_lines x y line (unheld_cache_line 0) (λ e. ne (sym e)))) (old y within))
    y
    (omega (arith, length-set m.cache_lines x line))
    in record {
      coherent = record { bounded = ok.coherent.bounded; cache_lines = each IsCoherentCacheLine s.coherent ok.coherent.cache_lines };
      states = each (HasProtocolStates p) s.states ok.states;
    }

-- If caches satisfy a protocol, so does the line of each location x in range.
pub LineSatisfiesProtocol-at_location : (p : Protocol) (m : Caches) (x : ℕ) → SatisfiesProtocol p m → x < length m.cache_lines → LineSatisfiesProtocol p (cache_line_at m.cache_lines x)
LineSatisfiesProtocol-at_location p m x ok lt = record { coherent = ok.coherent.cache_lines x lt; states = ok.states x lt }

-- A line after a request.
module _ (p : Protocol) (t : ℕ) (line : CacheLine) (lt : t < most_threads) (ok : LineSatisfiesProtocol p line) where
  -- A write finds the coherent word in the processor's copy, which it fetches if necessary.
  pub copy_word-to_write : copy_word (copy_of (cache_line_to_write t line) t) ≡ Some (coherent_word line)
  copy_word-to_write = (PreservesCoherentLine-of_table p t line lt ok.coherent ok.states).to_write.word

  -- After a write the line is coherent, and its coherent word is the written one.
  pub LineAfterRequest-of_write : (w : ℕ) → LineAfterRequest w (cache_line_written t w line)
  LineAfterRequest-of_write w = LineAfterRequest-after_write t line lt ok.coherent w (cache_line_to_write t line) (PreservesCoherentLine-of_table p t line lt ok.coherent ok.states).to_write

  -- A load finds the coherent word in the processor's copy, which it fetches if necessary.
  pub copy_word-to_read : copy_word (copy_of (cache_line_to_read (table_of p) t line) t) ≡ Some (coherent_word line)
  copy_word-to_read = (PreservesCoherentLine-of_table p t line lt ok.coherent ok.states).loaded.word

  -- After a load the line is coherent, with the same coherent word.
  pub LineAfterRequest-of_load : LineAfterRequest (coherent_word line) (cache_line_to_read (table_of p) t line)
  LineAfterRequest-of_load = (PreservesCoherentLine-of_table p t line lt ok.coherent ok.states).loaded.after

  -- After an eviction the line is coherent, with the same coherent word.
  pub LineAfterRequest-of_eviction : is_held (copy_state (copy_of line t)) ≡ true → LineAfterRequest (coherent_word line) (cache_line_evicted t line)
  LineAfterRequest-of_eviction = (PreservesCoherentLine-of_table p t line lt ok.coherent ok.states).evicted

  -- After a load the line satisfies the protocol.
  pub LineSatisfiesProtocol-after_load : LineSatisfiesProtocol p (cache_line_to_read (table_of p) t line)
  LineSatisfiesProtocol-after_load = record { coherent = LineAfterRequest-of_load.sound; states = HasProtocolStates-after_load p line ok.states t }

  -- After a write the line satisfies the protocol.
  pub LineSatisfiesProtocol-after_write : (w : ℕ) → LineSatisfiesProtocol p (cache_line_written t w line)
  LineSatisfiesProtocol-after_write w = record { coherent = (LineAfterRequest-of_write w).sound; states = HasProtocolStates-after_write p line ok.states t w }

  -- After an eviction the line satisfies the protocol.
  pub LineSatisfiesProtocol-after_eviction : is_held (copy_state (copy_of line t)) ≡ true → LineSatisfiesProtocol p (cache_line_evicted t line)
  LineSatisfiesProtocol-after_eviction h = record { coherent = (LineAfterRequest-of_eviction h).sound; states = HasProtocolStates-after_eviction p line ok.states t }

-- Each case of the table satisfies the laws.
module _ (p : Protocol) (m : Caches) (ok : SatisfiesProtocol p m) where
  -- The result of a request and the caches after it, by the protocol's table, are as the laws of memory systems demand.
  abbrev IsServed : Request → Type 0
  IsServed r = RequestEffect (caches_by p) (caches_invariant p) m r (answer_from (table_of p) r (cache_line_at m.cache_lines (request_location r))) (caches_after (table_of p) r m)

  -- One processor and one line.
  module _ (t x : ℕ) (cpu : t < m.cpus) (loc : x < length m.cache_lines) where
    -- The cache line of location x.
    abbrev line : CacheLine
    line = cache_line_at m.cache_lines x

    -- The processor's index is below `most_threads`.
    lt : t < most_threads
    lt = omega (arith, ok.coherent.bounded, cpu)

    -- The line of location x satisfies the protocol.
    line_satisfies : LineSatisfiesProtocol p line
    line_satisfies = LineSatisfiesProtocol-at_location p m x ok loc

    -- The caches after a write of v.
    abbrev writes : ℕ → Caches
    writes v = record { cpus = m.cpus; cache_lines = set m.cache_lines x (cache_line_written t v line) }

    -- A write of v sets the coherent word of location x to v, and preserves those of the others.
    coherent_words-after_write : (v : ℕ) → map coherent_word (set m.cache_lines x (cache_line_written t v line)) ≡ slice_set (map coherent_word m.cache_lines) x v
    coherent_words-after_write v = coherent_words-set m.cache_lines x _ ∙ ap (slice_set (map coherent_word m.cache_lines) x) (LineAfterRequest-of_write p t line lt line_satisfies v).content

    -- The caches after a write satisfy the protocol.
    SatisfiesProtocol-after_write : (v : ℕ) → SatisfiesProtocol p (writes v)
    SatisfiesProtocol-after_write v = SatisfiesProtocol-set p m x _ ok loc (LineSatisfiesProtocol-after_write p t line lt line_satisfies v)

    -- Before a write the processor's copy has the coherent word of location x, once it has been fetched.
    old_word : copy_word (copy_of (cache_line_to_write t line) t) ≡ Some (slice_index (map coherent_word m.cache_lines) x)
    old_word = copy_word-to_write p t line lt line_satisfies ∙ ap Some (coherent_word-at_location m.cache_lines x)

  -- An enabled request of a processor and for a location that exist is served as a lawful memory serves it.
  RequestEffect-of_request : (r : Request) → IsInRange m.cpus (length m.cache_lines) r → IsEnabled (line_state m) r → IsServed r
  RequestEffect-of_request (Ask t x Load) (cpu, loc) possible = record {
    possible = tt;
    answer = copy_word-to_read p t (cache_line_at m.cache_lines x) (lt t x cpu loc) (line_satisfies t x cpu loc) ∙ ap Some (coherent_word-at_location m.cache_lines x);
    content = coherent_words-set_same_word m.cache_lines x _ (LineAfterRequest-of_load p t (cache_line_at m.cache_lines x) (lt t x cpu loc) (line_satisfies t x cpu loc)).content;
    cpus = refl;
    sound = SatisfiesProtocol-set p m x _ ok loc (LineSatisfiesProtocol-after_load p t (cache_line_at m.cache_lines x) (lt t x cpu loc) (line_satisfies t x cpu loc));
  }
  RequestEffect-of_request (Ask t x (Store w)) (cpu, loc) possible =
      record { possible = tt; answer = refl; content = coherent_words-after_write t x cpu loc w; cpus = refl; sound = SatisfiesProtocol-after_write t x cpu loc w }
  RequestEffect-of_request (Ask t x (Update change)) (cpu, loc) possible = record {
    possible = tt;
    answer = old_word t x cpu loc;
    content = coherent_words-after_write t x cpu loc (changed_word change (coherent_word (cache_line_at m.cache_lines x)))
        ∙ ap (λ w. slice_set (map coherent_word m.cache_lines) x (changed_word change w)) (coherent_word-at_location m.cache_lines x);
    cpus = refl;
    sound = SatisfiesProtocol-after_write t x cpu loc (changed_word change (coherent_word (cache_line_at m.cache_lines x)));
  }
  RequestEffect-of_request (Evict t x) (cpu, loc) possible = record {
    possible = possible;
    answer = refl;
    content = coherent_words-set_same_word m.cache_lines x _ (LineAfterRequest-of_eviction p t (cache_line_at m.cache_lines x) (lt t x cpu loc) (line_satisfies t x cpu loc) possible).content;
    cpus = refl;
    sound = SatisfiesProtocol-set p m x _ ok loc (LineSatisfiesProtocol-after_eviction p t (cache_line_at m.cache_lines x) (lt t x cpu loc) (line_satisfies t x cpu loc) possible);
  }

-- Caches of each protocol are a lawful memory system.
pub protocol_lawful : (p : Protocol) → IsLawful (caches_by p) (caches_invariant p)
protocol_lawful p = record {
  served = λ m r a n ok s.
      subst (λ k. RequestEffect (caches_by p) (caches_invariant p) m r a k) (sym s.cache_lines)
      (subst (λ b. RequestEffect (caches_by p) (caches_invariant p) m r b (caches_after (table_of p) r m)) (sym s.answer) (RequestEffect-of_request p m ok r s.request_in_range s.possible));
  serves = λ m r ok there possible.
      let inside : IsInRange m.cpus (length m.cache_lines) r = subst (λ k. IsInRange m.cpus k r) (length-map m.cache_lines coherent_word) there in (
        caches_after (table_of p) r m,
        record { request_in_range = inside; possible = possible; answer = sym (RequestEffect-of_request p m ok r inside possible).answer; cache_lines = refl },
      );
}
