-- Each case of a protocol's table preserves the coherent word and coherence, in every protocol. An impl cites these proofs; there is no
-- definition of the protocols here.
use Rattle.std.proofs.Common.{◌≡◌, ◌≢◌, ℕ, zero, suc, ◌<◌, List, [], ◌∷◌, length, map, set, Some, Bool, true, false, refl, sym, ap, ◌∙◌, subst, arith}
use Rattle.std.proofs.Common.{length-set}
use Rattle.std.proofs.lemmas.List.{length-map}
use Rattle.lw_base.specs.Limits.{most_threads}
use Rattle.lw_memory.specs.Memory.{is_held}
use Rattle.lw_mesi.specs.CacheLines.{Copy, Modified, Invalid, CacheLine, copy_of, copy_state, copy_word, dirty_word_or, coherent_word}
use Rattle.lw_mesi.specs.Coherence.{IsOnlyCopy, IsDirty, IsCoherentCacheLine}
use Rattle.lw_mesi.specs.Snooping.{ProtocolTable, is_held_anywhere, copy_from, get_m, cache_line_to_read, cache_line_to_write, cache_line_with_word, cache_line_evicted}
use Rattle.lw_mesi.specs.laws.Coherent.{copy_in, at_index, copy_in-set_same, copy_in-set_other, copy_in-map, dirty_word_or-if_clean, dirty_word_or-if_dirty, dirty_word_or-set_clean, HasNoOtherCopy, copy_word-none_if_invalid, copy_word-unique, IsCoherentCacheLine-if_single, LineAfterRequest}

-- If `is_held_anywhere` is false of a list of copies, each of them is invalid.
pub copy_in-invalid_if_none_held : (copies : List Copy) → is_held_anywhere copies ≡ false → (t : ℕ) → copy_in copies t ≡ Invalid
copy_in-invalid_if_none_held [] h t = refl
copy_in-invalid_if_none_held (Invalid ∷ copies) h zero = refl
copy_in-invalid_if_none_held (Invalid ∷ copies) h (suc t) = copy_in-invalid_if_none_held copies h t
copy_in-invalid_if_none_held _ h t = cc

-- The copy that a load brings, in S or in E, is not dirty.
not-IsDirty-of_copy_from : (held : Bool) (w : ℕ) → IsDirty (copy_from held w) → ⊥
not-IsDirty-of_copy_from true w h = h
not-IsDirty-of_copy_from false w h = h

-- The copy that a load brings has the word that was sent.
pub copy_word-copy_from : (held : Bool) (w : ℕ) → copy_word (copy_from held w) ≡ Some w
copy_word-copy_from true w = refl
copy_word-copy_from false w = refl

-- The effect of a GetS on the other copies, in each protocol: it preserves their words, leaves none in M or E, and makes none dirty.
pub record SharesOthers (f : Copy → Copy) (line : CacheLine) : Type 0 where
  pub invalid : f Invalid ≡ Invalid
  pub word : (u : ℕ) → copy_word (f (copy_of line u)) ≡ copy_word (copy_of line u)
  pub free : (u : ℕ) → IsOnlyCopy (f (copy_of line u)) → ⊥
  pub dirty : (u : ℕ) → IsDirty (f (copy_of line u)) → IsDirty (copy_of line u)

module _ (t : ℕ) (line : CacheLine) (lt : t < most_threads) (sound : IsCoherentCacheLine line) where
  -- What a write finds in line l: only processor t has a copy, and it has the coherent word of `line`.
  pub record ToWrite (l : CacheLine) : Type 0 where
    pub as_many : length l.copies ≡ most_threads
    pub word : copy_word (copy_of l t) ≡ Some (coherent_word line)
    pub others : HasNoOtherCopy l t

  -- If processor t has a copy in M or E, a write hits: it is the only copy, and has the coherent word.
  pub ToWrite-if_hit : (c : Copy) (w : ℕ) → copy_of line t ≡ c → copy_word c ≡ Some w → IsOnlyCopy c → ToWrite line
  ToWrite-if_hit c w e h own = record {
    as_many = sound.as_many;
    word = (ap copy_word e ∙ h) ∙ ap Some (sound.same_word t w (ap copy_word e ∙ h));
    others = λ u ne. sound.no_other_copy t u (subst IsOnlyCopy (sym e) own) ne;
  }

  -- After processor t's GetM the other copies are gone, and its own has the coherent word.
  pub ToWrite-after_get_m : ToWrite (get_m t line)
  ToWrite-after_get_m =
      let gone : List Copy = map (λ c. Invalid) line.copies in
      let long : length gone ≡ most_threads = length-map line.copies (λ c. Invalid) ∙ sound.as_many in
      record {
        as_many = length-set gone t (Modified (coherent_word line)) ∙ long;
        word = ap copy_word (copy_in-set_same gone t (Modified (coherent_word line)) (omega (arith, long)));
        others = λ u ne. copy_in-set_other gone t (Modified (coherent_word line)) u ne ∙ copy_in-map (λ c. Invalid) line.copies u refl;
      }

  -- If only processor t has a copy of l, then l with t's copy in M with the word w is coherent, and its coherent word is w.
  pub LineAfterRequest-after_write : (w : ℕ) (l : CacheLine) → ToWrite l → LineAfterRequest w (cache_line_with_word t w l)
  LineAfterRequest-after_write w l h =
      let copies : List Copy = set l.copies t (Modified w) in
      let here : copy_in copies t ≡ Modified w = copy_in-set_same l.copies t (Modified w) (omega (arith, h.as_many)) in
      let others : (u : ℕ) → t ≢ u → copy_in copies u ≡ Invalid = λ u ne. copy_in-set_other l.copies t (Modified w) u ne ∙ h.others u ne in
      let d : dirty_word_or l.memory copies ≡ w =
      dirty_word_or-if_dirty l.memory w copies t (subst IsDirty (sym here) tt) (ap copy_word here) (λ u ne x. subst IsDirty (others u ne) x) in
      record {
        content = d;
        sound = IsCoherentCacheLine-if_single (cache_line_with_word t w l) t (length-set l.copies t (Modified w) ∙ h.as_many) others
            (λ k e. copy_word-unique (copy_in copies t) k w (ap copy_word here) e ∙ sym d);
      }

  -- What a load leaves: the same coherent word, and a copy with it.
  pub record Loaded (l : CacheLine) : Type 0 where
    pub after : LineAfterRequest (coherent_word line) l
    pub word : copy_word (copy_of l t) ≡ Some (coherent_word line)

  -- If processor t has a copy, a load leaves the line as it is: it is coherent, and t's copy has the coherent word.
  pub Loaded-if_hit : (c : Copy) (w : ℕ) → copy_of line t ≡ c → copy_word c ≡ Some w → Loaded line
  Loaded-if_hit c w e h = record {
    after = record { content = refl; sound = sound };
    word = (ap copy_word e ∙ h) ∙ ap Some (sound.same_word t w (ap copy_word e ∙ h));
  }

  -- The copies of the line, with c as the own copy, and the others changed by f.
  record Changes (f : Copy → Copy) (c : Copy) (copies : List Copy) (m : ℕ) : Type 0 where
    invalid : f Invalid ≡ Invalid
    long : length copies ≡ most_threads
    others : (u : ℕ) → copy_in copies u ≡ f (copy_of line u)
    -- The coherent word is unchanged.
    content : dirty_word_or m (set copies t c) ≡ coherent_word line
    -- The own copy is not dirty, and has the coherent word if it has one.
    clean : IsDirty c → ⊥
    own : (w : ℕ) → copy_word c ≡ Some w → w ≡ coherent_word line
    -- The others have their words, and none becomes dirty.
    word : (u : ℕ) → copy_word (f (copy_of line u)) ≡ copy_word (copy_of line u)
    dirty : (u : ℕ) → IsDirty (f (copy_of line u)) → IsDirty (copy_of line u)
    -- If a copy is in M or E, there is no other, and none becomes so beside another.
    no_other_copy : IsOnlyCopy c → (u : ℕ) → f (copy_of line u) ≡ Invalid
    only : (u : ℕ) → IsOnlyCopy (f (copy_of line u)) → IsOnlyCopy (copy_of line u) × (c ≡ Invalid)

  -- Such a line is coherent, with the coherent word of `line`.
  LineAfterRequest-if_changes : (f : Copy → Copy) (c : Copy) (copies : List Copy) (m : ℕ)
      → Changes f c copies m
      → LineAfterRequest (coherent_word line) (record { copies = set copies t c; memory = m })
  LineAfterRequest-if_changes f c copies m h =
      let l : CacheLine = record { copies = set copies t c; memory = m } in
      let here : copy_of l t ≡ c = copy_in-set_same copies t c (let long = h.long in omega (arith, long)) in
      let there : (u : ℕ) → t ≢ u → copy_of l u ≡ f (copy_of line u) = λ u ne. copy_in-set_other copies t c u ne ∙ h.others u in
      record {
        content = h.content;
        sound = record {
          as_many = length-set copies t c ∙ h.long;
          no_other_copy = at_index t (λ a. (u : ℕ) → IsOnlyCopy (copy_of l a) → a ≢ u → copy_of l u ≡ Invalid)
              (λ u only ne. there u ne ∙ h.no_other_copy (subst IsOnlyCopy here only) u)
              (λ a na u only. at_index t (λ u. a ≢ u → copy_of l u ≡ Invalid)
              (λ ne. here ∙ (h.only a (subst IsOnlyCopy (there a na) only)).1)
              (λ u nu ne. there u nu ∙ ap f (sound.no_other_copy a u (h.only a (subst IsOnlyCopy (there a na) only)).0 ne) ∙ h.invalid) u);
          one_dirty = at_index t (λ a. (u : ℕ) → IsDirty (copy_of l a) → IsDirty (copy_of l u) → a ≡ u)
              (λ u d e. absurd (h.clean (subst IsDirty here d)))
              (λ a na. at_index t (λ u. IsDirty (copy_of l a) → IsDirty (copy_of l u) → a ≡ u)
              (λ d e. absurd (h.clean (subst IsDirty here e)))
              (λ u nu d e. sound.one_dirty a u (h.dirty a (subst IsDirty (there a na) d)) (h.dirty u (subst IsDirty (there u nu) e))));
          same_word = at_index t (λ u. (w : ℕ) → copy_word (copy_of l u) ≡ Some w → w ≡ coherent_word l)
              (λ w e. h.own w (sym (ap copy_word here) ∙ e) ∙ sym h.content)
              (λ u ne w e. sound.same_word u w (sym (ap copy_word (there u ne) ∙ h.word u) ∙ e) ∙ sym h.content);
        };
      }

  -- If t has no copy, f shares the others' copies, and the coherent word is the same after f with m in memory, then a GetS
  -- leaves a coherent line with the same coherent word, in which t has a copy with it: in E (b is `false`) only if no processor
  -- held the line.
  pub Loaded-after_get_s : (f : Copy → Copy) (m : ℕ)
      → SharesOthers f line → dirty_word_or m (map f line.copies) ≡ coherent_word line → copy_of line t ≡ Invalid
      → (b : Bool) → (b ≡ false → is_held_anywhere line.copies ≡ false)
      → Loaded (record { copies = set (map f line.copies) t (copy_from b (coherent_word line)); memory = m })
  Loaded-after_get_s f m shared same mine b held =
      let v : ℕ = coherent_word line in
      let are : (u : ℕ) → copy_in (map f line.copies) u ≡ f (copy_of line u) = λ u. copy_in-map f line.copies u shared.invalid in
      let long : length (map f line.copies) ≡ most_threads = length-map line.copies f ∙ sound.as_many in
      let old_clean : IsDirty (copy_in (map f line.copies) t) → ⊥ = λ d. subst IsDirty (are t ∙ ap f mine ∙ shared.invalid) d in
      record {
        after = LineAfterRequest-if_changes f (copy_from b v) (map f line.copies) m (record {
          invalid = shared.invalid;
          long = long;
          others = are;
          content = dirty_word_or-set_clean m (map f line.copies) t (copy_from b v) old_clean (not-IsDirty-of_copy_from b v) ∙ same;
          clean = not-IsDirty-of_copy_from b v;
          own = λ w h. copy_word-unique (copy_from b v) w v (copy_word-copy_from b v) h;
          word = shared.word;
          dirty = shared.dirty;
          no_other_copy = λ only u. nobody b held only u;
          only = λ u only. absurd (shared.free u only);
        });
        word = ap copy_word (copy_in-set_same (map f line.copies) t (copy_from b v) (omega (arith, long))) ∙ copy_word-copy_from b v;
      }
    where
      -- If t's new copy is in E (b is `false`), every other copy is invalid.
      nobody : (b : Bool) → (b ≡ false → is_held_anywhere line.copies ≡ false) → IsOnlyCopy (copy_from b (coherent_word line)) → (u : ℕ) → f (copy_of line u) ≡ Invalid
      nobody true e own u = absurd own
      nobody false e own u = ap f (copy_in-invalid_if_none_held line.copies (e refl) u) ∙ shared.invalid

  -- If the coherent word is the same with t's copy invalidated and m in memory, that line is coherent.
  LineAfterRequest-without_own : (m : ℕ)
      → dirty_word_or m (set line.copies t Invalid) ≡ coherent_word line → LineAfterRequest (coherent_word line) (record { copies = set line.copies t Invalid; memory = m })
  LineAfterRequest-without_own m content = LineAfterRequest-if_changes (λ c. c) Invalid line.copies m (record {
    invalid = refl;
    long = sound.as_many;
    others = λ u. refl;
    content = content;
    clean = λ d. d;
    own = λ w h. copy_word-none_if_invalid Invalid w (coherent_word line) refl h;
    word = λ u. refl;
    dirty = λ u d. d;
    no_other_copy = λ only. absurd only;
    only = λ u only. (only, refl);
  })

  -- If t's copy is dirty with the word w, the line with that copy invalidated and w in memory is coherent, with the same
  -- coherent word.
  pub LineAfterRequest-if_dirty_copy_evicted : (c : Copy) (w : ℕ) → copy_of line t ≡ c → copy_word c ≡ Some w → IsDirty c
      → LineAfterRequest (coherent_word line) (record { copies = set line.copies t Invalid; memory = w })
  LineAfterRequest-if_dirty_copy_evicted c w e h own =
      let copies : List Copy = set line.copies t Invalid in
      let none : (u : ℕ) → IsDirty (copy_in copies u) → ⊥ =
      at_index t (λ u. IsDirty (copy_in copies u) → ⊥)
      (λ d. subst IsDirty (copy_in-set_same line.copies t Invalid (omega (arith, sound.as_many))) d)
      (λ u ne d. ne (sound.one_dirty t u (subst IsDirty (sym e) own) (subst IsDirty (copy_in-set_other line.copies t Invalid u ne) d))) in
      LineAfterRequest-without_own w (dirty_word_or-if_clean w copies none ∙ sound.same_word t w (ap copy_word e ∙ h))

  -- If t's copy is not dirty, the line with that copy invalidated and the same word in memory is coherent, with the same
  -- coherent word.
  pub LineAfterRequest-if_clean_copy_evicted : (c : Copy) → copy_of line t ≡ c → (IsDirty c → ⊥)
      → LineAfterRequest (coherent_word line) (record { copies = set line.copies t Invalid; memory = line.memory })
  LineAfterRequest-if_clean_copy_evicted c e not = LineAfterRequest-without_own line.memory (dirty_word_or-set_clean line.memory line.copies t Invalid (λ d. not (subst IsDirty e d)) (λ d. d))

  -- The cases of a protocol's table preserve the coherent cache line: what a write finds, and what a load and an eviction leave.
  pub record PreservesCoherentLine (table : ProtocolTable) : Type 0 where
    pub to_write : ToWrite (cache_line_to_write t line)
    pub loaded : Loaded (cache_line_to_read table t line)
    pub evicted : is_held (copy_state (copy_of line t)) ≡ true → LineAfterRequest (coherent_word line) (cache_line_evicted t line)
