-- Each case of MESI and of MOESI preserves the coherent word of a line, its coherence, and that its copies are in states of the protocol.
-- An impl cites these proofs; there is no definition of the protocols here.
use Rattle.std.proofs.Common.{◌≡◌, ℕ, zero, suc, ◌<◌, List, [], ◌∷◌, map, set, Bool, true, false, refl, sym, subst}
use Rattle.lw_base.specs.Limits.{most_threads}
use Rattle.lw_memory.specs.Memory.{is_held}
use Rattle.lw_mesi.specs.declared.protocol.Protocol.{Protocol}
use Rattle.lw_mesi.specs.declared.protocol.Protocol.TheVariants.{Mesi, Moesi}
use Rattle.lw_mesi.specs.CacheLines.{Copy, Modified, Owned, Exclusive, Shared, Invalid, CacheLine, copy_of, copy_state, copy_word, dirty_word_or, coherent_word}
use Rattle.lw_mesi.specs.Coherence.{IsOnlyCopy, IsDirty, IsCoherentCacheLine, IsProtocolState, HasProtocolStates}
use Rattle.lw_mesi.specs.Snooping.{is_held_anywhere, copy_from, get_m, on_load, on_write, on_evict, cache_line_to_read, cache_line_to_write, cache_line_written, cache_line_evicted}
use Rattle.lw_mesi.specs.Protocols.{table_of, mesi_on_other_get_s, moesi_on_other_get_s}
use Rattle.lw_mesi.specs.laws.Coherent.{copy_in, copy_in-map, dirty_word_or-if_clean, LineAfterRequest}
use Rattle.lw_mesi.specs.laws.Cases.{SharesOthers, ToWrite, ToWrite-if_hit, ToWrite-after_get_m, Loaded, Loaded-if_hit, Loaded-after_get_s, LineAfterRequest-if_dirty_copy_evicted, LineAfterRequest-if_clean_copy_evicted, PreservesCoherentLine}

-- Each protocol has the state I.
pub IsProtocolState-invalid : (p : Protocol) → IsProtocolState p Invalid
IsProtocolState-invalid Mesi = tt
IsProtocolState-invalid Moesi = tt

-- Under each protocol another cache's GetS leaves an invalid copy invalid.
pub on_other_get_s-invalid : (p : Protocol) → (table_of p).on_other_get_s Invalid ≡ Invalid
on_other_get_s-invalid Mesi = refl
on_other_get_s-invalid Moesi = refl

-- After another cache's GetS a copy has the same word, is not in M or E, and is dirty only if it was.
on_other_get_s-copy : (p : Protocol) (c : Copy) → let d = (table_of p).on_other_get_s c in
    (copy_word d ≡ copy_word c) × (IsOnlyCopy d → ⊥) × (IsDirty d → IsDirty c)
on_other_get_s-copy Mesi (Modified w) = (refl, (λ h. h), (λ d. absurd d))
on_other_get_s-copy Moesi (Modified w) = (refl, (λ h. h), (λ d. d))
on_other_get_s-copy _ _ = (refl, (λ h. h), (λ d. d))

-- Under MESI a copy in a state of the protocol is not dirty after another cache's GetS.
not-IsDirty-after_get_s : (c : Copy) → IsProtocolState Mesi c → IsDirty (mesi_on_other_get_s c) → ⊥
not-IsDirty-after_get_s (Owned w) s d = s
not-IsDirty-after_get_s _ s d = d

-- Under MOESI another cache's GetS, done to all copies, preserves the coherent word, since a dirty copy remains dirty.
dirty_word_or-after_get_s : (m : ℕ) (copies : List Copy) → dirty_word_or m (map moesi_on_other_get_s copies) ≡ dirty_word_or m copies
dirty_word_or-after_get_s m (Exclusive w ∷ copies) = dirty_word_or-after_get_s m copies
dirty_word_or-after_get_s m (Shared w ∷ copies) = dirty_word_or-after_get_s m copies
dirty_word_or-after_get_s m (Invalid ∷ copies) = dirty_word_or-after_get_s m copies
dirty_word_or-after_get_s m _ = refl

-- If the copies are in states of the protocol, another cache's GetS, done to every copy and to memory, preserves the coherent
-- word. The requestor's new copy is put after it (`Loaded-after_get_s`).
coherent_word-after_get_s : (p : Protocol) (line : CacheLine) → HasProtocolStates p line
    → dirty_word_or ((table_of p).memory_after_get_s line) (map (table_of p).on_other_get_s line.copies) ≡ coherent_word line
coherent_word-after_get_s Mesi line states =
    dirty_word_or-if_clean (coherent_word line) (map mesi_on_other_get_s line.copies)
    (λ u d. not-IsDirty-after_get_s (copy_of line u) (states u) (subst IsDirty (copy_in-map mesi_on_other_get_s line.copies u refl) d))
coherent_word-after_get_s Moesi line states = dirty_word_or-after_get_s line.memory line.copies

module _ (p : Protocol) (t : ℕ) (line : CacheLine) (lt : t < most_threads) (sound : IsCoherentCacheLine line) (states : HasProtocolStates p line) where
  -- Whatever the copy of t was, a write finds that only t has a copy, with the coherent word.
  to_write : (c : Copy) → copy_of line t ≡ c → ToWrite t line lt sound (on_write c t line)
  to_write (Modified w) e = ToWrite-if_hit t line lt sound (Modified w) w e refl tt
  to_write (Exclusive w) e = ToWrite-if_hit t line lt sound (Exclusive w) w e refl tt
  to_write _ e = ToWrite-after_get_m t line lt sound

  -- Another cache's GetS preserves the words of the copies, leaves none in M or E, and makes none dirty.
  SharesOthers-of_get_s : SharesOthers (table_of p).on_other_get_s line
  SharesOthers-of_get_s = record {
    invalid = on_other_get_s-invalid p;
    word = λ u. (on_other_get_s-copy p (copy_of line u)).0;
    free = λ u. (on_other_get_s-copy p (copy_of line u)).1;
    dirty = λ u. (on_other_get_s-copy p (copy_of line u)).2;
  }

  -- Whatever the copy of t was, a load preserves the coherent word and the coherence of the line, and t then has a copy with this word.
  loaded : (c : Copy) → copy_of line t ≡ c → Loaded t line lt sound (on_load (table_of p) c t line)
  loaded (Modified w) e = Loaded-if_hit t line lt sound (Modified w) w e refl
  loaded (Owned w) e = Loaded-if_hit t line lt sound (Owned w) w e refl
  loaded (Exclusive w) e = Loaded-if_hit t line lt sound (Exclusive w) w e refl
  loaded (Shared w) e = Loaded-if_hit t line lt sound (Shared w) w e refl
  loaded Invalid e =
      Loaded-after_get_s t line lt sound (table_of p).on_other_get_s ((table_of p).memory_after_get_s line) SharesOthers-of_get_s (coherent_word-after_get_s p line states)
      e (is_held_anywhere line.copies) (λ none. none)

  -- The eviction of a copy that is held preserves the coherent word and the coherence of the line.
  evicted : (c : Copy) → copy_of line t ≡ c → is_held (copy_state c) ≡ true → LineAfterRequest (coherent_word line) (on_evict c t line)
  evicted (Modified w) e h = LineAfterRequest-if_dirty_copy_evicted t line lt sound (Modified w) w e refl tt
  evicted (Owned w) e h = LineAfterRequest-if_dirty_copy_evicted t line lt sound (Owned w) w e refl tt
  evicted (Exclusive w) e h = LineAfterRequest-if_clean_copy_evicted t line lt sound (Exclusive w) e (λ d. d)
  evicted (Shared w) e h = LineAfterRequest-if_clean_copy_evicted t line lt sound (Shared w) e (λ d. d)
  evicted Invalid e h = cc

  -- The table of each protocol preserves coherence and the coherent word, in each case.
  pub PreservesCoherentLine-of_table : PreservesCoherentLine t line lt sound (table_of p)
  PreservesCoherentLine-of_table = record { to_write = to_write (copy_of line t) refl; loaded = loaded (copy_of line t) refl; evicted = evicted (copy_of line t) refl }

-- Each protocol has the state M, in which a write leaves a copy.
IsProtocolState-modified : (p : Protocol) (w : ℕ) → IsProtocolState p (Modified w)
IsProtocolState-modified Mesi w = tt
IsProtocolState-modified Moesi w = tt

-- Each protocol has the states S (b is `true`) and E, in which a load brings a copy.
IsProtocolState-copy_from : (p : Protocol) (b : Bool) (w : ℕ) → IsProtocolState p (copy_from b w)
IsProtocolState-copy_from Mesi true w = tt
IsProtocolState-copy_from Mesi false w = tt
IsProtocolState-copy_from Moesi b w = tt

-- If a copy is in a state of the protocol, it is so after another cache's GetS.
IsProtocolState-after_get_s : (p : Protocol) (c : Copy) → IsProtocolState p c → IsProtocolState p ((table_of p).on_other_get_s c)
IsProtocolState-after_get_s Mesi (Owned w) s = s
IsProtocolState-after_get_s _ _ s = tt

-- If all copies, and c, are in states of the protocol, so are all after c is set at t.
IsProtocolState-set : (p : Protocol) (copies : List Copy) (t : ℕ) (c : Copy)
    → IsProtocolState p c → ((u : ℕ) → IsProtocolState p (copy_in copies u)) → (u : ℕ) → IsProtocolState p (copy_in (set copies t c) u)
IsProtocolState-set p [] t c here there u = there u
IsProtocolState-set p (k ∷ copies) zero c here there zero = here
IsProtocolState-set p (k ∷ copies) zero c here there (suc u) = there (suc u)
IsProtocolState-set p (k ∷ copies) (suc t) c here there zero = there zero
IsProtocolState-set p (k ∷ copies) (suc t) c here there (suc u) = IsProtocolState-set p copies t c here (λ u. there (suc u)) u

-- If f preserves states of the protocol, and an invalid copy, and all copies are in such states, so are all after f.
IsProtocolState-map : (p : Protocol) (f : Copy → Copy) (copies : List Copy)
    → f Invalid ≡ Invalid → ((c : Copy) → IsProtocolState p c → IsProtocolState p (f c)) → ((u : ℕ) → IsProtocolState p (copy_in copies u))
    → (u : ℕ) → IsProtocolState p (copy_in (map f copies) u)
IsProtocolState-map p f copies invalid preserves states u = subst (IsProtocolState p) (sym (copy_in-map f copies u invalid)) (preserves (copy_in copies u) (states u))

module _ (p : Protocol) (line : CacheLine) (states : HasProtocolStates p line) where
  -- After a load, by the copy c, all copies are in states of the protocol, since they were before.
  HasProtocolStates-on_load : (c : Copy) (t : ℕ) → HasProtocolStates p (on_load (table_of p) c t line)
  HasProtocolStates-on_load Invalid t =
      IsProtocolState-set p (map (table_of p).on_other_get_s line.copies) t (copy_from (is_held_anywhere line.copies) (coherent_word line))
      (IsProtocolState-copy_from p (is_held_anywhere line.copies) (coherent_word line))
      (IsProtocolState-map p (table_of p).on_other_get_s line.copies (on_other_get_s-invalid p) (IsProtocolState-after_get_s p) states)
  HasProtocolStates-on_load _ t = states

  -- After a GetM all copies are in states of the protocol, since they were before.
  HasProtocolStates-get_m : (t : ℕ) → HasProtocolStates p (get_m t line)
  HasProtocolStates-get_m t =
      IsProtocolState-set p (map (λ c. Invalid) line.copies) t (Modified (coherent_word line)) (IsProtocolState-modified p (coherent_word line))
      (IsProtocolState-map p (λ c. Invalid) line.copies refl (λ c s. IsProtocolState-invalid p) states)

  -- After a write, by the copy c, all copies are in states of the protocol, since they were before.
  HasProtocolStates-on_write : (c : Copy) (t : ℕ) → HasProtocolStates p (on_write c t line)
  HasProtocolStates-on_write (Modified w) t = states
  HasProtocolStates-on_write (Exclusive w) t = states
  HasProtocolStates-on_write _ t = HasProtocolStates-get_m t

  -- After an eviction, by the copy c, all copies are in states of the protocol, since they were before.
  HasProtocolStates-on_evict : (c : Copy) (t : ℕ) → HasProtocolStates p (on_evict c t line)
  HasProtocolStates-on_evict Invalid t = states
  HasProtocolStates-on_evict _ t = IsProtocolState-set p line.copies t Invalid (IsProtocolState-invalid p) states

  -- After a write, all copies are in states of the protocol.
  pub HasProtocolStates-after_write : (t w : ℕ) → HasProtocolStates p (cache_line_written t w line)
  HasProtocolStates-after_write t w = IsProtocolState-set p (cache_line_to_write t line).copies t (Modified w) (IsProtocolState-modified p w) (HasProtocolStates-on_write (copy_of line t) t)

  -- After a load, all copies are in states of the protocol.
  pub HasProtocolStates-after_load : (t : ℕ) → HasProtocolStates p (cache_line_to_read (table_of p) t line)
  HasProtocolStates-after_load t = HasProtocolStates-on_load (copy_of line t) t

  -- After an eviction, all copies are in states of the protocol.
  pub HasProtocolStates-after_eviction : (t : ℕ) → HasProtocolStates p (cache_line_evicted t line)
  HasProtocolStates-after_eviction t = HasProtocolStates-on_evict (copy_of line t) t
