-- Coherent lines and their coherent words. An impl cites these proofs; there is no definition of the protocols here.
use Rattle.std.proofs.Common.{◌≡◌, ◌≢◌, ℕ, zero, suc, ◌<◌, List, [], ◌∷◌, length, map, set, Some, None, refl, sym, ap, ◌∙◌, subst, ⊎_elim, arith}
use Rattle.std.proofs.Common.{get_or-set_same, get_or-set_other}
use Rattle.std.proofs.lemmas.Bool.{cases_eq}
use Rattle.lw_base.specs.Limits.{most_threads}
use Rattle.lw_mesi.specs.CacheLines.{Copy, Modified, Owned, Exclusive, Shared, Invalid, CacheLine, copy_of, copy_word, dirty_word_or, coherent_word}
use Rattle.lw_mesi.specs.Coherence.{IsOnlyCopy, IsDirty, IsCoherentCacheLine}

-- A processor's copy in a list of copies.
abbrev pub copy_in : List Copy → ℕ → Copy
copy_in copies t = copy_of (record { copies = copies; memory = 0 }) t

-- If a property holds of index t and of every other index, it holds of all.
pub at_index : (t : ℕ) (P : ℕ → Type 0) → P t → ((u : ℕ) → t ≢ u → P u) → (u : ℕ) → P u
at_index t P here there u = ⊎_elim (λ same. subst P same here) (λ ne. there u ne) (cases_eq t u)

-- If t is in range, the copy that was set at t is t's copy.
pub copy_in-set_same : (copies : List Copy) (t : ℕ) (c : Copy) → t < length copies → copy_in (set copies t c) t ≡ c
copy_in-set_same copies t c lt = get_or-set_same copies t c Invalid lt

-- Setting the copy of t leaves the copy of every other processor u unchanged.
pub copy_in-set_other : (copies : List Copy) (t : ℕ) (c : Copy) (u : ℕ) → t ≢ u → copy_in (set copies t c) u ≡ copy_in copies u
copy_in-set_other copies t c u ne = get_or-set_other copies t u c Invalid (λ e. ne (sym e))

-- If f preserves an invalid copy, each copy of the list mapped by f is f of the copy.
pub copy_in-map : (f : Copy → Copy) (copies : List Copy) (t : ℕ) → f Invalid ≡ Invalid → copy_in (map f copies) t ≡ f (copy_in copies t)
copy_in-map f [] t e = sym e
copy_in-map f (c ∷ copies) zero e = refl
copy_in-map f (c ∷ copies) (suc t) e = copy_in-map f copies t e

-- If no copy is in M or O, the coherent word is memory's, w.
pub dirty_word_or-if_clean : (w : ℕ) (copies : List Copy) → ((t : ℕ) → IsDirty (copy_in copies t) → ⊥) → dirty_word_or w copies ≡ w
dirty_word_or-if_clean w [] h = refl
dirty_word_or-if_clean w (Exclusive v ∷ copies) h = dirty_word_or-if_clean w copies (λ t. h (suc t))
dirty_word_or-if_clean w (Shared v ∷ copies) h = dirty_word_or-if_clean w copies (λ t. h (suc t))
dirty_word_or-if_clean w (Invalid ∷ copies) h = dirty_word_or-if_clean w copies (λ t. h (suc t))
dirty_word_or-if_clean w _ h = absurd (h 0 tt)

-- If the copy of t is in M or O, with the word v, and no other is, the coherent word is v.
pub dirty_word_or-if_dirty : (w v : ℕ) (copies : List Copy) (t : ℕ)
    → IsDirty (copy_in copies t) → copy_word (copy_in copies t) ≡ Some v → ((u : ℕ) → t ≢ u → IsDirty (copy_in copies u) → ⊥)
    → dirty_word_or w copies ≡ v
dirty_word_or-if_dirty w v (Modified k ∷ copies) zero d e h = cc
dirty_word_or-if_dirty w v (Owned k ∷ copies) zero d e h = cc
dirty_word_or-if_dirty w v (Modified k ∷ copies) (suc t) d e h = absurd (h 0 (omega arith) tt)
dirty_word_or-if_dirty w v (Owned k ∷ copies) (suc t) d e h = absurd (h 0 (omega arith) tt)
dirty_word_or-if_dirty w v (Exclusive k ∷ copies) (suc t) d e h = dirty_word_or-if_dirty w v copies t d e (λ u ne. h (suc u) (λ same. ne (omega arith)))
dirty_word_or-if_dirty w v (Shared k ∷ copies) (suc t) d e h = dirty_word_or-if_dirty w v copies t d e (λ u ne. h (suc u) (λ same. ne (omega arith)))
dirty_word_or-if_dirty w v (Invalid ∷ copies) (suc t) d e h = dirty_word_or-if_dirty w v copies t d e (λ u ne. h (suc u) (λ same. ne (omega arith)))
dirty_word_or-if_dirty w v _ _ d e h = absurd d

-- If the first copy of a list is not dirty, the coherent word is that of the others.
dirty_word_or-skip_clean : (w : ℕ) (c : Copy) (copies : List Copy) → (IsDirty c → ⊥) → dirty_word_or w (c ∷ copies) ≡ dirty_word_or w copies
dirty_word_or-skip_clean w (Modified v) copies h = absurd (h tt)
dirty_word_or-skip_clean w (Owned v) copies h = absurd (h tt)
dirty_word_or-skip_clean w _ copies h = refl

-- If neither t's copy nor c is dirty, setting c at t preserves the coherent word.
pub dirty_word_or-set_clean : (w : ℕ) (copies : List Copy) (t : ℕ) (c : Copy)
    → (IsDirty (copy_in copies t) → ⊥) → (IsDirty c → ⊥) → dirty_word_or w (set copies t c) ≡ dirty_word_or w copies
dirty_word_or-set_clean w (k ∷ copies) zero c old new = dirty_word_or-skip_clean w c copies new ∙ sym (dirty_word_or-skip_clean w k copies old)
dirty_word_or-set_clean w (Exclusive k ∷ copies) (suc t) c old new = dirty_word_or-set_clean w copies t c old new
dirty_word_or-set_clean w (Shared k ∷ copies) (suc t) c old new = dirty_word_or-set_clean w copies t c old new
dirty_word_or-set_clean w (Invalid ∷ copies) (suc t) c old new = dirty_word_or-set_clean w copies t c old new
dirty_word_or-set_clean w _ _ c old new = refl

-- Every copy has this word.
abbrev pub AllCopiesHold : CacheLine → ℕ → Type 0
AllCopiesHold line v = (t w : ℕ) → copy_word (copy_of line t) ≡ Some w → w ≡ v

-- No other processor has a copy.
abbrev pub HasNoOtherCopy : CacheLine → ℕ → Type 0
HasNoOtherCopy line t = (u : ℕ) → t ≢ u → copy_of line u ≡ Invalid

-- An invalid copy has no word; so if it has a word w, that is any v.
pub copy_word-none_if_invalid : (c : Copy) (w v : ℕ) → c ≡ Invalid → copy_word c ≡ Some w → w ≡ v
copy_word-none_if_invalid c w v e h = let f : copy_word c ≡ None = ap copy_word e in cc

-- If a copy has the words v and w, they are the same.
pub copy_word-unique : (c : Copy) (w v : ℕ) → copy_word c ≡ Some v → copy_word c ≡ Some w → w ≡ v
copy_word-unique c w v e h = cc

-- If only processor t has a copy of a line, and its word is the coherent word, the line is coherent.
pub IsCoherentCacheLine-if_single : (line : CacheLine) (t : ℕ) → length line.copies ≡ most_threads → HasNoOtherCopy line t
    → ((w : ℕ) → copy_word (copy_of line t) ≡ Some w → w ≡ coherent_word line) → IsCoherentCacheLine line
IsCoherentCacheLine-if_single line t long others word =
    let none : (P : Copy → Type 0) → (P Invalid → ⊥) → (u : ℕ) → t ≢ u → P (copy_of line u) → ⊥ = λ P not u ne h. not (subst P (others u ne) h) in
    record {
      as_many = long;
      no_other_copy = at_index t (λ k. (u : ℕ) → IsOnlyCopy (copy_of line k) → k ≢ u → copy_of line u ≡ Invalid)
          (λ u own ne. others u ne)
          (λ k other u own ne. absurd (none IsOnlyCopy (λ h. h) k other own));
      one_dirty = at_index t (λ k. (u : ℕ) → IsDirty (copy_of line k) → IsDirty (copy_of line u) → k ≡ u)
          (at_index t (λ u. IsDirty (copy_of line t) → IsDirty (copy_of line u) → t ≡ u)
          (λ a b. refl)
          (λ u ne a b. absurd (none IsDirty (λ h. h) u ne b)))
          (λ k other u a b. absurd (none IsDirty (λ h. h) k other a));
      same_word = at_index t (λ u. (w : ℕ) → copy_word (copy_of line u) ≡ Some w → w ≡ coherent_word line)
          word
          (λ u ne w e. copy_word-none_if_invalid (copy_of line u) w (coherent_word line) (others u ne) e);
    }

-- The line after a request: its coherent word is v, and it is coherent.
pub record LineAfterRequest (v : ℕ) (line : CacheLine) : Type 0 where
  pub content : coherent_word line ≡ v
  pub sound : IsCoherentCacheLine line
