-- The copies that a packed cache line represents, one by one; and, of all together, the content and whether
-- some cache holds the line. Each call on a packed line is proved by these (`PackedReads`, `PackedWrites`).
use Rattle.lw_mesi.proofs.Common.{◌≡◌, ℕ, zero, suc, ◌<◌, Option, Some, None, Bool, true, false, inl, inr}
use Rattle.lw_mesi.proofs.Common.{List, [], ◌∷◌, refl, sym, ap, ap₂, ◌∙◌, subst, arith, if◌then◌else◌}
use Rattle.lw_mesi.proofs.Common.{slice_index_or, eqb-true, eq-eqb, cases_lt, or_left, or_right, get_or_past}
use Rattle.lw_mesi.proofs.Common.{most_threads, S, is_held, Copy, Owned, Shared, Invalid, CacheLine, copy_of}
use Rattle.lw_mesi.proofs.Common.{copy_state, copy_word, coherent_word, is_owner, is_held_anywhere}
use Rattle.lw_mesi.proofs.Common.{IsOnlyCopy, IsDirty, copy_in, dirty_word_or-if_clean}
use Rattle.lw_mesi.proofs.Common.{dirty_word_or-if_dirty, Inside, IsPacked, owner_copy, sharer_copy, copy_at}
use Rattle.lw_mesi.proofs.Common.{unpacked}
use Rattle.lw_mesi.proofs.IndexLemmas.{length-at_each, get_or-at_each}

-- ---- one processor's copy

-- The copy of a processor, with the line's word w. The bits, in order: the processor is the owner, the owner is dirty, the
-- owner is in O, the processor is a sharer.
abbrev pub copy_of_bits : Bool → Bool → Bool → Bool → ℕ → Copy
copy_of_bits own d b s w = if own then owner_copy d b w else sharer_copy s w

-- The copy of processor t in the unpacked cache line is the one that the packed line represents, `copy_at`.
pub copy_of-unpacked : (p : Inside) (t : ℕ) → t < most_threads → copy_of (unpacked p) t ≡ copy_at p t
copy_of-unpacked p t lt = get_or-at_each (copy_at p) t Invalid lt

-- If o is the owner, `is_owner` is true of o.
pub is_owner-true : (owner : Option ℕ) (o : ℕ) → owner ≡ Some o → is_owner owner o ≡ true
is_owner-true owner o own = ap (λ (x : Option ℕ). is_owner x o) own ∙ eq-eqb o o refl

-- If `is_owner` is true of t, the owner is t.
pub is_owner-sound : (owner : Option ℕ) (t : ℕ) → is_owner owner t ≡ true → owner ≡ Some t
is_owner-sound None t h = cc
is_owner-sound (Some o) t h = ap (λ (x : ℕ). Some x) (eqb-true o t h)

-- If the copy of a processor is invalid, the processor is not the owner (`own` is `false`).
pub own-false_if_invalid : (own d b s : Bool) (w : ℕ) → copy_of_bits own d b s w ≡ Invalid → own ≡ false
own-false_if_invalid true true true s w e = cc
own-false_if_invalid true true false s w e = cc
own-false_if_invalid true false b s w e = cc
own-false_if_invalid false d b s w e = refl

-- If the copy of a processor is in S, the processor is not the owner (`own` is `false`).
pub own-false_if_shared : (own d b s : Bool) (w : ℕ) → copy_state (copy_of_bits own d b s w) ≡ S → own ≡ false
own-false_if_shared true true true s w e = cc
own-false_if_shared true true false s w e = cc
own-false_if_shared true false b s w e = cc
own-false_if_shared false d b s w e = refl

-- If the copy of a processor is dirty, the processor is the owner (`own`), and the line is marked dirty (`d`).
pub is_owner-of_dirty_copy : (own d b s : Bool) (w : ℕ) → IsDirty (copy_of_bits own d b s w) → (own ≡ true) × (d ≡ true)
is_owner-of_dirty_copy true true b s w h = (refl, refl)
is_owner-of_dirty_copy true false b s w h = absurd h
is_owner-of_dirty_copy false d b true w h = absurd h
is_owner-of_dirty_copy false d b false w h = absurd h

-- If only a dirty line (`d`) is marked as in O (`b`), and the copy of a processor is in M or E, then the processor is the owner
-- (`own`), and the line is not marked as in O.
pub is_owner-of_only_copy : (own d b s : Bool) (w : ℕ)
    → (d ≡ false → b ≡ false)
    → IsOnlyCopy (copy_of_bits own d b s w)
    → (own ≡ true) × (b ≡ false)
is_owner-of_only_copy true true true s w h only = absurd only
is_owner-of_only_copy true true false s w h only = (refl, refl)
is_owner-of_only_copy true false b s w h only = (refl, h refl)
is_owner-of_only_copy false d b true w h only = absurd only
is_owner-of_only_copy false d b false w h only = absurd only

-- If a processor is not the owner (`own`) and is a sharer (`s`), its copy is in S.
pub copy_of_bits-sharer : (own d b s : Bool) (w : ℕ) → own ≡ false → s ≡ true → copy_of_bits own d b s w ≡ Shared w
copy_of_bits-sharer own d b s w e f = ap₂ (λ (x y : Bool). copy_of_bits x d b y w) e f

-- The owner holds the cache line, whether dirty or not (d), and in O or not (b).
pub is_held-owner_copy : (d b : Bool) (w : ℕ) → is_held (copy_state (owner_copy d b w)) ≡ true
is_held-owner_copy true true w = refl
is_held-owner_copy true false w = refl
is_held-owner_copy false b w = refl

-- The owner's copy, if it is marked dirty, is dirty: it is in M, or in O if `b` says so.
pub IsDirty-owner_copy : (b : Bool) (w : ℕ) → IsDirty (owner_copy true b w)
IsDirty-owner_copy true w = tt
IsDirty-owner_copy false w = tt

-- The word of a dirty owner's copy, in O or not (b), is the line's word w.
pub copy_word-dirty_owner : (b : Bool) (w : ℕ) → copy_word (owner_copy true b w) ≡ Some w
copy_word-dirty_owner true w = refl
copy_word-dirty_owner false w = refl

-- If a copy has a word v, then v is the line's word w.
pub copy_word-is_line_word : (own d b s : Bool) (w v : ℕ) → copy_word (copy_of_bits own d b s w) ≡ Some v → Some w ≡ Some v
copy_word-is_line_word true true true s w v h = h
copy_word-is_line_word true true false s w v h = h
copy_word-is_line_word true false b s w v h = h
copy_word-is_line_word false d b true w v h = h
copy_word-is_line_word false d b false w v h = cc

-- ---- the cache line

-- If o is the owner, the copy of o in the unpacked cache line is the owner's copy, `owner_copy`.
pub copy_of-unpacked_owner : (p : Inside) (o : ℕ)
    → o < most_threads
    → p.owner ≡ Some o
    → copy_of (unpacked p) o ≡ owner_copy p.is_dirty p.is_owned p.word
copy_of-unpacked_owner p o lt own =
    copy_of-unpacked p o lt
    ∙ ap (λ (x : Bool). copy_of_bits x p.is_dirty p.is_owned (slice_index_or p.sharers o false) p.word)
    (is_owner-true p.owner o own)

-- If o is the owner, and the line is marked dirty and in O, the copy of o in the unpacked cache line is in O, with the line's
-- word.
pub copy_of-unpacked_owned : (p : Inside) (o : ℕ)
    → o < most_threads
    → p.owner ≡ Some o
    → p.is_dirty ≡ true
    → p.is_owned ≡ true
    → copy_of (unpacked p) o ≡ Owned p.word
copy_of-unpacked_owned p o lt own d b = copy_of-unpacked_owner p o lt own ∙ ap₂ (λ (x y : Bool). owner_copy x y p.word) d b

-- If the copy of processor t in the unpacked line is dirty, t is the owner, and the packed line is marked dirty.
pub is_owner-if_dirty : (p : Inside) (t : ℕ)
    → IsDirty (copy_in (unpacked p).copies t)
    → (is_owner p.owner t ≡ true) × (p.is_dirty ≡ true)
is_owner-if_dirty p t h = elim (cases_lt t most_threads) [
  | inl lt ↦ is_owner-of_dirty_copy _ p.is_dirty p.is_owned _ p.word (subst IsDirty (copy_of-unpacked p t lt) h)
  | inr past ↦ absurd (subst IsDirty (get_or_past (unpacked p).copies t Invalid (omega (arith, length-at_each (copy_at p)))) h)
]

-- If a packed line is well formed, the coherent word of the unpacked line is its word.
pub coherent_word-unpacked : (p : Inside) → IsPacked p → coherent_word (unpacked p) ≡ p.word
coherent_word-unpacked p ok = go p.is_dirty refl p.owner refl
  where
    -- By whether the line is marked dirty, and by its owner: without a dirty owner the word is memory's.
    go : (d : Bool) → p.is_dirty ≡ d → (owner : Option ℕ) → p.owner ≡ owner → coherent_word (unpacked p) ≡ p.word
    go false ed owner eo =
        dirty_word_or-if_clean _ (unpacked p).copies (λ t h. let k = (is_owner-if_dirty p t h).1 in cc) ∙ ok.clean ed
    go true ed None eo = absurd (let k = ok.unowned eo in cc)
    go true ed (Some o) eo =
        let at = copy_of-unpacked_owner p o (ok.in_range o eo) eo ∙ ap (λ (x : Bool). owner_copy x p.is_owned p.word) ed in
        dirty_word_or-if_dirty p.memory p.word (unpacked p).copies o
        (subst IsDirty (sym at) (IsDirty-owner_copy p.is_owned p.word))
        (ap copy_word at ∙ copy_word-dirty_owner p.is_owned p.word) (λ u ne h.
        let e : p.owner ≡ Some u = is_owner-sound p.owner u (is_owner-if_dirty p u h).0 in ne (let same : o ≡ u = cc in same))

-- If a processor holds the cache line, `is_held_anywhere` is true.
pub is_held_anywhere-if_one_holds : (copies : List Copy) (t : ℕ)
    → is_held (copy_state (copy_in copies t)) ≡ true
    → is_held_anywhere copies ≡ true
is_held_anywhere-if_one_holds [] t h = cc
is_held_anywhere-if_one_holds (c ∷ copies) zero h = or_left (is_held (copy_state c)) (is_held_anywhere copies) h
is_held_anywhere-if_one_holds (c ∷ copies) (suc t) h =
    or_right _ (is_held_anywhere copies) (is_held_anywhere-if_one_holds copies t h)

-- If the packed line has an owner, `is_held_anywhere` is true of the unpacked copies.
pub is_held_anywhere-if_owned : (p : Inside) (o : ℕ)
    → o < most_threads
    → p.owner ≡ Some o
    → is_held_anywhere (unpacked p).copies ≡ true
is_held_anywhere-if_owned p o lt own =
    is_held_anywhere-if_one_holds (unpacked p).copies o
    (ap (λ (c : Copy). is_held (copy_state c)) (copy_of-unpacked_owner p o lt own)
    ∙ is_held-owner_copy p.is_dirty p.is_owned p.word)

-- Builds a cache line from the copies and memory's word.
abbrev pub cache_line_of : List Copy → ℕ → CacheLine
cache_line_of copies memory = record { copies = copies; memory = memory }

-- If the copy of processor t in the unpacked cache line is invalid, t is not the owner.
pub is_owner-false_if_invalid : (p : Inside) (t : ℕ)
    → t < most_threads
    → copy_of (unpacked p) t ≡ Invalid
    → is_owner p.owner t ≡ false
is_owner-false_if_invalid p t lt free =
    own-false_if_invalid _ p.is_dirty p.is_owned _ p.word (sym (copy_of-unpacked p t lt) ∙ free)
