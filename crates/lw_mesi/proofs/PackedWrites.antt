-- The packed cache line after a write, and after an eviction. For `write` and `evict` of a packed line:
-- unpacked, it is the line of the protocol's table.
use Rattle.lw_mesi.proofs.Common.{◌≡◌, ◌≢◌, ◌⊎◌, ℕ, ◌<◌, Option, Some, None, Bool, true, false, inl, inr}
use Rattle.lw_mesi.proofs.Common.{List, length, map, set, refl, sym, ap, ap₂, ◌∙◌, subst, arith, length-set}
use Rattle.lw_mesi.proofs.Common.{get_or-set_same, get_or-set_other, slice_index_or, eq-eqb, ne_eqb}
use Rattle.lw_mesi.proofs.Common.{length-map, most_threads, M, O, E, S, Copy, Modified, Owned, Exclusive}
use Rattle.lw_mesi.proofs.Common.{Shared, Invalid, CacheLine, copy_of, copy_state, copy_word, coherent_word}
use Rattle.lw_mesi.proofs.Common.{empty_cpu_set, is_owner, cache_line_to_write, on_write, cache_line_written}
use Rattle.lw_mesi.proofs.Common.{on_evict, cache_line_evicted, IsOnlyCopy, copy_in, copy_in-map}
use Rattle.lw_mesi.proofs.Common.{copy_in-set_same, copy_in-set_other, Inside, IsPacked, sharer_copy, copy_at}
use Rattle.lw_mesi.proofs.Common.{unpacked}
use Rattle.lw_mesi.proofs.IndexLemmas.{length-at_each, get_or-at_each, at_each-set_of_list}
use Rattle.lw_mesi.proofs.PackedCopies.{copy_of_bits, copy_of-unpacked, is_owner-sound, own-false_if_shared}
use Rattle.lw_mesi.proofs.PackedCopies.{is_owner-of_only_copy, copy_word-is_line_word, coherent_word-unpacked}
use Rattle.lw_mesi.proofs.PackedCopies.{cache_line_of}

-- The packed cache line after a write: processor t is the only holder, in M, with word w; memory has the word m.
abbrev line_in_modified : ℕ → ℕ → ℕ → Inside
line_in_modified t w m =
    record { owner = Some t; is_dirty = true; is_owned = false; sharers = empty_cpu_set; word = w; memory = m }

-- If a packed line is well formed and the copy of t is in M or E, the copy of every other processor in range is invalid.
copy_at-invalid_beside_only_copy : (p : Inside) (t u : ℕ)
    → IsPacked p
    → IsOnlyCopy (copy_at p t)
    → u < most_threads
    → u ≢ t
    → copy_at p u ≡ Invalid
copy_at-invalid_beside_only_copy p t u ok only within ne =
    let o = is_owner-of_only_copy (is_owner p.owner t) p.is_dirty p.is_owned _ p.word ok.owned only in
    let own : p.owner ≡ Some t = is_owner-sound p.owner t o.0 in
    let none : slice_index_or p.sharers u false ≡ false =
    ap (λ (xs : List Bool). slice_index_or xs u false) (ok.no_other_copy t own o.1)
    ∙ get_or-at_each (λ k. false) u false within in
    let other = ap (λ (x : Option ℕ). is_owner x u) own ∙ ne_eqb t u (λ e. ne (sym e)) in
    ap₂ (λ (x s : Bool). copy_of_bits x p.is_dirty p.is_owned s p.word) other none

-- A write preserves the number of copies.
length-on_write : (c : Copy) (t : ℕ) (line : CacheLine) → length (on_write c t line).copies ≡ length line.copies
length-on_write (Modified v) t line = refl
length-on_write (Exclusive v) t line = refl
length-on_write _ t line = length-set (map (λ c. Invalid) line.copies) t _ ∙ length-map line.copies (λ c. Invalid)

-- A write preserves memory's word.
memory_same-on_write : (c : Copy) (t : ℕ) (line : CacheLine) → (on_write c t line).memory ≡ line.memory
memory_same-on_write (Modified v) t line = refl
memory_same-on_write (Owned v) t line = refl
memory_same-on_write (Exclusive v) t line = refl
memory_same-on_write (Shared v) t line = refl
memory_same-on_write Invalid t line = refl

module _ (p : Inside) (t : ℕ) (ok : IsPacked p) (lt : t < most_threads) where
  -- If the copy c of processor t is in M or E, the copy of every other processor in range is invalid.
  others_invalid-before_write : (c : Copy)
      → copy_of (unpacked p) t ≡ c
      → IsOnlyCopy c
      → (u : ℕ)
      → u < most_threads
      → u ≢ t
      → copy_of (unpacked p) u ≡ Invalid
  others_invalid-before_write c e only u within ne =
      copy_of-unpacked p u within
      ∙ copy_at-invalid_beside_only_copy p t u ok (subst IsOnlyCopy (sym (sym (copy_of-unpacked p t lt) ∙ e)) only) within ne

  -- After the GetM of processor t, the copy of every other processor is invalid.
  others_invalid-after_get_m : (u : ℕ)
      → u ≢ t
      → copy_in (set (map (λ c. Invalid) (unpacked p).copies) t (Modified (coherent_word (unpacked p)))) u ≡ Invalid
  others_invalid-after_get_m u ne =
      copy_in-set_other (map (λ c. Invalid) (unpacked p).copies) t (Modified (coherent_word (unpacked p))) u (λ e. ne (sym e))
      ∙ copy_in-map (λ c. Invalid) (unpacked p).copies u refl

  -- After a write of processor t, whose copy was c, the copy of every other processor in range is invalid.
  others_invalid-after_write : (c : Copy)
      → copy_of (unpacked p) t ≡ c
      → (u : ℕ)
      → u < most_threads
      → u ≢ t
      → copy_of (on_write c t (unpacked p)) u ≡ Invalid
  others_invalid-after_write (Modified v) e u within ne = others_invalid-before_write (Modified v) e tt u within ne
  others_invalid-after_write (Exclusive v) e u within ne = others_invalid-before_write (Exclusive v) e tt u within ne
  others_invalid-after_write _ e u within ne = others_invalid-after_get_m u ne

-- If t writes to a well-formed packed line, its copy has, in the line in which the write finds the old word, the packed line's
-- word.
pub copy_word-after_write : (p : Inside) (t : ℕ)
    → IsPacked p
    → t < most_threads
    → Some p.word ≡ copy_word (copy_of (cache_line_to_write t (unpacked p)) t)
copy_word-after_write p t ok lt = go (copy_of (unpacked p) t) refl
  where
    -- The unpacked line.
    line : CacheLine
    line = unpacked p

    -- All copies, invalidated.
    invalidated_copies : List Copy
    invalidated_copies = map (λ c. Invalid) line.copies

    -- If the copy of t has a word, that is the packed line's.
    kept : (c : Copy) (v : ℕ) → copy_of line t ≡ c → copy_word c ≡ Some v → Some p.word ≡ copy_word (copy_of line t)
    kept c v e h =
        copy_word-is_line_word (is_owner p.owner t) p.is_dirty p.is_owned (slice_index_or p.sharers t false) p.word v
        (ap copy_word (sym (copy_of-unpacked p t lt) ∙ e) ∙ h)
        ∙ sym (ap copy_word e ∙ h)

    -- The copy that a GetM brings has the packed line's word.
    brought : Some p.word ≡ copy_word (copy_in (set invalidated_copies t (Modified (coherent_word line))) t)
    brought =
        ap (λ (v : ℕ). Some v) (sym (coherent_word-unpacked p ok))
        ∙ sym (ap copy_word (copy_in-set_same invalidated_copies t (Modified (coherent_word line))
        (omega (arith, length-map line.copies (λ (c : Copy). Invalid), length-at_each (copy_at p)))))

    -- By the copy of t: in M or E it is written as it is; otherwise a GetM brings it.
    go : (c : Copy) → copy_of line t ≡ c → Some p.word ≡ copy_word (copy_of (on_write c t line) t)
    go (Modified v) e = kept (Modified v) v e refl
    go (Exclusive v) e = kept (Exclusive v) v e refl
    go _ e = brought

-- If t writes w to a well-formed packed line, the packed line whose only holder is t, in M with w, is, unpacked, the line after
-- the write.
pub unpacked-after_write : (p : Inside) (t w : ℕ)
    → IsPacked p
    → t < most_threads
    → unpacked (line_in_modified t w p.memory) ≡ cache_line_written t w (unpacked p)
unpacked-after_write p t w ok lt =
    let line : CacheLine = unpacked p in
    let l : CacheLine = on_write (copy_of line t) t line in
    let copies : (unpacked (line_in_modified t w p.memory)).copies ≡ set l.copies t (Modified w) =
    at_each-set_of_list (copy_at (line_in_modified t w p.memory)) l.copies t (Modified w) Invalid
    (length-on_write (copy_of line t) t line ∙ length-at_each (copy_at p)) lt
    (ap (λ (x : Bool). copy_of_bits x true false (slice_index_or empty_cpu_set t false) w) (eq-eqb t t refl)) (λ u within ne.
    ap₂ (λ (x s : Bool). copy_of_bits x true false s w) (ne_eqb t u (λ e. ne (sym e)))
    (get_or-at_each (λ k. false) u false within)
    ∙ sym (others_invalid-after_write p t ok lt (copy_of line t) refl u within ne)) in
    ap₂ cache_line_of copies (sym (memory_same-on_write (copy_of line t) t line))

-- The eviction of a copy in S removes that copy and preserves memory's word.
on_evict-shared_copy : (c : Copy) (t : ℕ) (line : CacheLine)
    → copy_state c ≡ S
    → on_evict c t line ≡ record { copies = set line.copies t Invalid; memory = line.memory }
on_evict-shared_copy (Shared w) t line e = refl
on_evict-shared_copy _ t line e = cc

-- If the copy of t is in S, the packed line without the sharer t is, unpacked, the line after t's eviction.
pub unpacked-sharer_evicted : (p : Inside) (t : ℕ)
    → IsPacked p
    → t < most_threads
    → copy_state (copy_of (unpacked p) t) ≡ S
    → unpacked (record p { sharers = set p.sharers t false }) ≡ cache_line_evicted t (unpacked p)
unpacked-sharer_evicted p t ok lt shared =
    let other = own-false_if_shared _ _ p.is_owned _ p.word (sym (ap copy_state (copy_of-unpacked p t lt)) ∙ shared) in
    let copies : (unpacked (record p { sharers = set p.sharers t false })).copies ≡ set (unpacked p).copies t Invalid =
    at_each-set_of_list (copy_at (record p { sharers = set p.sharers t false })) (unpacked p).copies t Invalid Invalid
    (length-at_each (copy_at p)) lt
    (ap₂ (λ (x s : Bool). copy_of_bits x p.is_dirty p.is_owned s p.word) other
    (get_or-set_same p.sharers t false false (omega (arith, ok.as_many)))) (λ u within ne.
    ap (λ (s : Bool). copy_of_bits (is_owner p.owner u) p.is_dirty p.is_owned s p.word)
    (get_or-set_other p.sharers t u false false ne)
    ∙ sym (copy_of-unpacked p u within)) in
    ap (λ (cs : List Copy). cache_line_of cs p.memory) copies ∙ sym (on_evict-shared_copy _ t (unpacked p) shared)

-- If t is the owner of a well-formed packed line, the line without an owner, with any marks d and b and memory's word m, is,
-- unpacked, the line with t's copy invalidated and the word m in memory.
unpacked-owner_removed : (p : Inside) (t m : ℕ) (d b : Bool)
    → IsPacked p
    → t < most_threads
    → p.owner ≡ Some t
    → unpacked (record p { owner = None; is_dirty = d; is_owned = b; memory = m })
    ≡ cache_line_of (set (unpacked p).copies t Invalid) m
unpacked-owner_removed p t m d b ok lt own =
    let q : Inside = record p { owner = None; is_dirty = d; is_owned = b; memory = m } in
    let copies : (unpacked q).copies ≡ set (unpacked p).copies t Invalid =
    at_each-set_of_list (copy_at q) (unpacked p).copies t Invalid Invalid (length-at_each (copy_at p)) lt
    (ap (λ (s : Bool). sharer_copy s p.word) (ok.owner_is_no_sharer t own)) (λ u within ne.
    let other = ap (λ (x : Option ℕ). is_owner x u) own ∙ ne_eqb t u (λ e. ne (sym e)) in
    sym (ap (λ (x : Bool). copy_of_bits x p.is_dirty p.is_owned (slice_index_or p.sharers u false) p.word) other)
    ∙ sym (copy_of-unpacked p u within)) in
    ap (λ (cs : List Copy). cache_line_of cs m) copies

-- If the copy of a processor is in M or O, the processor is the owner (`own`), and its eviction invalidates the copy and writes
-- the word w to memory.
on_evict-dirty_copy : (own d b s : Bool) (w t : ℕ) (line : CacheLine)
    → (copy_state (copy_of_bits own d b s w) ≡ M) ⊎ (copy_state (copy_of_bits own d b s w) ≡ O)
    → (own ≡ true) × (on_evict (copy_of_bits own d b s w) t line ≡ cache_line_of (set line.copies t Invalid) w)
on_evict-dirty_copy true true true s w t line h = (refl, refl)
on_evict-dirty_copy true true false s w t line h = (refl, refl)
on_evict-dirty_copy true false b s w t line (inl h) = cc
on_evict-dirty_copy true false b s w t line (inr h) = cc
on_evict-dirty_copy false d b true w t line (inl h) = cc
on_evict-dirty_copy false d b true w t line (inr h) = cc
on_evict-dirty_copy false d b false w t line (inl h) = cc
on_evict-dirty_copy false d b false w t line (inr h) = cc

-- If the copy of a processor is in E, the processor is the owner (`own`), and its eviction invalidates the copy and leaves
-- memory's word.
on_evict-clean_copy : (own d b s : Bool) (w t : ℕ) (line : CacheLine)
    → copy_state (copy_of_bits own d b s w) ≡ E
    → (own ≡ true) × (on_evict (copy_of_bits own d b s w) t line ≡ cache_line_of (set line.copies t Invalid) line.memory)
on_evict-clean_copy true true true s w t line h = cc
on_evict-clean_copy true true false s w t line h = cc
on_evict-clean_copy true false b s w t line h = (refl, refl)
on_evict-clean_copy false d b true w t line h = cc
on_evict-clean_copy false d b false w t line h = cc

-- If the copy of t is in M or O, the packed line without its owner, unmarked and with its word in memory, is, unpacked, the
-- line after t's eviction.
pub unpacked-dirty_owner_evicted : (p : Inside) (t : ℕ)
    → IsPacked p
    → t < most_threads
    → (copy_state (copy_of (unpacked p) t) ≡ M) ⊎ (copy_state (copy_of (unpacked p) t) ≡ O)
    → unpacked (record p { owner = None; is_dirty = false; is_owned = false; memory = p.word })
    ≡ cache_line_evicted t (unpacked p)
unpacked-dirty_owner_evicted p t ok lt h =
    let row =
    on_evict-dirty_copy (is_owner p.owner t) p.is_dirty p.is_owned (slice_index_or p.sharers t false) p.word t (unpacked p)
    (subst (λ (c : Copy). (copy_state c ≡ M) ⊎ (copy_state c ≡ O)) (copy_of-unpacked p t lt) h) in
    unpacked-owner_removed p t p.word false false ok lt (is_owner-sound p.owner t row.0)
    ∙ sym row.1
    ∙ ap (λ (c : Copy). on_evict c t (unpacked p)) (sym (copy_of-unpacked p t lt))

-- If the copy of t is in E, the packed line without its owner is, unpacked, the line after t's eviction.
pub unpacked-clean_owner_evicted : (p : Inside) (t : ℕ)
    → IsPacked p
    → t < most_threads
    → copy_state (copy_of (unpacked p) t) ≡ E
    → unpacked (record p { owner = None }) ≡ cache_line_evicted t (unpacked p)
unpacked-clean_owner_evicted p t ok lt h =
    let row = on_evict-clean_copy _ _ p.is_owned _ p.word t _ (subst (λ c. copy_state c ≡ E) (copy_of-unpacked p t lt) h) in
    unpacked-owner_removed p t p.memory p.is_dirty p.is_owned ok lt (is_owner-sound p.owner t row.0)
    ∙ sym row.1
    ∙ ap (λ (c : Copy). on_evict c t (unpacked p)) (sym (copy_of-unpacked p t lt))
