-- Units of memory can be split in two, and are room for each type that fits into them.
--
-- How to read the proofs by separation logic of this crate. `Logic` is the record of the laws of the kit's separation logic: a lemma holds
-- of every such `𝓛`, over every resource algebra `𝓤`. `ent 𝓤 P Q` says that P entails Q; `sep 𝓤 P Q` is P and Q, each with memory of its
-- own; `wand 𝓤 P Q` is the right to exchange P for Q. `sem 𝓛` gives the meaning of a formula, whose connectives begin with f (`fsep`,
-- `fwand`). 𝓛.H is the machine's heap: `𝓛.H.room τ b o` is the memory for a τ in the block b at the offset o, in bytes, and `froom` is its
-- formula; `block_ptr b o` is the pointer to that place. `Seq K 𝓛 Γ G` says that the entries of Γ together entail G. An entry is a formula
-- (`‵`), an assertion (`raw P`), or two entries, each with memory of its own (`⊛`). A proof after `qed` is a list of steps, each of which
-- changes the first entries of Γ or the goal:
--
-- - `split` takes a `sep` apart, and `join` makes one; `move` brings the entries at some indices to the front; `drop` gives the first away;
-- - `use1` and `use2` replace the first entry, or the first two, by what they entail; `rewrite` uses an equation;
-- - `assume` moves the left side of a goal's `wand` to Γ; `frame` meets the first part of the goal with the first entry;
-- - `fsplit`, `fjoin`: `split` and `join` of formulas; `fpick` names what exists by `fex`, `fpack` says what exists; `feq_l` takes an
--   equation out of Γ;
-- - `by` ends a proof by an entailment, `done` by equality.
--
-- The first argument of a step, `!` or `t`, says nothing: it makes the checker read the goal before the step's other arguments.
use Rattle.std.proofs.Common.{◌≡◌, ℕ, zero, suc, ◌+◌, ◌-◌, ◌*◌, ◌%◌, ◌≤◌, max, List, [], ◌∷◌, sym, ap, subst, ◌∙◌, arith}
use seplogic.Ra.Ura.{Ura}
use mir.Syntax.{Ty, Tys, w8, w128, tnil, tcons, ty_int, ty_array, ty_struct}
use native.Mathlib.Nat.{mod_self, sub-zero}
use base.Logic.{ent, sep, wand, id⊢, apply∗, never}
use base.Fml.{froom}
use prog.Memory.{size, align, pad, up, end_of}
use prog.Model.{rooms_at}
use prog.Align.{Dv, dv→, dv_zero, dv_one, dv_mul, align_pos}
use types.Logic.{Logic, sem}
use types.Kit.{Item, Goal, Seq, ‵, raw, ◌⊛◌, ◌$◌, ◌∵◌, !, qed, by, drop, use1, use2, split, join, frame, assume, done}
use denote.RawPtr.{Ptr, block_ptr, in_a_block}
use denote.RawPtr.Room.{room_cut, past}
use denote.Steps.{nothing}
use Rattle.lw_arena.specs.Ownership.{units, memory}

-- The address k units after o is `o + k * 16`.
past-of_units : (k o : ℕ) → past (ty_int w128) k o ≡ o + k * 16
past-of_units zero o = omega arith
past-of_units (suc k) o = past-of_units k (o + 16) ∙ omega arith

-- A multiple of an alignment needs no padding.
up-of_multiple : (a n : ℕ) → Dv a n → up a n ≡ n
up-of_multiple a n divides =
    let gap : pad a n ≡ 0 = ap (λ (r : ℕ). (a - r) % a) (dv→ a n divides) ∙ ap (λ (r : ℕ). r % a) (sub-zero a) ∙ mod_self a in
    ap (λ (r : ℕ). n + r) gap ∙ omega arith

-- The bytes after a τ that fill k units, as the last field of a struct.
abbrev filler_types : Ty → ℕ → Tys
filler_types τ k = tcons (ty_array (ty_int w8) (k * 16 - size τ)) tnil

-- A struct of a τ and the bytes after it, which fills k units.
abbrev filled_struct : Ty → ℕ → Ty
filled_struct τ k = ty_struct [] (tcons τ (filler_types τ k))

-- The first field has offset 0, whatever its alignment.
up-zero : (τ : Ty) → up (align τ) 0 ≡ 0
up-zero τ = up-of_multiple (align τ) 0 (dv_zero (align τ))

-- An alignment is at least 1.
align-at_least_one : (τ : Ty) → max (align τ) 1 ≡ align τ
align-at_least_one τ = omega (arith, align_pos τ)

-- The struct of a τ and the bytes after it has the size of k units, if τ fits into them.
size-of_filled : (τ : Ty) (k : ℕ) → size τ ≤ k * 16 → Dv (align τ) 16 → size (filled_struct τ k) ≡ k * 16
size-of_filled τ k fits divides =
    let behind : ℕ = up (align τ) 0 + size τ in
    let ends : end_of zero (tcons τ (filler_types τ k)) ≡ k * 16 =
    ap (λ (n : ℕ). n + (k * 16 - size τ) * 1) (up-of_multiple 1 behind (dv_one behind) ∙ ap (λ (n : ℕ). n + size τ) (up-zero τ))
    ∙ omega arith in
    (λ i. up (align-at_least_one τ i) (ends i)) ∙ up-of_multiple (align τ) (k * 16) (dv_mul (align τ) 16 k divides)

module _ {M : Type 1} {𝓤 : Ura M} (𝓛 : Logic 𝓤) where
  open 𝓛 use {H}

  -- The room of `m + n` units is the room of the first m and that of the n after them.
  pub room-split : (m n b o : ℕ)
      → ent 𝓤 (H.room (units (m + n)) b o) (sep 𝓤 (H.room (units m) b o) (H.room (units n) b (o + m * 16)))
  room-split m n b o =
      subst (λ (d : ℕ). ent 𝓤 (H.room (units (m + n)) b o) (sep 𝓤 (H.room (units m) b o) (H.room (units n) b d)))
      (past-of_units m o) (room_cut 𝓛 (ty_int w128) m n b o)

  -- The room of k units into which τ fits is room for τ, with the right to exchange it for the room of all k units.
  pub room-of_type : (τ : Ty) (k b o : ℕ)
      → size τ ≤ k * 16
      → Dv (align τ) 16
      → ent 𝓤 (H.room (units k) b o) (sep 𝓤 (H.room τ b o) (wand 𝓤 (H.room τ b o) (H.room (units k) b o)))
  room-of_type τ k b o fits divides =
      let place : ℕ = o + up (align τ) 0 in
      let Whole = H.room (units k) b o in
      let Struct = H.room (filled_struct τ k) b o in
      let First = H.room τ b place in
      let Others = rooms_at 𝓤 H (filler_types τ k) (up (align τ) 0 + size τ) b o in
      subst (λ (d : ℕ). ent 𝓤 Whole (sep 𝓤 (H.room τ b d) (wand 𝓤 (H.room τ b d) Whole)))
      (ap (λ (n : ℕ). o + n) (up-zero τ) ∙ omega arith)
      (qed 𝓛 (raw Whole ∷ []) ∵
      use1 𝓛 (raw Struct ⊛ raw (wand 𝓤 Struct Whole))
      (𝓛.laws.room_as (units k) (filled_struct τ k) b o (size-of_filled τ k fits divides) (subst (λ (a : ℕ). Dv a 16) (sym (align-at_least_one τ)) divides)) $ split ! $
      use1 𝓛 ((raw First ⊛ raw Others) ⊛ raw (wand 𝓤 (sep 𝓤 First Others) Struct)) (𝓛.laws.room_fields [] (tcons τ (filler_types τ k)) b o) $
      split ! $ split ! $ frame ! $ assume ! (raw First) $ join ! $
      use2 𝓛 (raw Struct) (apply∗ 𝓤 (sep 𝓤 First Others) Struct) $ by ! (apply∗ 𝓤 Struct Whole))

  -- The room of k units is memory of k units at its pointer.
  pub memory-of_room : (k b o : ℕ) → ent 𝓤 (H.room (units k) b o) (sem 𝓛 (memory k (block_ptr b o)))
  memory-of_room zero b o = qed 𝓛 (raw (H.room (units zero) b o) ∷ []) ∵ drop ! $ nothing ! $ done !
  memory-of_room (suc k) b o = id⊢ 𝓤 _

module _ {M : Type 1} {𝓤 : Ura M} {𝓛 : Logic 𝓤} {K : Type 0} {Γ : List (Item 𝓤)} {G : Goal 𝓤 𝓛.H} where
  -- A goal holds with memory of at least one unit if it holds when the pointer is into a block.
  pub goal-of_memory : K → (k : ℕ) (p : Ptr) → 1 ≤ k → ((b o : ℕ) → p ≡ block_ptr b o → Seq K 𝓛 (‵ (froom (units k) b o) ∷ Γ) G)
      → Seq K 𝓛 (‵ (memory k p) ∷ Γ) G
  goal-of_memory t zero p some next = absurd (omega arith)
  goal-of_memory t (suc k) p some next = in_a_block t p (memory (suc k)) (id⊢ 𝓤 (never 𝓤)) next
