-- For the law of locked instructions in phases: these instructions in one step, the others, and what a
-- processor reads while its buffer is drained. Both directions use it (`IntoPhases`, `FromPhases`).
use Rattle.lw_tso.proofs.Common.{IsWellScopedThread, ◌≡◌, ℕ, ◌<◌, true, false, true≢false, if◌then◌else◌}
use Rattle.lw_tso.proofs.Common.{List, [], ◌∷◌, length, Option, Some, None, refl, sym, ap, ◌∙◌, subst, ⊎_elim}
use Rattle.lw_tso.proofs.Common.{◌==◌, ne_eqb, slice_get, slice_set, slice_index, get_or-set_other}
use Rattle.lw_tso.proofs.Common.{get_or_past, option_or, same_Some, cases_eq, cases_lt, All, x86_language}
use Rattle.lw_tso.proofs.Common.{Instr, Operation, is_locked, location_of, Bool, x86_operation, thread_code}
use Rattle.lw_tso.proofs.Common.{Processor, newest_buffered, EventEffect, LocalStep, MemoryAccess}
use Rattle.lw_tso.proofs.Common.{operation_effect, step_effect, drain_effect, eq-eqb, get_or-set_same}
use Rattle.lw_tso.proofs.Common.{unwrap_or, Locked, locked_by, with_empty_buffer, read_value, locked_next}
use Rattle.lw_tso.proofs.Common.{or_right, is_fence, is_store-false_if_locked}
use Rattle.lw_tso.proofs.Rooms.{IsWellFormedStatement-at}
use Rattle.lw_tso.proofs.Acts.{length-words_after}
use Rattle.lw_tso.proofs.api.Effects.{EffectLeadsTo}
use Rattle.lw_tso.proofs.api.Operations.{EffectSatisfies, OperationTransition, EffectSatisfies-operation}
use Rattle.lw_tso.proofs.api.Operations.{OperationTransition-of_effect, LockedUpdate-of_operation}
use Rattle.lw_memory.specs.declared.request.Access.TheVariants as to

-- ---- a locked instruction

-- An effect that is not locked is not a locked one, so anything follows: this case is impossible.
None-ne_locked : {X : Type 0} (l : Locked) → ◌≡◌ {A = Option Locked} None (Some l) → X
None-ne_locked l e = absurd cc

-- Over the words m the effect leads to the locked effect's processor, and to m with the word at its location changed.
abbrev pub DoesAs : List ℕ → EventEffect → Locked → Type 0
DoesAs m act l =
    EffectLeadsTo m act (l.next (slice_index m l.location)) (slice_set m l.location (l.leaves (slice_index m l.location)))

-- If l is the locked effect of `act`, then `act` leads to l's processor and to the words with l's word at its location.
pub DoesAs-locked : (m : List ℕ) (act : EventEffect) (l : Locked) → locked_by act ≡ Some l → DoesAs m act l
DoesAs-locked m (MemoryAccess x (to.Update change) next) l e =
    subst (DoesAs m (MemoryAccess x (to.Update change) next)) (same_Some _ l e) (refl, refl)
DoesAs-locked m _ l e = None-ne_locked l e

-- The effect of a locked operation on the processor with an empty buffer is some locked effect.
pub locked_by-of_locked : (o : Operation) (p : Processor)
    → is_locked o ≡ true
    → (l : Locked) × (locked_by (operation_effect o (with_empty_buffer p)) ≡ Some l)
locked_by-of_locked o p e = let u = LockedUpdate-of_operation o (with_empty_buffer p) e in (_, ap locked_by u.act)

-- If a locked operation's effect leads from p to q in one step, the store buffer of p is empty.
pub buffer_empty-if_locked : (o : Operation) (p q : Processor) (m n : List ℕ)
    → is_locked o ≡ true
    → EffectLeadsTo m (operation_effect o p) q n
    → p.buffer ≡ []
buffer_empty-if_locked o p q m n e done =
    (OperationTransition-of_effect o p q m n done).waited (or_right (is_fence o) (is_locked o) e)

-- If a claim (`EffectSatisfies`) holds of an effect whose locked effect is l, then l's location may be written (`MayAsk`), and
-- `Makes` holds of its processor for each word.
EffectSatisfies-locked : (Reason : Type 0) (MayAsk : ℕ → Bool → Type 0) (Makes : Processor → Type 0) (act : EventEffect)
    (l : Locked)
    → EffectSatisfies Reason MayAsk Makes act
    → locked_by act ≡ Some l
    → MayAsk l.location true × ((w : ℕ) → Makes (l.next w))
EffectSatisfies-locked R A K (MemoryAccess x (to.Update change) next) l comes e =
    subst (λ (k : Locked). A k.location true × ((w : ℕ) → K (k.next w))) (same_Some _ l e) comes
EffectSatisfies-locked R A K _ l comes e = None-ne_locked l e

-- A locked effect's location is its instruction's, and it leaves the store buffer empty.
record LockedEffectShape (o : Operation) (l : Locked) : Type 0 where
  location : location_of o ≡ Some l.location
  empty : (w : ℕ) → (l.next w).buffer ≡ []

-- If the effect of o on the processor with an empty buffer is the locked effect l, then l has o's location, and leaves the
-- buffer empty.
LockedEffectShape-of_operation : (o : Operation) (p : Processor) (l : Locked)
    → locked_by (operation_effect o (with_empty_buffer p)) ≡ Some l
    → LockedEffectShape o l
LockedEffectShape-of_operation o p l e =
    let asks = λ (x : ℕ) (w : Bool). (location_of o ≡ Some x) × (is_locked o ≡ w) in
    let c =
    EffectSatisfies-locked (Unit {0}) asks (OperationTransition o (with_empty_buffer p))
    (operation_effect o (with_empty_buffer p)) l
    (EffectSatisfies-operation (Unit {0}) asks (OperationTransition o (with_empty_buffer p)) o (with_empty_buffer p)
    (λ waits full. tt) (λ x at. (at, refl)) (λ q went. went)) e in
    record {
      location = c.0.0;
      empty = λ w.
          ⊎_elim (λ same. same.1) (λ stored. absurd (true≢false (sym stored.1 ∙ is_store-false_if_locked o c.0.1)))
          (c.1 w).buffers;
    }

-- If the next step of p with an empty buffer is the locked effect l, the processor after it has an empty buffer, whatever the
-- word w.
pub buffer_empty-after_locked_step : (o : Option Instr) (p : Processor) (l : Locked) (w : ℕ)
    → locked_by (step_effect o (with_empty_buffer p)) ≡ Some l
    → (l.next w).buffer ≡ []
buffer_empty-after_locked_step None p l w e = None-ne_locked l e
buffer_empty-after_locked_step (Some i) p l w e = (LockedEffectShape-of_operation (x86_operation i) p l e).empty w

module _ (program : List (List Instr)) (locs : ℕ) (threads : All (IsWellScopedThread x86_language locs) program) where
  -- If a code has no instructions, it has none at any position: so anything follows.
  slice_get-no_code : {X : Type 0} (code : List Instr) (k : ℕ) (i : Instr) → code ≡ [] → slice_get code k ≡ Some i → X
  slice_get-no_code code k i none at =
      absurd (let e : ◌≡◌ {A = Option Instr} None (Some i) = subst (λ c. slice_get c k ≡ Some i) none at in cc)

  -- The location of an instruction of the program exists.
  location_in_range-of_instr : (t k : ℕ) (i : Instr) (x : ℕ)
      → slice_get (thread_code program t) k ≡ Some i
      → location_of (x86_operation i) ≡ Some x
      → x < locs
  location_in_range-of_instr t k i x at is =
      ⊎_elim (λ lt. (IsWellFormedStatement-at locs (thread_code program t) (threads t _ lt) k i at).0 x is)
      (λ past. slice_get-no_code (thread_code program t) k i (get_or_past program t [] past) at) (cases_lt t (length program))

  -- The location of a processor's next locked instruction exists.
  pub location_in_range-of_locked : (t : ℕ) (p : Processor) (l : Locked) → locked_next program t p ≡ Some l → l.location < locs
  location_in_range-of_locked t p l = go (slice_get (thread_code program t) p.position) refl
    where
      -- By the next instruction: it is locked, so there is one.
      go : (o : Option Instr)
          → slice_get (thread_code program t) p.position ≡ o
          → locked_by (step_effect o (with_empty_buffer p)) ≡ Some l
          → l.location < locs
      go None at e = None-ne_locked l e
      go (Some i) at e =
          location_in_range-of_instr t p.position i l.location at
          (LockedEffectShape-of_operation (x86_operation i) p l e).location

-- ---- other instructions

-- If an effect's access does not write, it leaves the memory unchanged.
memory_same-if_no_write : (act : EventEffect) (q : Processor) (m n : List ℕ)
    → EffectSatisfies (Unit {0}) (λ x w. w ≡ false) (λ q. Unit {0}) act
    → EffectLeadsTo m act q n
    → n ≡ m
memory_same-if_no_write (LocalStep next) q m n comes done = done.1
memory_same-if_no_write (MemoryAccess x to.Load next) q m n comes done = done.1
memory_same-if_no_write (MemoryAccess x _ next) q m n comes done = absurd (true≢false comes.0)
memory_same-if_no_write _ q m n comes done = absurd done

-- If an operation that is not locked leads from the words m to n, they are the same.
pub memory_same-plain_operation : (o : Operation) (p q : Processor) (m n : List ℕ)
    → is_locked o ≡ false
    → EffectLeadsTo m (operation_effect o p) q n
    → n ≡ m
memory_same-plain_operation o p q m n plain done =
    memory_same-if_no_write (operation_effect o p) q m n
    (EffectSatisfies-operation (Unit {0}) (λ x w. w ≡ false) (λ q. Unit {0}) o p (λ waits full. tt) (λ x at. plain)
    (λ q went. tt)) done

-- ---- drains

-- What a drain did, from the processor p and the words m to q and n: the oldest entry's word is in memory, and the newer
-- entries are left.
pub record DrainParts (m : List ℕ) (p q : Processor) (n : List ℕ) : Type 0 where
  pub entry : ℕ × ℕ
  pub newer : List (ℕ × ℕ)
  pub buffer_is : p.buffer ≡ entry ∷ newer
  -- The processor after it, with only the newer entries.
  pub processor_is : q ≡ record p { buffer = newer }
  -- The words after it, with the entry's word at its location.
  pub words : n ≡ slice_set m entry.0 entry.1

-- If the effect of a drain leads from p and m to q and n, the oldest entry of p went to memory, and the newer ones are left.
pub DrainParts-of_drain : (m : List ℕ) (p q : Processor) (n : List ℕ)
    → EffectLeadsTo m (drain_effect p.buffer p) q n
    → DrainParts m p q n
DrainParts-of_drain m p q n = go p.buffer refl
  where
    -- By the buffer: it has an oldest entry, since the drain is enabled.
    go : (buffer : List (ℕ × ℕ)) → p.buffer ≡ buffer → EffectLeadsTo m (drain_effect buffer p) q n → DrainParts m p q n
    go [] full d = absurd d
    go (entry ∷ newer) full d = record { entry = entry; newer = newer; buffer_is = full; processor_is = d.0; words = d.1 }

-- If location x exists, what is read of x after the oldest entry went to memory is what was read before.
pub read_value-after_drain : (m : List ℕ) (entry : ℕ × ℕ) (newer : List (ℕ × ℕ)) (x : ℕ)
    → x < length m
    → read_value newer (slice_set m entry.0 entry.1) x ≡ read_value (entry ∷ newer) m x
read_value-after_drain m entry newer x lt = go (newest_buffered newer x)
  where
    -- The word of the oldest entry, if it is for x.
    oldest : Option ℕ
    oldest = if entry.0 == x then Some entry.1 else None

    -- If the entry is for x, memory's word at x is the entry's after the drain.
    read-same_location : entry.0 ≡ x → slice_index (slice_set m entry.0 entry.1) x ≡ unwrap_or oldest (slice_index m x)
    read-same_location same =
        ap (λ y. slice_index (slice_set m y entry.1) x) same
        ∙ get_or-set_same m x entry.1 0 lt
        ∙ ap (λ b. unwrap_or (if b then Some entry.1 else None) (slice_index m x)) (sym (eq-eqb entry.0 x same))

    -- If the entry is for another location, memory's word at x is unchanged.
    read-other_location : (entry.0 ≡ x → ⊥) → slice_index (slice_set m entry.0 entry.1) x ≡ unwrap_or oldest (slice_index m x)
    read-other_location ne =
        get_or-set_other m entry.0 x entry.1 0 (λ e. ne (sym e))
        ∙ ap (λ b. unwrap_or (if b then Some entry.1 else None) (slice_index m x)) (sym (ne_eqb entry.0 x ne))

    -- By the word that the newer entries have for x: without one, by whether the oldest entry is for x.
    go : (o : Option ℕ)
        → unwrap_or o (slice_index (slice_set m entry.0 entry.1) x) ≡ unwrap_or (option_or o oldest) (slice_index m x)
    go (Some w) = refl
    go None = ⊎_elim read-same_location read-other_location (cases_eq entry.0 x)

-- ---- any effect

-- If an effect leads from the words m to n, they are equally many.
pub length_memory-effect : (m : List ℕ) (act : EventEffect) (q : Processor) (n : List ℕ)
    → EffectLeadsTo m act q n
    → length n ≡ length m
length_memory-effect m (LocalStep p) q n d = ap length d.1
length_memory-effect m (MemoryAccess x access next) q n d = ap length d.1 ∙ length-words_after m x access
length_memory-effect m _ q n d = absurd d
