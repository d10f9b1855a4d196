-- Adjacent items of an x86 test's order that neither conflict nor are preserved are independent events. By lw_tso
-- such events commute, so `X86TraceEquivalence` follows.
use Rattle.lw_finals.proofs.Common.{◌≡◌, ◌≢◌, ℕ, ◌<◌, Bool, true, false, List, [], ◌∷◌, length, Option, Some}
use Rattle.lw_finals.proofs.Common.{None, refl, sym, ap, ◌∙◌, subst, inl, arith, slice_get, ◌||◌}
use Rattle.lw_finals.proofs.Common.{if◌then◌else◌, eq-eqb, cond-false, and_from, or_left, or_right}
use Rattle.lw_finals.proofs.Common.{false_from_ne_true, same_Some, none-some, thread_code}
use Rattle.lw_finals.proofs.Common.{slice_get-slice_set_same, slice_get-slice_set_other, cpu_of, event_effect}
use Rattle.lw_finals.proofs.Common.{operation_effect, step_effect, drain_effect, DoNotConflict}
use Rattle.lw_finals.proofs.Common.{CommutesWithDrain, MayPassOldest, AreDrainAndPassing, AreIndependent}
use Rattle.lw_finals.proofs.Common.{MachineState, Processor, OperationTransition}
use Rattle.lw_finals.proofs.Common.{accessed_location-of_operation, Instr, Operation, Store, Load}
use Rattle.lw_finals.proofs.Common.{is_same_location, is_store, location_of, writes, needs_empty_buffer}
use Rattle.lw_finals.proofs.Common.{x86_operation, x86_language, Item, drained_location, statement_of}
use Rattle.lw_finals.proofs.Common.{location_by, writes_by, conflict_by, items_conflict, event_by, event_of}
use Rattle.lw_finals.proofs.api.Waiting.{DrainsOldest, IsAscendingBetween, IsAscendingBetween-member}
use Rattle.lw_finals.proofs.api.Waiting.{own_waits, entry_location, waits_after, waits_after-same_thread}
use Rattle.lw_finals.proofs.api.X86Waiting.{effect_by, ItemStep, OperationTransition-of_item, DrainShape}
use Rattle.lw_finals.proofs.api.X86Waiting.{DrainShape-of_effect, BufferHolds, AllBuffersHoldStores}
use Rattle.lw_tso.specs.Independence as machine

-- ---- the accesses of an item

-- The location that an operation accesses in memory at once: none for a store, whose entry a drain writes later.
abbrev accessed_at_once : Operation → Option ℕ
accessed_at_once o = if is_store o then None else location_of o

-- If the effect of an operation accesses memory, the operation is no buffered store.
is_store-false_if_access : (o : Operation) (q : Processor) (z : ℕ)
    → machine.accessed_location (operation_effect o q) ≡ Some z
    → is_store o ≡ false
is_store-false_if_access (Store x v) q z e = absurd (none-some z e)
is_store-false_if_access o q z e = refl

-- If the effect of an operation accesses z, then z is the location that it accesses at once, and it writes z only if the
-- operation writes.
accessed_location-of_step : (o : Operation) (q : Processor) (z : ℕ)
    → machine.accessed_location (operation_effect o q) ≡ Some z
    → (accessed_at_once o ≡ Some z) × (machine.event_writes (operation_effect o q) ≡ true → writes o ≡ true)
accessed_location-of_step o q z e =
    let found = accessed_location-of_operation o q z e in
    (cond-false (is_store o) None _ (is_store-false_if_access o q z e) ∙ found.0, λ w. or_right (is_store o) _ (found.1 ∙ w))

-- If the store at k has waited longest, the buffer has an oldest entry, for the location of that store.
BufferHolds-oldest_entry : (code : List Instr) (k : ℕ) (ws : List ℕ) (b : List (ℕ × ℕ)) (h : Instr)
    → BufferHolds code (k ∷ ws) b
    → slice_get code k ≡ Some h
    → (e : ℕ × ℕ) × (newer : List (ℕ × ℕ)) × (b ≡ e ∷ newer) × (drained_location x86_language h ≡ Some e.0)
BufferHolds-oldest_entry code k ws [] h w found_at = absurd w
BufferHolds-oldest_entry code k ws (e ∷ b) h w found_at = (e, b, refl, sym (ap (entry_location x86_language) found_at) ∙ w.0)

-- If the store at k has waited longest, and the effect of a drain accesses z, then z is the location of that store.
accessed_location-of_drain : (code : List Instr) (k : ℕ) (ws : List ℕ) (b : List (ℕ × ℕ)) (q : Processor) {z : ℕ} {h : Instr}
    → BufferHolds code (k ∷ ws) b
    → slice_get code k ≡ Some h
    → machine.accessed_location (drain_effect b q) ≡ Some z
    → drained_location x86_language h ≡ Some z
accessed_location-of_drain code k ws [] q w found_at e = absurd w
accessed_location-of_drain code k ws (f ∷ b) q w found_at e = sym (ap (entry_location x86_language) found_at) ∙ (w.0 ∙ e)

-- While these stores wait, an item of thread t at position j is executed: the instruction i (b is `false`), or the drain of its
-- entry (b is `true`), which is then that of the store that has waited longest.
pub record ItemMoves (program : List (List Instr)) (pending : ℕ → List ℕ) (t j : ℕ) (b : Bool) (i : Instr)
    (s mid : MachineState (List ℕ)) : Type 0 where
  pub instr_at : slice_get (thread_code program t) j ≡ Some i
  pub hold : AllBuffersHoldStores program pending s
  pub oldest : DrainsOldest b j (pending t)
  pub carried : ItemStep program t j b s mid

-- If the effect of an executed item, a drain (b is `true`) or an instruction, accesses z, then z is the item's location, and it
-- writes z only if the item does.
accessed_location-of_item : {program : List (List Instr)} {pending : ℕ → List ℕ} {t j : ℕ} (b : Bool) {i : Instr}
    {s mid : MachineState (List ℕ)} (x : ItemMoves program pending t j b i s mid) (z : ℕ)
    → machine.accessed_location (effect_by program t b x.carried.old) ≡ Some z
    → (location_by x86_language b i ≡ Some z)
    × (machine.event_writes (effect_by program t b x.carried.old) ≡ true → writes_by x86_language b i ≡ true)
accessed_location-of_item {program = program} {t = t} {j = j} true x z e =
    let c = x.carried in
    let h = x.oldest refl in (
      accessed_location-of_drain (thread_code program t) j h.0 c.old.buffer c.old
          (subst (λ ws. BufferHolds (thread_code program t) ws c.old.buffer) h.1 (x.hold t c.old c.was).waits) x.instr_at e,
      λ f. refl,
    )
accessed_location-of_item {program = program} {t = t} false x z e =
    let c = x.carried in
    let here = ap (λ k. slice_get (thread_code program t) k) (c.position_is refl) ∙ x.instr_at in
    let r = accessed_location-of_step _ c.old z (ap (λ o. machine.accessed_location (step_effect o c.old)) (sym here) ∙ e) in
    (r.0, λ f. r.1 (ap (λ o. machine.event_writes (step_effect o c.old)) (sym here) ∙ f))

-- If two items, drains if b and c say so, access the same location, and one of them writes, they conflict.
conflict_by-same_location : (b c : Bool) (i h : Instr) (z : ℕ)
    → location_by x86_language b i ≡ Some z
    → location_by x86_language c h ≡ Some z
    → (writes_by x86_language b i || writes_by x86_language c h) ≡ true
    → conflict_by x86_language b c (Some i) (Some h) ≡ true
conflict_by-same_location b c i h z e f w =
    and_from (is_same_location (location_by x86_language b i) (location_by x86_language c h))
    (writes_by x86_language b i || writes_by x86_language c h)
    (ap (λ o. is_same_location o (location_by x86_language c h)) e ∙ (ap (λ o. is_same_location (Some z) o) f ∙ eq-eqb z z refl))
    w

-- ---- an instruction and a drain

-- An operation commutes with a drain to x if it does not wait for an empty buffer and does not access x at once.
CommutesWithDrain-if_elsewhere : (x : ℕ) (o : Operation)
    → (needs_empty_buffer o ≡ true → ⊥)
    → (accessed_at_once o ≡ Some x → ⊥)
    → CommutesWithDrain x o
CommutesWithDrain-if_elsewhere x (Load d y) free other = λ e. other (ap Some (sym e))
CommutesWithDrain-if_elsewhere x o free other = false_from_ne_true (needs_empty_buffer o) free

-- An instruction that commutes with the drain of the entry e commutes with the oldest drain of a buffer whose oldest entry is e.
MayPassOldest-if_commutes : (b : List (ℕ × ℕ)) (o : Option Instr) (e : ℕ × ℕ) (newer : List (ℕ × ℕ)) (i : Instr)
    → b ≡ e ∷ newer
    → o ≡ Some i
    → CommutesWithDrain e.0 (x86_operation i)
    → MayPassOldest b o
MayPassOldest-if_commutes b o e newer i full at may =
    subst (λ c. MayPassOldest c o) (sym full) (subst (λ p. MayPassOldest (e ∷ newer) p) (sym at) may)

-- If some stores wait, the oldest one is the same after a statement.
own_waits-same_oldest : (o : Option ℕ) (j w k : ℕ) (ws rest : List ℕ) → own_waits false o j (w ∷ ws) ≡ k ∷ rest → w ≡ k
own_waits-same_oldest (Some x) j w k ws rest e = cc
own_waits-same_oldest None j w k ws rest e = cc

-- If no store waits, the only one that waits after a statement at j is its own.
own_waits-only_own : (o : Option ℕ) (j k : ℕ) (rest : List ℕ) → own_waits false o j [] ≡ k ∷ rest → j ≡ k
own_waits-only_own (Some x) j k rest e = cc
own_waits-only_own None j k rest e = cc

-- The pairs of one thread's items, at j and k, that are not preserved: not two statements, nor two drains, nor a statement and
-- its own drain, nor a drain and a statement h that waits for it. The items are drains if b and c are `true`.
pub record IsUnpreservedPair (b c : Bool) (h : Instr) (j k : ℕ) : Type 0 where
  pub kinds_differ : b ≡ c → ⊥
  pub others : b ≡ false → c ≡ true → j ≡ k → ⊥
  pub no_wait : b ≡ true → c ≡ false → j < k → needs_empty_buffer (x86_operation h) ≡ true → ⊥

module _ (program : List (List Instr)) (pending : ℕ → List ℕ) (s m1 m2 : MachineState (List ℕ)) where
  -- A buffer with an entry is not empty.
  not-empty-if_entry : (b : List (ℕ × ℕ)) (e : ℕ × ℕ) (newer : List (ℕ × ℕ)) → b ≡ e ∷ newer → b ≡ [] → ⊥
  not-empty-if_entry b e newer f is_nil = cc

  -- Two adjacent items of one thread that neither conflict nor are preserved: the statement i or its drain (b is `true`) is
  -- executed, and then h or its drain (c is `true`). What the first stores, if it does, is at o.
  record AreItemsOfOneThread (t j k : ℕ) (b c : Bool) (i h : Instr) (o : Option ℕ) : Type 0 where
    moves : ItemMoves program pending t j b i s m1
    instr_at : slice_get (thread_code program t) k ≡ Some h
    oldest : DrainsOldest c k (own_waits b o j (pending t))
    next : ItemStep program t k c m1 m2
    free : conflict_by x86_language b c (Some i) (Some h) ≡ true → ⊥
    unpreserved : IsUnpreservedPair b c h j k

  -- If two adjacent items of one thread neither conflict nor are preserved, one of them is a drain (b or c), and the other
  -- commutes with the drain of the oldest entry.
  AreDrainAndPassing-one_thread : (t j k : ℕ) (b c : Bool) (i h : Instr) (o : Option ℕ)
      (two : AreItemsOfOneThread t j k b c i h o)
      → AreDrainAndPassing program (event_by b t) (event_by c t) two.moves.carried.old
  AreDrainAndPassing-one_thread t j k false true i h o two =
      let x = two.moves.carried in
      let at = two.moves.hold t x.old x.was in
      let found_at : slice_get (thread_code program t) x.old.position ≡ Some i =
      ap (λ n. slice_get (thread_code program t) n) (x.position_is refl) ∙ two.moves.instr_at in
      let shape : OperationTransition (x86_operation i) x.old x.new =
      OperationTransition-of_item program t j i s m1 x two.moves.instr_at in
      let (rest, head) = two.oldest refl in
      let (e, newer, full, stores) = drains_found_entry (pending t) at.waits at.climbs rest head in
      MayPassOldest-if_commutes x.old.buffer (slice_get (thread_code program t) x.old.position) e newer i full found_at
      (CommutesWithDrain-if_elsewhere e.0 (x86_operation i) (λ w. not-empty-if_entry x.old.buffer e newer full (shape.waited w))
      (λ same.
      two.free (conflict_by-same_location false true i h e.0 same stores (or_right (writes_by x86_language false i) true refl))))
    where
      -- The drained entry is the first of the buffer, and is for the location of a store.
      drains_found_entry : (ws : List ℕ)
          → BufferHolds (thread_code program t) ws two.moves.carried.old.buffer
          → IsAscendingBetween 0 ws two.moves.carried.old.position
          → (rest : List ℕ)
          → own_waits false o j ws ≡ k ∷ rest
          → (e : ℕ × ℕ)
          × (newer : List (ℕ × ℕ))
          × (two.moves.carried.old.buffer ≡ e ∷ newer)
          × (drained_location x86_language h ≡ Some e.0)
      drains_found_entry [] w c rest e = absurd (two.unpreserved.others refl refl (own_waits-only_own o j k rest e))
      drains_found_entry (v ∷ ws) w c rest e =
          BufferHolds-oldest_entry (thread_code program t) k ws two.moves.carried.old.buffer h
          (subst (λ v. BufferHolds (thread_code program t) (v ∷ ws) two.moves.carried.old.buffer)
          (own_waits-same_oldest o j v k ws rest e) w) two.instr_at
  AreDrainAndPassing-one_thread t j k true false i h o two =
      let x = two.moves.carried in
      let (rest, head) = two.moves.oldest refl in
      let g = two.moves.hold t x.old x.was in
      let (e, newer, full, stores) =
      BufferHolds-oldest_entry (thread_code program t) j rest x.old.buffer i
      (subst (λ ws. BufferHolds (thread_code program t) ws x.old.buffer) head g.waits) two.moves.instr_at in
      let at : x.old.position ≡ k = old_position in
      let less = IsAscendingBetween-member 0 x.old.position j (j ∷ rest) (rw head at g.climbs) (inl refl) in
      MayPassOldest-if_commutes x.old.buffer (slice_get (thread_code program t) x.old.position) e newer h full
      (ap (λ n. slice_get (thread_code program t) n) at ∙ two.instr_at)
      (CommutesWithDrain-if_elsewhere e.0 _ (λ w. two.unpreserved.no_wait refl refl (omega (arith, less.1, at)) w)
      (λ same. two.free (conflict_by-same_location true false i h e.0 stores same refl)))
    where
      -- After the drain the thread is where the second item finds it.
      old_position : two.moves.carried.old.position ≡ k
      old_position =
          let x = two.moves.carried in
          let d : DrainShape x.old x.new = DrainShape-of_effect x.old x.new s.memory x.words x.does in
          let same : x.new ≡ two.next.old =
          same_Some x.new two.next.old
          (sym (ap (λ (z : MachineState (List ℕ)). slice_get z.processors t) x.state_is
          ∙ slice_get-slice_set_same s.processors t x.new x.old x.was)
          ∙ two.next.was) in
          ap (λ (z : Processor). z.position) (sym d.processor_is) ∙ (ap (λ z. z.position) same ∙ two.next.position_is refl)
  AreDrainAndPassing-one_thread t j k _ _ i h o two = absurd (two.unpreserved.kinds_differ refl)

  -- Two adjacent items of different threads t and u that do not conflict, which are drains if b and c are `true`; and the
  -- processors p and q that they find. V are the stores that wait between them.
  record AreItemsOfTwoThreads (t u j k : ℕ) (b c : Bool) (i h : Instr) (V : ℕ → List ℕ) (p q : Processor) : Type 0 where
    threads_differ : t ≢ u
    first : ItemMoves program pending t j b i s m1
    second : ItemMoves program V u k c h m1 m2
    free : conflict_by x86_language b c (Some i) (Some h) ≡ true → ⊥
    first_processor : slice_get s.processors t ≡ Some p
    second_processor : slice_get s.processors u ≡ Some q

  -- If two adjacent items of different threads, drains if b and c say so, do not conflict, neither do their effects.
  DoNotConflict-two_threads : (t u j k : ℕ) (b c : Bool) (i h : Instr) (V : ℕ → List ℕ) (p q : Processor)
      → AreItemsOfTwoThreads t u j k b c i h V p q
      → DoNotConflict (effect_by program t b p) (effect_by program u c q)
  DoNotConflict-two_threads t u j k b c i h V p q two z az bz =
      let x = two.first.carried in
      let y = two.second.carried in
      let xs : x.old ≡ p = same_Some x.old p (sym x.was ∙ two.first_processor) in
      let ys : y.old ≡ q =
      same_Some y.old q
      (sym y.was
      ∙ (ap (λ (z : MachineState (List ℕ)). slice_get z.processors u) x.state_is
      ∙ (slice_get-slice_set_other s.processors t u x.new two.threads_differ ∙ two.second_processor))) in
      let one = accessed_location-of_item b two.first z (ap (λ r. machine.accessed_location (effect_by program t b r)) xs ∙ az) in
      let other =
      accessed_location-of_item c two.second z (ap (λ r. machine.accessed_location (effect_by program u c r)) ys ∙ bz) in (
        false_from_ne_true _ (λ w.
            two.free (conflict_by-same_location b c i h z one.0 other.0
            (or_left (writes_by x86_language b i) (writes_by x86_language c h)
            (one.1 (ap (λ r. machine.event_writes (effect_by program t b r)) xs ∙ w))))),
        false_from_ne_true _ (λ w.
            two.free (conflict_by-same_location b c i h z one.0 other.0
            (or_right (writes_by x86_language b i) (writes_by x86_language c h)
            (other.1 (ap (λ r. machine.event_writes (effect_by program u c r)) ys ∙ w))))),
      )

  -- The effect of an item's event is that of its drain (b is `true`), or of its instruction.
  event_effect-of_item : (locs t : ℕ) (b : Bool) (p : Processor)
      → event_effect program locs (event_by b t) p ≡ effect_by program t b p
  event_effect-of_item locs t true p = refl
  event_effect-of_item locs t false p = refl

  -- The processor of an item's event, a drain (b is `true`) or a step, is that of the item's thread.
  cpu_of-item_event : (b : Bool) (t : ℕ) → cpu_of (event_by b t) ≡ t
  cpu_of-item_event true t = refl
  cpu_of-item_event false t = refl

  -- If two adjacent items neither conflict nor are preserved, their events are independent.
  pub AreIndependent-unpreserved_items : (a b : Item) (i h : Instr)
      → ItemMoves program pending a.thread a.position a.is_drain i s m1
      → ItemMoves program (waits_after x86_language program a pending) b.thread b.position b.is_drain h m1 m2
      → (items_conflict x86_language program a b ≡ true → ⊥)
      → (a.thread ≡ b.thread → IsUnpreservedPair a.is_drain b.is_drain h a.position b.position)
      → AreIndependent program (event_of a) (event_of b) s
  AreIndependent-unpreserved_items a b i h first second free unpreserved = record {
    of_two = λ ne p q e f.
        let threads : a.thread ≢ b.thread =
        λ same. ne (cpu_of-item_event a.is_drain a.thread ∙ (same ∙ sym (cpu_of-item_event b.is_drain b.thread))) in
        let e' : slice_get s.processors a.thread ≡ Some p =
        ap (slice_get s.processors) (sym (cpu_of-item_event a.is_drain a.thread)) ∙ e in
        let f' : slice_get s.processors b.thread ≡ Some q =
        ap (slice_get s.processors) (sym (cpu_of-item_event b.is_drain b.thread)) ∙ f in
        subst (λ act. DoNotConflict act (event_effect program (length s.memory) (event_of b) q))
        (sym (event_effect-of_item (length s.memory) a.thread a.is_drain p))
        (subst (λ act. DoNotConflict (effect_by program a.thread a.is_drain p) act)
        (sym (event_effect-of_item (length s.memory) b.thread b.is_drain q))
        (DoNotConflict-two_threads a.thread b.thread a.position b.position a.is_drain b.is_drain i h _ p q (record {
          threads_differ = threads;
          first = first;
          second = second;
          free = not-in_conflict;
          first_processor = e';
          second_processor = f';
        })));
    of_one = λ same p e.
        let same_thread : a.thread ≡ b.thread =
        sym (cpu_of-item_event a.is_drain a.thread) ∙ (same ∙ cpu_of-item_event b.is_drain b.thread) in
        let x = first.carried in
        let is : x.old ≡ p =
        same_Some x.old p (sym x.was ∙ (ap (slice_get s.processors) (sym (cpu_of-item_event a.is_drain a.thread)) ∙ e)) in
        subst (λ u. AreDrainAndPassing program (event_of a) (event_by b.is_drain u) p) same_thread
        (subst (λ r. AreDrainAndPassing program (event_of a) (event_by b.is_drain a.thread) r) is
        (AreDrainAndPassing-one_thread a.thread a.position b.position a.is_drain b.is_drain i h
        (entry_location x86_language (statement_of x86_language program a)) (record {
          moves = first;
          instr_at = subst (λ u. slice_get (thread_code program u) b.position ≡ Some h) (sym same_thread) second.instr_at;
          oldest = own_waits-drained_is_oldest same_thread;
          next = subst (λ u. ItemStep program u b.position b.is_drain m1 m2) (sym same_thread) second.carried;
          free = not-in_conflict;
          unpreserved = unpreserved same_thread;
        })));
  }
    where
      -- The two items do not conflict, with their instructions in place of their indices.
      not-in_conflict : conflict_by x86_language a.is_drain b.is_drain (Some i) (Some h) ≡ true → ⊥
      not-in_conflict e =
          free (ap (λ o. conflict_by x86_language a.is_drain b.is_drain o (statement_of x86_language program b)) first.instr_at
          ∙ (ap (λ o. conflict_by x86_language a.is_drain b.is_drain (Some i) o) second.instr_at ∙ e))

      -- The drain is that of the thread's store that has waited longest.
      own_waits-drained_is_oldest : a.thread ≡ b.thread
          → b.is_drain ≡ true
          → (rest : List ℕ)
          × (own_waits a.is_drain (entry_location x86_language (statement_of x86_language program a)) a.position
          (pending a.thread)
          ≡ b.position ∷ rest)
      own_waits-drained_is_oldest same_thread f =
          let r = second.oldest f in (
            r.0,
            sym (waits_after-same_thread x86_language program a pending a.thread refl)
                ∙ (ap (waits_after x86_language program a pending) same_thread ∙ r.1),
          )
