-- A store buffer has room for all stores that are ahead in its code, through every event, so that a store
-- takes no memory. This is the part of the machine's invariant that `push` of a store buffer requires.
use Rattle.lw_tso.proofs.Common.{IsWellScopedThread, ◌≡◌, ℕ, zero, suc, ◌+◌, ◌<◌, ◌≤◌, true, cond, List, []}
use Rattle.lw_tso.proofs.Common.{◌∷◌, ◌++◌, length, length-append, get_or, Some, refl, sym, ap, ◌∙◌, subst}
use Rattle.lw_tso.proofs.Common.{arith, slice_get, ⊎_elim, All, All-append, sum_by-take-drop}
use Rattle.lw_tso.proofs.Common.{sum_by-drop_more, slice_get_within, get_or_from_slice_get}
use Rattle.lw_tso.proofs.Common.{IsWellFormedStatement, Instr, IsSuccessor, x86_operation, x86_language}
use Rattle.lw_tso.proofs.Common.{Processor, makes_entry, stores_from, HasRoom}
use Rattle.lw_tso.proofs.api.Operations.{OperationTransition}
use Rattle.lw_tso.proofs.EventActs.{ProcessorChange, Stays, Steps, Drains}

module _ (locs : ℕ) (code : List Instr) (thread : IsWellScopedThread x86_language locs code) where
  -- An instruction of a well-scoped code is well-formed.
  pub IsWellFormedStatement-at : (k : ℕ) (i : Instr) → slice_get code k ≡ Some i → IsWellFormedStatement x86_language locs i
  IsWellFormedStatement-at k i at =
      let got : get_or code k i ≡ i = get_or_from_slice_get code k i i at in
      subst (IsWellFormedStatement x86_language locs) got (thread.statements_formed k i (slice_get_within code k i at))

  -- If j is a successor of the instruction at position k of a well-scoped code, then j is later than k.
  pub IsSuccessor-later : (k j : ℕ) (i : Instr) → slice_get code k ≡ Some i → IsSuccessor (x86_operation i) k j → k < j
  IsSuccessor-later k j i at leads = ⊎_elim (λ on. (omega (arith, on.1))) (λ to. (thread.forward k i at j to).0) leads

-- The number of stores that an instruction is: one or none.
abbrev pub store_count : Instr → ℕ
store_count i = cond (makes_entry i) 1 0

-- An instruction that adds an entry counts as one.
pub store_count-of_entry : (i : Instr) → makes_entry i ≡ true → store_count i ≡ 1
store_count-of_entry i store = rw store refl

-- The stores from a position on are the one at that position and those after it.
pub stores_from-suc : (code : List Instr) (k : ℕ) (i : Instr)
    → slice_get code k ≡ Some i
    → stores_from k code ≡ store_count i + stores_from (k + 1) code
stores_from-suc code k i at =
    sum_by-drop_more store_count code k i (slice_get_within code k i at)
    ∙ ap (λ (x : Instr). store_count x + stores_from (k + 1) code) (get_or_from_slice_get code k i i at)

-- If k ≤ `to`, a code has at most as many stores from `to` on as from k on.
pub stores_from-antitone : (code : List Instr) (k to : ℕ) → k ≤ to → stores_from to code ≤ stores_from k code
stores_from-antitone code zero to later = omega (arith, sum_by-take-drop store_count code to)
stores_from-antitone [] (suc k) zero later = omega arith
stores_from-antitone [] (suc k) (suc to) later = omega arith
stores_from-antitone (i ∷ code) (suc k) zero later = absurd (omega arith)
stores_from-antitone (i ∷ code) (suc k) (suc to) later = stores_from-antitone code k to (omega arith)

-- If P holds of x, it holds of all items of the list with just x.
All-singleton : {X : Type 0} (P : X → Type 0) (x : X) → P x → All P (x ∷ [])
All-singleton P x h zero d within = h
All-singleton P x h (suc k) d within = absurd (omega arith)

module _ (locs : ℕ) (code : List Instr) (room : ℕ) where
  -- The processor's buffer, of the capacity `room`, has room for all stores ahead, and its entries are for existing locations.
  abbrev HasRoomAhead : Processor → Type 0
  HasRoomAhead p = HasRoom locs code p room

  -- If p has room for all stores ahead, so does q at the same or a later position, with the same buffer.
  HasRoomAhead-later : (p q : Processor) → p.position ≤ q.position → q.buffer ≡ p.buffer → HasRoomAhead p → HasRoomAhead q
  HasRoomAhead-later p q later same has = record {
    fits = omega (arith, has.fits, ap length same, stores_from-antitone code p.position q.position later);
    entries_in_range = subst (All (λ (e : ℕ × ℕ). e.0 < locs)) (sym same) has.entries_in_range;
  }

  -- If p has room for all stores ahead, its next instruction is a store of an existing location, and q is at a later position
  -- with the store's entry appended, then q has room for all stores ahead.
  HasRoomAhead-store : (p q : Processor) (entry : ℕ × ℕ) (i : Instr)
      → slice_get code p.position ≡ Some i
      → makes_entry i ≡ true
      → p.position < q.position
      → entry.0 < locs
      → q.buffer ≡ p.buffer ++ entry ∷ []
      → HasRoomAhead p
      → HasRoomAhead q
  HasRoomAhead-store p q entry i at store later there is has =
      let here = stores_from-suc code p.position i at in
      let longer = length-append p.buffer (entry ∷ []) in
      let fewer = stores_from-antitone code (p.position + 1) q.position (omega arith) in
      record {
        fits = omega (arith, has.fits, here, (store_count-of_entry i store), longer, fewer, ap length is);
        entries_in_range =
            subst (All (λ (e : ℕ × ℕ). e.0 < locs)) (sym is)
            (All-append (λ (e : ℕ × ℕ). e.0 < locs) p.buffer (entry ∷ []) has.entries_in_range
            (All-singleton (λ (e : ℕ × ℕ). e.0 < locs) entry there));
      }

  -- If p has room for all stores ahead, so does p without its oldest entry.
  HasRoomAhead-drain : (p q : Processor) (entry : ℕ × ℕ) (newer : List (ℕ × ℕ))
      → p.buffer ≡ entry ∷ newer
      → q ≡ record p { buffer = newer }
      → HasRoomAhead p
      → HasRoomAhead q
  HasRoomAhead-drain p q entry newer was is has = subst HasRoomAhead (sym is) (record {
    fits = omega (arith, has.fits, ap length was);
    entries_in_range = λ k d within. (subst (All (λ (e : ℕ × ℕ). e.0 < locs)) was has.entries_in_range) (suc k) d (omega arith);
  })

  -- If p has room for all stores ahead, and its next instruction leads to q, then q has room for all stores ahead.
  HasRoomAhead-operation : IsWellScopedThread x86_language locs code
      → (p q : Processor) (i : Instr)
      → slice_get code p.position ≡ Some i
      → OperationTransition (x86_operation i) p q
      → HasRoomAhead p
      → HasRoomAhead q
  HasRoomAhead-operation thread p q i at w has =
      let later = IsSuccessor-later locs code thread p.position q.position i at w.leads in
      ⊎_elim (λ plain. HasRoomAhead-later p q (omega arith) plain.1 has) (λ store.
      HasRoomAhead-store p q store.0 i at store.1 later
      ((IsWellFormedStatement-at locs code thread p.position i at).0 store.0.0 store.2) store.3 has) w.buffers

-- If the code is well-scoped, and p has room for all stores ahead, so does the processor q after an event.
pub HasRoomAhead-event : {locs room : ℕ} {code : List Instr} {p q : Processor}
    → IsWellScopedThread x86_language locs code
    → ProcessorChange code p q
    → HasRoom locs code p room
    → HasRoom locs code q room
HasRoomAhead-event {locs = locs} {room = room} {code = code} thread (Stays is) has =
    subst (λ r. HasRoom locs code r room) (sym is) has
HasRoomAhead-event {locs = locs} {room = room} {code = code} {p = p} {q = q} thread (Steps i at w) has =
    HasRoomAhead-operation locs code room thread p q i at w has
HasRoomAhead-event {locs = locs} {room = room} {code = code} {p = p} {q = q} thread (Drains entry newer was is) has =
    HasRoomAhead-drain locs code room p q entry newer was is has
