-- Which stores of a thread wait in its store buffer, by their positions, along a run of items of an x86 test.
-- The buffer's entries are those of the waiting stores, in order; so a drain is that of a known store.
use Rattle.lw_finals.proofs.Common.{◌≡◌, ℕ, Bool, true, false, if◌then◌else◌, List, [], ◌∷◌, ◌++◌, map}
use Rattle.lw_finals.proofs.Common.{Option, Some, None, refl, sym, ap, ◌∙◌, subst, inl, inr, arith, slice_get}
use Rattle.lw_finals.proofs.Common.{slice_set, option_map, true≢false, cases_eq, cond-true, cond-false}
use Rattle.lw_finals.proofs.Common.{same_Some, slice_get-map, thread_code, slice_get-slice_set_same}
use Rattle.lw_finals.proofs.Common.{slice_get-slice_set_other, slice_get-map_inv, flat_memory, Operation}
use Rattle.lw_finals.proofs.Common.{Instr, IsFlowSuccessor, is_store, location_of, x86_operation}
use Rattle.lw_finals.proofs.Common.{x86_language, X86Test, EventEffect, step_effect, drain_effect}
use Rattle.lw_finals.proofs.Common.{TransitionAt, MachineState, Processor, initial_processor}
use Rattle.lw_finals.proofs.Common.{initial_machine_state, state, EffectLeadsTo, EventOccurrence}
use Rattle.lw_finals.proofs.Common.{EventOccurrence-of_event, Buffers, OperationTransition}
use Rattle.lw_finals.proofs.Common.{OperationTransition-of_effect, JumpsForward, Item, drained_location}
use Rattle.lw_finals.proofs.Common.{statement_of, IsFlowSuccessor-in_range, IsMember, event_by}
use Rattle.lw_finals.proofs.api.Waiting.{IsAscendingBetween, own_waits, IsAscendingBetween-after_drain}
use Rattle.lw_finals.proofs.api.Waiting.{IsAscendingBetween-after_statement, entry_location, waits_after}
use Rattle.lw_finals.proofs.api.Waiting.{waits_after-same_thread, waits_after-other_thread}

-- ---- the effect of an item

-- The effect of a thread's drain (true) or step (false).
abbrev pub effect_by : List (List Instr) → ℕ → Bool → Processor → EventEffect
effect_by program t true p = drain_effect p.buffer p
effect_by program t false p = step_effect (slice_get (thread_code program t) p.position) p

-- A drain of thread t (b is true), or its step from position j, leads from the state s to `mid`: the processor before and after.
pub record ItemStep (program : List (List Instr)) (t j : ℕ) (b : Bool) (s mid : MachineState (List ℕ)) : Type 0 where
  pub old : Processor
  pub new : Processor
  pub words : List ℕ
  pub was : slice_get s.processors t ≡ Some old
  pub position_is : b ≡ false → old.position ≡ j
  pub does : EffectLeadsTo s.memory (effect_by program t b old) new words
  pub state_is : mid ≡ state (slice_set s.processors t new) words

-- If an item's event makes its transition at position j, it is a drain of thread t (b is `true`), or its step from j.
pub ItemStep-of_transition : (program : List (List Instr)) (t j : ℕ) (b : Bool) (s mid : MachineState (List ℕ))
    → TransitionAt flat_memory program (event_by b t) j s mid
    → ItemStep program t j b s mid
ItemStep-of_transition program t j true s mid d =
    let x : EventOccurrence program (event_by true t) s mid = EventOccurrence-of_event program (event_by true t) s mid d.done in
    record {
      old = x.from;
      new = x.to;
      words = x.words;
      was = x.was;
      position_is = λ f. absurd (true≢false f);
      does = x.does;
      state_is = x.state_is;
    }
ItemStep-of_transition program t j false s mid d =
    let x : EventOccurrence program (event_by false t) s mid = EventOccurrence-of_event program (event_by false t) s mid d.done in
    record {
      old = x.from;
      new = x.to;
      words = x.words;
      was = x.was;
      position_is = λ f. same_Some x.from.position j (sym (position_at x.from x.was) ∙ d.is_at_position);
      does = x.does;
      state_is = x.state_is;
    }
  where
    -- A processor's position is in the list of positions.
    position_at : (p : Processor)
        → slice_get s.processors t ≡ Some p
        → slice_get (map (λ (q : Processor). q.position) s.processors) t ≡ Some p.position
    position_at p was = slice_get-map _ s.processors t ∙ ap (option_map (λ (q : Processor). q.position)) was

-- The item is executed: a step of its thread from its position, or a drain.
abbrev pub CarriedItem : List (List Instr) → Item → MachineState (List ℕ) → MachineState (List ℕ) → Type 0
CarriedItem program a s mid = ItemStep program a.thread a.position a.is_drain s mid

-- ---- the effect of a drain on position and buffer

-- A drain removes the oldest entry, and leaves the newer ones.
pub record DrainShape (p q : Processor) : Type 0 where
  pub entry : ℕ × ℕ
  pub newer : List (ℕ × ℕ)
  pub buffer_is : p.buffer ≡ entry ∷ newer
  -- The processor after it has only the newer entries.
  pub processor_is : q ≡ record p { buffer = newer }

-- If a drain of p, whose buffer is b, leads to q, then q is p without its oldest entry.
DrainShape-of_buffer : (b : List (ℕ × ℕ)) (p q : Processor) (m n : List ℕ)
    → p.buffer ≡ b
    → EffectLeadsTo m (drain_effect b p) q n
    → DrainShape p q
DrainShape-of_buffer [] p q m n e d = absurd d
DrainShape-of_buffer (f ∷ b) p q m n e d = record { entry = f; newer = b; buffer_is = e; processor_is = d.0 }

-- If a drain of p leads to q, then q is p without its oldest entry.
pub DrainShape-of_effect : (p q : Processor) (m n : List ℕ) → EffectLeadsTo m (drain_effect p.buffer p) q n → DrainShape p q
DrainShape-of_effect p q m n d = DrainShape-of_buffer p.buffer p q m n refl d

-- ---- the waiting stores

-- The buffer has exactly one entry for each of the stores at these positions, in their order and of their locations. Their words are not compared.
abbrev pub BufferHolds : List Instr → List ℕ → List (ℕ × ℕ) → Type 0
BufferHolds code [] [] = Unit {0}
BufferHolds code (w ∷ ws) (e ∷ b) = (entry_location x86_language (slice_get code w) ≡ Some e.0) × BufferHolds code ws b
BufferHolds code _ _ = ⊥

-- If the buffer is empty, no store waits.
pub no_store-if_buffer_empty : (code : List Instr) (ws : List ℕ) → BufferHolds code ws [] → (j : ℕ) → IsMember j ws → ⊥
no_store-if_buffer_empty code [] h j is_member = is_member
no_store-if_buffer_empty code (w ∷ ws) h j is_member = h

-- If the buffer holds the stores ws, and j makes an entry for x, then with an entry for x appended it holds ws and j.
BufferHolds-push : (code : List Instr) (ws : List ℕ) (b : List (ℕ × ℕ)) (j x w : ℕ)
    → BufferHolds code ws b
    → entry_location x86_language (slice_get code j) ≡ Some x
    → BufferHolds code (ws ++ j ∷ []) (b ++ (x, w) ∷ [])
BufferHolds-push code [] [] j x w h e = (e, tt)
BufferHolds-push code (u ∷ ws) (f ∷ b) j x w h e = (h.0, BufferHolds-push code ws b j x w h.1 e)
BufferHolds-push code _ _ j x w h e = absurd h

-- The location for which an operation makes an entry, if it is a store.
abbrev pub entry_of_operation : Operation → Option ℕ
entry_of_operation o = if is_store o then location_of o else None

-- If the buffer holds the stores ws, and the operation at j changes it to `after`, that holds the stores that wait after j.
BufferHolds-after_step : (code : List Instr) (o : Operation) (ws : List ℕ) (b after : List (ℕ × ℕ)) (j : ℕ)
    → BufferHolds code ws b
    → entry_location x86_language (slice_get code j) ≡ entry_of_operation o
    → Buffers o b after
    → BufferHolds code (own_waits false (entry_of_operation o) j ws) after
BufferHolds-after_step code o ws b after j h e (inl (none, same)) =
    subst (λ (entry : Option ℕ). BufferHolds code (own_waits false entry j ws) after)
    (sym (cond-false (is_store o) (location_of o) None none)) (subst (BufferHolds code ws) (sym same) h)
BufferHolds-after_step code o ws b after j h e (inr (entry, is, at, grown)) =
    let makes : entry_of_operation o ≡ Some entry.0 = cond-true (is_store o) (location_of o) None is ∙ at in
    subst (λ (entry : Option ℕ). BufferHolds code (own_waits false entry j ws) after) (sym makes)
    (subst (BufferHolds code (ws ++ j ∷ [])) (sym grown) (BufferHolds-push code ws b j entry.0 entry.1 h (e ∙ makes)))

-- If the buffer with an oldest entry holds the stores ws, then without it it holds the stores that wait after the drain.
BufferHolds-after_drain : (code : List Instr) (o : Option ℕ) (j : ℕ) (ws : List ℕ) (e : ℕ × ℕ) (b : List (ℕ × ℕ))
    → BufferHolds code ws (e ∷ b)
    → BufferHolds code (own_waits true o j ws) b
BufferHolds-after_drain code o j [] e b h = absurd h
BufferHolds-after_drain code o j (w ∷ ws) e b h = h.1

-- The stores at these positions wait in the processor's buffer, in their order, and all before its position.
pub record HoldsStores (code : List Instr) (ws : List ℕ) (p : Processor) : Type 0 where
  pub waits : BufferHolds code ws p.buffer
  pub climbs : IsAscendingBetween 0 ws p.position

-- Each processor's buffer has the entries of its thread's waiting stores, whose positions are ascending and before the processor's position.
abbrev pub AllBuffersHoldStores : List (List Instr) → (ℕ → List ℕ) → MachineState (List ℕ) → Type 0
AllBuffersHoldStores program pending s =
    (t : ℕ) (p : Processor) → slice_get s.processors t ≡ Some p → HoldsStores (thread_code program t) (pending t) p

module _ (program : List (List Instr)) where
  -- If the item at j, a statement, has the instruction i, its processor makes the transition of i's operation.
  pub OperationTransition-of_item : (t j : ℕ) (i : Instr) (s mid : MachineState (List ℕ)) (c : ItemStep program t j false s mid)
      → slice_get (thread_code program t) j ≡ Some i
      → OperationTransition (x86_operation i) c.old c.new
  OperationTransition-of_item t j i s mid c found_at =
      let here = ap (λ k. slice_get (thread_code program t) k) (c.position_is refl) ∙ found_at in
      OperationTransition-of_effect _ _ c.new _ _
      (subst (λ o. EffectLeadsTo s.memory (step_effect o c.old) c.new c.words) here c.does)

  module _ (forward : (t : ℕ) → JumpsForward x86_language (thread_code program t)) where
    -- If the processor of an item, a drain (b is `true`) or a statement, holds the waiting stores of its thread, then after the
    -- item it holds those that wait then.
    HoldsStores-after_item : (t j : ℕ) (i : Instr) (b : Bool) (ws : List ℕ) (s mid : MachineState (List ℕ))
        (c : ItemStep program t j b s mid)
        → slice_get (thread_code program t) j ≡ Some i
        → HoldsStores (thread_code program t) ws c.old
        → HoldsStores (thread_code program t) (own_waits b (drained_location x86_language i) j ws) c.new
    HoldsStores-after_item t j i true ws s mid c found_at h =
        let a : DrainShape c.old c.new = DrainShape-of_effect c.old c.new s.memory c.words c.does in
        subst (HoldsStores (thread_code program t) (own_waits true (drained_location x86_language i) j ws)) (sym a.processor_is)
        (record {
          waits =
              BufferHolds-after_drain (thread_code program t) (drained_location x86_language i) j ws a.entry a.newer
              (subst (BufferHolds (thread_code program t) ws) a.buffer_is h.waits);
          climbs = IsAscendingBetween-after_drain (drained_location x86_language i) ws j c.old.position h.climbs;
        })
    HoldsStores-after_item t j i false ws s mid c found_at h =
        let a : OperationTransition (x86_operation i) c.old c.new = OperationTransition-of_item t j i s mid c found_at in
        let there : c.old.position ≡ j = c.position_is refl in
        let lt =
        IsFlowSuccessor-in_range x86_language (thread_code program t) j c.new.position (forward t)
        (subst (λ (o : Option Instr). IsFlowSuccessor x86_language o j c.new.position) (sym found_at) (rw there at a.leads)) in
        record {
          waits =
              BufferHolds-after_step (thread_code program t) (x86_operation i) ws c.old.buffer c.new.buffer j h.waits
              (ap (entry_location x86_language) found_at) a.buffers;
          climbs =
              IsAscendingBetween-after_statement (drained_location x86_language i) ws j c.new.position lt.0
              (subst (IsAscendingBetween 0 ws) there h.climbs);
        }

    -- If all buffers hold the waiting stores, they do so after an item that is executed.
    pub AllBuffersHoldStores-after_item : (a : Item) (i : Instr) (pending : ℕ → List ℕ) (s mid : MachineState (List ℕ))
        → CarriedItem program a s mid
        → statement_of x86_language program a ≡ Some i
        → AllBuffersHoldStores program pending s
        → AllBuffersHoldStores program (waits_after x86_language program a pending) mid
    AllBuffersHoldStores-after_item a i pending s mid c at h t q e =
        let got : slice_get (slice_set s.processors a.thread c.new) t ≡ Some q =
        ap (λ (z : MachineState (List ℕ)). slice_get z.processors t) (sym c.state_is) ∙ e in
        elim (cases_eq a.thread t) [
          | inl same_thread ↦ HoldsStores-own_thread t q same_thread got
          | inr threads_differ ↦
              subst (λ ws. HoldsStores (thread_code program t) ws q)
              (sym (waits_after-other_thread x86_language program a pending t threads_differ))
              (h t q (sym (slice_get-slice_set_other s.processors a.thread t c.new threads_differ) ∙ got))
        ]
      where
        -- After the item the buffer of its thread holds the stores that wait.
        own_buffer_holds : HoldsStores (thread_code program a.thread)
            (own_waits a.is_drain (drained_location x86_language i) a.position (pending a.thread)) c.new
        own_buffer_holds =
            HoldsStores-after_item a.thread a.position i a.is_drain (pending a.thread) s mid c at (h a.thread c.old c.was)

        -- The stores of the item's thread that wait after it, in two forms.
        own_waits-waits_after : own_waits a.is_drain (drained_location x86_language i) a.position (pending a.thread)
            ≡ waits_after x86_language program a pending a.thread
        own_waits-waits_after =
            ap (λ o. own_waits a.is_drain (entry_location x86_language o) a.position (pending a.thread)) (sym at)
            ∙ sym (waits_after-same_thread x86_language program a pending a.thread refl)

        -- Each processor of the item's thread holds the stores that wait after the item.
        HoldsStores-own_thread : (t : ℕ) (q : Processor)
            → a.thread ≡ t
            → slice_get (slice_set s.processors a.thread c.new) t ≡ Some q
            → HoldsStores (thread_code program t) (waits_after x86_language program a pending t) q
        HoldsStores-own_thread t q same_thread found_at =
            let e : c.new ≡ q =
            same_Some c.new q
            (sym (slice_get-slice_set_same s.processors a.thread c.new c.old c.was)
            ∙ subst (λ k. slice_get (slice_set s.processors a.thread c.new) k ≡ Some q) (sym same_thread) found_at) in
            subst (λ k. HoldsStores (thread_code program k) (waits_after x86_language program a pending k) q) same_thread
            (subst (λ ws. HoldsStores (thread_code program a.thread) ws q) own_waits-waits_after
            (subst
            (HoldsStores (thread_code program a.thread)
            (own_waits a.is_drain (drained_location x86_language i) a.position (pending a.thread))) e own_buffer_holds))

-- Initially no store waits, and all buffers are empty.
pub AllBuffersHoldStores-start : (test : X86Test) (words : List ℕ)
    → AllBuffersHoldStores test.threads (λ t. []) (initial_machine_state test words)
AllBuffersHoldStores-start test words t p e =
    let from = slice_get-map_inv initial_processor test.head.init_regs t p e in
    subst (HoldsStores (thread_code test.threads t) []) (sym from.2) (record { waits = tt; climbs = omega arith })
