-- Fences only remove outcomes: a run of a test with MFENCEs inserted is, without the steps at these, one of the test. A law for readers;
-- `api/FewerFences` lifts it to caches.
use Rattle.lw_tso.proofs.Common.{◌≡◌, ℕ, ◌+◌, ◌≤◌, Bool, true, false, if◌then◌else◌, List, [], ◌∷◌, ◌++◌}
use Rattle.lw_tso.proofs.Common.{length, map, Option, Some, None, ◌⊎◌, inl, inr, ⊎_elim, refl, sym, ap, ◌∙◌}
use Rattle.lw_tso.proofs.Common.{subst, arith, IsTrue, ◌==◌, le-leb, cases_lt, get_or_past, same_Some}
use Rattle.lw_tso.proofs.Common.{slice_get, slice_set, slice_index, length-set, slice_get_within}
use Rattle.lw_tso.proofs.Common.{get_or_from_slice_get, wrapping_sum, operand_value, thread_code}
use Rattle.lw_tso.proofs.Common.{set-get_same, FinalState, Event, Step, Drain, Evict, flat_memory, Instr}
use Rattle.lw_tso.proofs.Common.{X86Test, x86_operation, guard_holds, Operation, Set, Sum, Compare, Store}
use Rattle.lw_tso.proofs.Common.{Load, Fence, Branch, RunsTo-append, Processor, initial_processor}
use Rattle.lw_tso.proofs.Common.{advance_processor, set_register, newest_buffered, EventEffect, LocalStep}
use Rattle.lw_tso.proofs.Common.{cpu_of, event_effect, operation_effect, step_effect, drain_effect}
use Rattle.lw_tso.proofs.Common.{load_effect, if_buffer_empty, MachineState, MachineTransition, MachineRunsTo}
use Rattle.lw_tso.proofs.Common.{IsMachineOutcome, initial_machine_state, has_terminated, is_final}
use Rattle.lw_tso.proofs.Common.{set_zero_flag, enqueue_store, retarget_to_blocks, IsInserted, EndsBlock}
use Rattle.lw_tso.proofs.Common.{HasInsertedFencesInCode, HasInsertedFences, slice_get-in_range}
use Rattle.lw_tso.proofs.Common.{OfFellows-set_both, slice_get-map_inv, maps_equal-at_each_index}
use Rattle.lw_tso.proofs.Common.{list_all_zip-of_each, list_all_zip-at_index, Je, Jne, Jmp, Stop, FenceWaits}
use Rattle.lw_tso.proofs.Common.{leb-true, nat_le, and_from, and_parts}
use Rattle.lw_tso.proofs.api.Effects.{EventOccurrence, EffectLeadsTo, MachineTransition-of_effect}
use Rattle.lw_tso.proofs.api.Effects.{EventOccurrence-of_event, not-EffectLeadsTo-evict_event, state}

-- ---- one processor

-- If an effect that waits for an empty buffer and then only makes p the processor leads to q and n, then q is p, and the words
-- are unchanged.
EffectLeadsTo-fence : (buffer : List (ℕ × ℕ)) (p q : Processor) (m n : List ℕ)
    → EffectLeadsTo m (if_buffer_empty buffer FenceWaits (LocalStep p)) q n
    → (q ≡ p) × (n ≡ m)
EffectLeadsTo-fence [] p q m n does = does
EffectLeadsTo-fence (entry ∷ newer) p q m n does = absurd does

module _ (block : ℕ → ℕ) where
  -- The processor of the test without the fences, at the same position of its code.
  abbrev pub without : Processor → Processor
  without p = record p { position = block p.position }

  -- The processor at another position.
  abbrev at : Processor → ℕ → Processor
  at p position = record p { position = position }

  -- The operation there, with its target in the code without fences.
  abbrev operation_without : Operation → Operation
  operation_without (Branch c to) = Branch c (block to)
  operation_without o = o

  -- To retarget an instruction to blocks is to retarget its operation.
  instruction_without : (i : Instr) → x86_operation (retarget_to_blocks block i) ≡ operation_without (x86_operation i)
  instruction_without (Je to) = refl
  instruction_without (Jne to) = refl
  instruction_without (Jmp to) = refl
  instruction_without i = refl

  -- If the processors after a load correspond for each word read, then a load that leads to q leads in the code without fences
  -- to the processor that corresponds to q.
  EffectLeadsTo-load_without : (found : Option ℕ) (x : ℕ) (before after : ℕ → Processor) (q : Processor) (m n : List ℕ)
      → ((w : ℕ) → without (before w) ≡ after w)
      → EffectLeadsTo m (load_effect found x before) q n
      → EffectLeadsTo m (load_effect found x after) (without q) n
  EffectLeadsTo-load_without (Some w) x before after q m n same does = (ap without does.0 ∙ same w, does.1)
  EffectLeadsTo-load_without None x before after q m n same does = (ap without does.0 ∙ same (slice_index m x), does.1)

  module _ (p q : Processor) (m n : List ℕ) (next : block (p.position + 1) ≡ block p.position + 1) where
    -- Advancing a processor that ends its block corresponds to advancing its corresponding one.
    without-next : (r : Processor) → without (at r (p.position + 1)) ≡ at r (block p.position + 1)
    without-next r = ap (at r) next

    -- The block of the index after a branch is that of its target if it jumps, and otherwise the next one.
    block-jump : (jumps : Bool) (to : ℕ)
        → block (if jumps then to else (p.position + 1)) ≡ (if jumps then block to else (block p.position + 1))
    block-jump true to = refl
    block-jump false to = next

    -- If the effect a, over an empty buffer, corresponds to b, then a that waits for an empty buffer corresponds to b that
    -- waits.
    EffectLeadsTo-if_buffer_empty_without : (buffer : List (ℕ × ℕ)) (stop : Stop) (a b : EventEffect)
        → (EffectLeadsTo m a q n → EffectLeadsTo m b (without q) n)
        → EffectLeadsTo m (if_buffer_empty buffer stop a) q n
        → EffectLeadsTo m (if_buffer_empty buffer stop b) (without q) n
    EffectLeadsTo-if_buffer_empty_without [] stop a b same does = same does
    EffectLeadsTo-if_buffer_empty_without (entry ∷ newer) stop a b same does = does

    -- If the operation that ends its block leads from p to q, the operation with its target's block leads from the processor
    -- that corresponds to p to the one that corresponds to q.
    EffectLeadsTo-operation_without : (o : Operation)
        → EffectLeadsTo m (operation_effect o p) q n
        → EffectLeadsTo m (operation_effect (operation_without o) (without p)) (without q) n
    EffectLeadsTo-operation_without (Set d v) does =
        (ap without does.0 ∙ without-next (set_register p d (operand_value v p.regs)), does.1)
    EffectLeadsTo-operation_without (Sum d a v) does =
        let sum = wrapping_sum (slice_index p.regs a) (operand_value v p.regs) in
        (ap without does.0 ∙ without-next (set_zero_flag (set_register p d sum) (sum == 0)), does.1)
    EffectLeadsTo-operation_without (Compare a v) does =
        (ap without does.0 ∙ without-next (set_zero_flag p (slice_index p.regs a == operand_value v p.regs)), does.1)
    EffectLeadsTo-operation_without (Store x v) does =
        (ap without does.0 ∙ without-next (enqueue_store p x (operand_value v p.regs)), does.1)
    EffectLeadsTo-operation_without (Load d x) does =
        EffectLeadsTo-load_without (newest_buffered p.buffer x) x _ _ q m n (λ w. without-next (set_register p d w)) does
    EffectLeadsTo-operation_without Fence does =
        EffectLeadsTo-if_buffer_empty_without p.buffer _ _ _ (λ goes. (ap without goes.0 ∙ without-next p, goes.1)) does
    EffectLeadsTo-operation_without (Branch c to) does =
        (ap without does.0 ∙ ap (at p) (block-jump (guard_holds c p.regs p.zero_flag) to), does.1)
    EffectLeadsTo-operation_without o does =
        EffectLeadsTo-if_buffer_empty_without p.buffer _ _ _ (λ asks. (ap without asks.0 ∙ rw next refl, asks.1)) does

  -- If a drain leads from p to q, it leads from the processor that corresponds to p to the one that corresponds to q.
  EffectLeadsTo-drain_without : (buffer : List (ℕ × ℕ)) (p q : Processor) (m n : List ℕ)
      → EffectLeadsTo m (drain_effect buffer p) q n
      → EffectLeadsTo m (drain_effect buffer (without p)) (without q) n
  EffectLeadsTo-drain_without [] p q m n does = does
  EffectLeadsTo-drain_without (entry ∷ newer) p q m n does = (ap without does.0, does.1)

module _ (code fenced : List Instr) (f : HasInsertedFencesInCode code fenced) where
  -- A step of the fenced code from p and m to q and n changes neither the corresponding processor nor the words; or it is the
  -- step of the code without fences between the corresponding processors.
  abbrev pub IsStep : Processor → Processor → List ℕ → List ℕ → Type 0
  IsStep p q m n =
      ((without f.block q ≡ without f.block p) × (n ≡ m))
      ⊎ EffectLeadsTo m (step_effect (slice_get code (f.block p.position)) (without f.block p)) (without f.block q) n

  -- If the instruction i of p was inserted or ends its block, its step changes nothing in the code without fences, or is a step
  -- of it.
  IsStep-of_instruction : (p q : Processor) (m n : List ℕ) (i : Instr)
      → IsInserted f.block p.position i ⊎ EndsBlock f.block code p.position i
      → EffectLeadsTo m (step_effect (Some i) p) q n
      → IsStep p q m n
  IsStep-of_instruction p q m n i (inl inserted) does =
      let fence = subst (λ (j : Instr). EffectLeadsTo m (step_effect (Some j) p) q n) inserted.0 does in
      let passed = EffectLeadsTo-fence p.buffer (advance_processor p) q m n fence in
      inl (ap (without f.block) passed.0 ∙ ap (at f.block p) inserted.1, passed.1)
  IsStep-of_instruction p q m n i (inr ends) does =
      let from = without f.block p in
      let to = without f.block q in
      let same = EffectLeadsTo-operation_without f.block p q m n ends.1 (x86_operation i) does in
      let here =
      subst (λ (o : Operation). EffectLeadsTo m (operation_effect o from) to n) (sym (instruction_without f.block i)) same in
      inr (subst (λ (o : Option Instr). EffectLeadsTo m (step_effect o from) to n) (sym ends.0) here)

  -- A step of p in the fenced code changes nothing in the code without fences, or is a step of it.
  pub IsStep-of_effect : (p q : Processor) (m n : List ℕ)
      → EffectLeadsTo m (step_effect (slice_get fenced p.position) p) q n
      → IsStep p q m n
  IsStep-of_effect p q m n = go (slice_get fenced p.position) refl
    where
      -- By the instruction at the position of p: there is one, since the step is enabled.
      go : (o : Option Instr) → slice_get fenced p.position ≡ o → EffectLeadsTo m (step_effect o p) q n → IsStep p q m n
      go None there does = absurd does
      go (Some i) there does = IsStep-of_instruction p q m n i (f.each p.position i there) does

  -- If a processor has terminated in the fenced code, the corresponding one has terminated in the code without the fences.
  pub has_terminated-without : (p : Processor) → has_terminated fenced p ≡ true → has_terminated code (without f.block p) ≡ true
  has_terminated-without p done =
      let both = and_parts (nat_le (length fenced) p.position) (length p.buffer == 0) done in
      let last = f.last p.position (leb-true (length fenced) p.position both.0) in
      let past = le-leb (length code) (f.block p.position) (omega (arith, last)) in
      and_from (nat_le (length code) (f.block p.position)) (length p.buffer == 0) past both.1

-- ---- whole states

-- The empty code is the empty code with no MFENCEs inserted.
HasInsertedFencesInCode-empty : HasInsertedFencesInCode [] []
HasInsertedFencesInCode-empty =
    record { block = λ index. 0; first = refl; each = λ index i there. absurd cc; last = λ index past. refl }

module _ (test fenced : X86Test) (f : HasInsertedFences test fenced) where
  -- Each thread of the fenced test is the thread of the test with MFENCEs inserted.
  HasInsertedFencesInCode-thread : (t : ℕ) → HasInsertedFencesInCode (thread_code test.threads t) (thread_code fenced.threads t)
  HasInsertedFencesInCode-thread t = ⊎_elim (f.threads t) HasInsertedFencesInCode-past_threads (cases_lt t (length test.threads))
    where
      -- Past the last thread both codes are empty, so the fenced one is the other with no MFENCEs inserted.
      HasInsertedFencesInCode-past_threads : length test.threads ≤ t
          → HasInsertedFencesInCode (thread_code test.threads t) (thread_code fenced.threads t)
      HasInsertedFencesInCode-past_threads beyond =
          let one = get_or_past test.threads t [] beyond in
          let other = get_or_past fenced.threads t [] (omega (arith, beyond, f.as_many)) in
          subst (λ (code : List Instr). HasInsertedFencesInCode code (thread_code fenced.threads t)) (sym one)
          (subst (λ (code : List Instr). HasInsertedFencesInCode [] code) (sym other) HasInsertedFencesInCode-empty)

  -- A processor of thread t in the test without the fences.
  abbrev thread_processor_without : ℕ → Processor → Processor
  thread_processor_without t = without (HasInsertedFencesInCode-thread t).block

  -- The state s of the test corresponds to the state r of the test with fences: each processor of s is that of r at the same position of
  -- the code without fences, and memory is the same.
  record AreAlike (s r : MachineState (List ℕ)) : Type 0 where
    as_many : length s.processors ≡ length r.processors
    each : (t : ℕ) (p q : Processor)
        → slice_get s.processors t ≡ Some p
        → slice_get r.processors t ≡ Some q
        → p ≡ thread_processor_without t q
    words : s.memory ≡ r.memory

  -- If the states s and r correspond, and r has the processor p at t, then s has the corresponding processor at t.
  AreAlike-processor : (s r : MachineState (List ℕ)) (t : ℕ) (p : Processor)
      → AreAlike s r
      → slice_get r.processors t ≡ Some p
      → slice_get s.processors t ≡ Some (thread_processor_without t p)
  AreAlike-processor s r t p alike was =
      let q = slice_get-in_range s.processors t (omega (arith, slice_get_within r.processors t p was, alike.as_many)) in
      q.1 ∙ ap Some (alike.each t q.0 p q.1 was)

  -- If the states s and r correspond, and r has a processor at t, they correspond after q is set at t in r, the processor that
  -- corresponds to q is set in s, and both have these words.
  AreAlike-set : (s r : MachineState (List ℕ)) (t : ℕ) (p q : Processor) (words : List ℕ)
      → AreAlike s r
      → slice_get r.processors t ≡ Some p
      → AreAlike (state (slice_set s.processors t (thread_processor_without t q)) words)
      (state (slice_set r.processors t q) words)
  AreAlike-set s r t p q words alike was = record {
    as_many = length-set s.processors t (thread_processor_without t q) ∙ alike.as_many ∙ sym (length-set r.processors t q);
    each =
        OfFellows-set_both (λ u a b. a ≡ thread_processor_without u b) s.processors r.processors t (thread_processor_without t q)
        q (record { left = AreAlike-processor s r t p alike was; right = was }) (λ u a b e f other. alike.each u a b e f) refl;
    words = refl;
  }

  -- Events lead from this state to one that corresponds to `after`.
  record Follows (s after : MachineState (List ℕ)) : Type 0 where
    events : List Event
    end : MachineState (List ℕ)
    ran : MachineRunsTo flat_memory test.threads events s end
    alike : AreAlike end after

  module _ (s r after : MachineState (List ℕ)) (alike : AreAlike s r) where
    -- If the effect of an event leads from a processor and the words to others, and so between the corresponding ones, then the
    -- same event leads from s to a state that corresponds to `after`.
    Follows-same_event : (e : Event) (d : EventOccurrence fenced.threads e r after)
        → EffectLeadsTo r.memory (event_effect test.threads (length s.memory) e (thread_processor_without (cpu_of e) d.from))
        (thread_processor_without (cpu_of e) d.to) d.words
        → Follows s after
    Follows-same_event e d does =
        let t = cpu_of e in
        let act = event_effect test.threads (length s.memory) e (thread_processor_without t d.from) in
        let here = subst (λ (m : List ℕ). EffectLeadsTo m act (thread_processor_without t d.to) d.words) (sym alike.words) does in
        let was = AreAlike-processor s r t d.from alike d.was in
        let end = state (slice_set s.processors t (thread_processor_without t d.to)) d.words in
        record {
          events = e ∷ [];
          end = end;
          ran = (
            end,
            MachineTransition-of_effect test.threads e s.processors (thread_processor_without t d.from)
                (thread_processor_without t d.to) s.memory d.words was here,
            refl,
          );
          alike = subst (AreAlike end) (sym d.state_is) (AreAlike-set s r t d.from d.to d.words alike d.was);
        }

    -- If an event of the fenced test changes neither the corresponding processor nor the words, s corresponds to `after`
    -- without an event.
    Follows-no_event : (e : Event) (d : EventOccurrence fenced.threads e r after)
        → thread_processor_without (cpu_of e) d.to ≡ thread_processor_without (cpu_of e) d.from
        → d.words ≡ r.memory
        → Follows s after
    Follows-no_event e d same words =
        let t = cpu_of e in
        let was = AreAlike-processor s r t d.from alike d.was in
        let processors =
        ap (slice_set s.processors t) same ∙ set-get_same s.processors t (thread_processor_without t d.from) was in
        let end = state (slice_set s.processors t (thread_processor_without t d.to)) d.words in
        record {
          events = [];
          end = end;
          ran = rw (processors, words, ← alike.words) refl;
          alike = subst (AreAlike end) (sym d.state_is) (AreAlike-set s r t d.from d.to d.words alike d.was);
        }

    -- The test follows each event of the fenced test: by the same event, or without one at an inserted fence.
    Follows-event : (e : Event) → EventOccurrence fenced.threads e r after → Follows s after
    Follows-event (Step t) d =
        ⊎_elim (λ none. Follows-no_event (Step t) d none.0 none.1) (Follows-same_event (Step t) d)
        (IsStep-of_effect (thread_code test.threads t) (thread_code fenced.threads t) (HasInsertedFencesInCode-thread t) d.from
        d.to r.memory d.words d.does)
    Follows-event (Drain t) d =
        Follows-same_event (Drain t) d
        (EffectLeadsTo-drain_without (HasInsertedFencesInCode-thread t).block d.from.buffer d.from d.to r.memory d.words d.does)
    Follows-event (Evict t x) d =
        absurd (not-EffectLeadsTo-evict_event fenced.threads (length r.memory) t x d.from d.to r.memory d.words d.does)

  -- If s corresponds to r, and events lead the fenced test from r to `end`, some events lead the test from s to a state that
  -- corresponds to `end`.
  Follows-run : (events : List Event) (s r end : MachineState (List ℕ))
      → AreAlike s r
      → MachineRunsTo flat_memory fenced.threads events r end
      → Follows s end
  Follows-run [] s r end alike ran = record { events = []; end = s; ran = refl; alike = subst (AreAlike s) (sym ran) alike }
  Follows-run (e ∷ events) s r end alike ran =
      let a = Follows-event s r ran.0 alike e (EventOccurrence-of_event fenced.threads e r ran.0 ran.1) in
      let b = Follows-run events a.end ran.0 end a.alike ran.2 in
      record {
        events = a.events ++ b.events;
        end = b.end;
        ran = RunsTo-append (MachineTransition flat_memory test.threads) a.events b.events s a.end b.end a.ran b.ran;
        alike = b.alike;
      }

  -- ---- initial and final states

  -- Both tests start with the same registers.
  regs_same : fenced.head.init_regs ≡ test.head.init_regs
  regs_same = ap (λ h. h.init_regs) f.head

  -- The initial states of the two tests correspond.
  AreAlike-start :
      AreAlike (initial_machine_state test test.head.init_words) (initial_machine_state fenced fenced.head.init_words)
  AreAlike-start = record {
    as_many = ap (λ (rows : List (List ℕ)). length (map initial_processor rows)) (sym regs_same);
    each = initial_processors_alike;
    words = ap (λ h. h.init_words) (sym f.head);
  }
    where
      -- Each processor of the test's state has terminated.
      initial_processors_alike : (t : ℕ) (p q : Processor)
          → slice_get (map initial_processor test.head.init_regs) t ≡ Some p
          → slice_get (map initial_processor fenced.head.init_regs) t ≡ Some q
          → p ≡ thread_processor_without t q
      initial_processors_alike t p q one other =
          let first = slice_get-map_inv initial_processor test.head.init_regs t p one in
          let one_start = ap (λ (rows : List (List ℕ)). slice_get (map initial_processor rows) t) regs_same in
          let same : q ≡ p = same_Some q p (sym other ∙ one_start ∙ one) in
          let block = HasInsertedFencesInCode-thread t in
          first.2
          ∙ ap (at block.block (initial_processor first.0)) (sym block.first)
          ∙ sym (ap (thread_processor_without t) (same ∙ first.2))

  -- If a state of the fenced test is final, so is the corresponding state of the test.
  is_final-alike : (s r : MachineState (List ℕ))
      → AreAlike s r
      → IsTrue (is_final fenced.threads r)
      → IsTrue (is_final test.threads s)
  is_final-alike s r alike over = list_all_zip-of_each _ test.threads s.processors initial_processors_alike
    where
      initial_processors_alike : (t : ℕ) (code : List Instr) (p : Processor)
          → slice_get test.threads t ≡ Some code
          → slice_get s.processors t ≡ Some p
          → has_terminated code p ≡ true
      initial_processors_alike t code p one was =
          let other = slice_get-in_range fenced.threads t (omega (arith, slice_get_within test.threads t code one, f.as_many)) in
          let q = slice_get-in_range r.processors t (omega (arith, slice_get_within s.processors t p was, alike.as_many)) in
          let done =
          list_all_zip-at_index (λ x. has_terminated x.0 x.1) fenced.threads r.processors t other.0 q.0 over other.1 q.1 in
          let its_code = get_or_from_slice_get fenced.threads t other.0 [] other.1 in
          let here = subst (λ (c : List Instr). has_terminated c q.0 ≡ true) (sym its_code) done in
          let own_code = thread_code test.threads t in
          let without =
          has_terminated-without own_code (thread_code fenced.threads t) (HasInsertedFencesInCode-thread t) q.0 here in
          subst (λ (c : List Instr). has_terminated c p ≡ true) (get_or_from_slice_get test.threads t code [] one)
          (subst (λ (x : Processor). has_terminated own_code x ≡ true) (sym (alike.each t p q.0 was q.1)) without)

  -- Each outcome of the test with MFENCEs inserted is an outcome of the test, over flat memory.
  pub IsMachineOutcome-without_fences : (o : FinalState)
      → IsMachineOutcome flat_memory fenced fenced.head.init_words o
      → IsMachineOutcome flat_memory test test.head.init_words o
  IsMachineOutcome-without_fences o (events, r) =
      let a = Follows-run events _ _ r.end AreAlike-start r.ran in
      let regs_of = λ (p : Processor). p.regs in
      let regs =
      maps_equal-at_each_index regs_of regs_of a.end.processors r.end.processors a.alike.as_many
      (λ t p q one other. ap regs_of (a.alike.each t p q one other)) in (
        a.events,
        record {
          end = a.end;
          ran = a.ran;
          final = is_final-alike a.end r.end a.alike r.final;
          outcome_is = r.outcome_is ∙ rw (regs, a.alike.words) refl;
        },
      )
