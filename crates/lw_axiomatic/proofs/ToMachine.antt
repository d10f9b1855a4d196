-- The machine runs along an order of an execution's items, in which each read's source is the newest write by
-- the indices of that order. Half of the theorem: from a candidate with times to a run on the machine.
use Rattle.lw_axiomatic.proofs.Common.{◌≡◌, ℕ, suc, ◌<◌, ◌≤◌, inl, inr, Bool, true, false, Option, Some, None}
use Rattle.lw_axiomatic.proofs.Common.{refl, sym, ap, ap₂, ◌∙◌, subst, arith, List, [], ◌∷◌, ◌++◌, length}
use Rattle.lw_axiomatic.proofs.Common.{slice_get, slice_set, Contains, true≢false, ◌==◌, map, IsTrue, nat_le}
use Rattle.lw_axiomatic.proofs.Common.{append_assoc, append-nil, length-append, length-set, option_map}
use Rattle.lw_axiomatic.proofs.Common.{option_and_then, slice_index, slice_index_or, option_map_or}
use Rattle.lw_axiomatic.proofs.Common.{cases_Bool, cases_eq, cases_order, and_from, le-leb, length-map}
use Rattle.lw_axiomatic.proofs.Common.{ext_get_or, same_Some, slice_get_within, get_or_from_slice_get}
use Rattle.lw_axiomatic.proofs.Common.{FinalState, thread_code, Step, Drain, slice_get-in_range}
use Rattle.lw_axiomatic.proofs.Common.{slice_get-map_inv, list_all_zip-of_each, Operation, needs_empty_buffer}
use Rattle.lw_axiomatic.proofs.Common.{writes, location_of, x86_language, x86_operation, X86Test, flat_memory}
use Rattle.lw_axiomatic.proofs.Common.{index_in, IsOrder, index_in-order_split, Item}
use Rattle.lw_axiomatic.proofs.Common.{statement_needs_empty_buffer, IsMember, item, item_slot-increasing}
use Rattle.lw_axiomatic.proofs.Common.{IsItemOnPath, IsItemOnPath-of_member, IsAscendingFrom}
use Rattle.lw_axiomatic.proofs.Common.{IsAscendingFrom-lower_bound, IsAscendingFrom-flow_path, TransitionAt}
use Rattle.lw_axiomatic.proofs.Common.{MachineState, Processor, initial_processor, step_effect, drain_effect}
use Rattle.lw_axiomatic.proofs.Common.{initial_machine_state, machine_outcome, is_final, has_terminated}
use Rattle.lw_axiomatic.proofs.Common.{EffectLeadsTo, MachineTransition-of_effect, ItemsRunTo}
use Rattle.lw_axiomatic.proofs.Common.{X86ItemTransition, event_by, x86_item_system, X86FollowsPathsToEnd}
use Rattle.lw_axiomatic.proofs.Common.{IsAscendingBetween-member, ItemStep, BufferHolds, HoldsStores}
use Rattle.lw_axiomatic.proofs.Common.{AllBuffersHoldStores-start, IsDrainedLater, DrainsOldest-at_turn}
use Rattle.lw_axiomatic.proofs.Common.{AreWaitingStores-start, ThreadState, first_state, state_after}
use Rattle.lw_axiomatic.proofs.Common.{word_written, MemoryEvent, Execution, reads, operation_is, IsEvent}
use Rattle.lw_axiomatic.proofs.Common.{Reads, Co, ThreadExecutes, IsReadFrom, IsLast, IsCandidate, IsNewest}
use Rattle.lw_axiomatic.proofs.Common.{IsEnabledEffect-operation}
use Rattle.lw_axiomatic.proofs.EventLists.{event}
use Rattle.lw_axiomatic.proofs.StepCases.{StepCase, thread_of, word_for, word_for-reads}
use Rattle.lw_axiomatic.proofs.Paths.{IsFlowPathFrom-ThreadExecutes, state_after-unread, writes_unread}
use Rattle.lw_axiomatic.proofs.Indices.{number_in_order, order_length, KeptOrder, items, item_numbered, turn}
use Rattle.lw_axiomatic.proofs.Indices.{turn-of_number, done, reached, forward, Placed}
use Rattle.lw_axiomatic.proofs.Indices.{operation_is-of_instruction, Placed-step, Placed-point}
use Rattle.lw_axiomatic.proofs.Indices.{turn-injective, turn_in_range, turn_increases-AreOrdered}
use Rattle.lw_axiomatic.proofs.Indices.{Contains-IsMember}
use Rattle.lw_axiomatic.proofs.Prefixes.{Written, LastBefore, PrefixInvariant, Turn, Agrees}
use Rattle.lw_axiomatic.proofs.Prefixes.{PrefixInvariant-next, store_writes, step_case, Drained-ItemStep}
use Rattle.lw_axiomatic.proofs.Seen.{sees_newest, source_word}
use Rattle.lw_axiomatic.proofs.Prefixes as prefixes

module _ {test : X86Test} {x : Execution} {o : FinalState} (candidate : IsCandidate x86_language test x o)
    (given : KeptOrder test x.paths)
    (newest : (r : MemoryEvent) (l : ℕ)
    → Reads x86_language test x r l
    → IsNewest test x (done given) (reached given) r l (x.rf r))
    (co_up : (w v : MemoryEvent) → Co x86_language test x w v → reached given w < reached given v) where
  -- The items of the execution's paths.
  abbrev all_items : List Item
  all_items = items given

  -- The item with this number.
  abbrev nth_item : ℕ → Item
  nth_item i = item_numbered given i

  -- When an event is done: an index in the order.
  abbrev done_index : MemoryEvent → ℕ
  done_index = done given

  -- The invariant along the order, of this execution.
  abbrev IsInv : ℕ → (ℕ → List ℕ) → MachineState (List ℕ) → Type 0
  IsInv = PrefixInvariant x given

  -- The rest of a thread's run after k items.
  record AheadOf (t k : ℕ) (p : Processor) : Type 0 where
    end : ThreadState
    ends : slice_index_or o.regs t [] ≡ end.regs
    rest : List ℕ
    executes : ThreadExecutes x86_language x t (thread_code test.threads t) rest (thread_of p) end
    later : (j : ℕ) → IsMember j rest → k ≤ done_index (event t j)
    on_path : (j : ℕ) → IsMember j rest → Contains (thread_code x.paths t) j
    rest_complete : (j : ℕ) → Contains (thread_code x.paths t) j → k ≤ done_index (event t j) → IsMember j rest

  -- A run has executed the first k items and reached the state s: each thread has the rest of its path ahead.
  record IsAt (k : ℕ) (s : MachineState (List ℕ)) : Type 0 where
    pending : ℕ → List ℕ
    inv : IsInv k pending s
    ahead : (t : ℕ) (p : Processor) → slice_get s.processors t ≡ Some p → AheadOf t k p
    processor_count : length s.processors ≡ length test.threads

  module _ {k : ℕ} {s : MachineState (List ℕ)} (at_state : IsAt k s) (now_at : Turn x given k) where
    -- The thread of the item whose turn it is.
    abbrev item_thread : ℕ
    item_thread = (nth_item now_at.index).thread

    -- The item's position.
    abbrev item_position : ℕ
    item_position = (nth_item now_at.index).position

    -- The item is on its thread's path.
    abbrev item_on_path : IsItemOnPath x86_language test.threads x.paths (nth_item now_at.index)
    item_on_path = IsItemOnPath-of_member x86_language test.threads x.paths now_at.index now_at.below

    -- The event of the item whose turn it is.
    abbrev item_event : MemoryEvent
    item_event = event item_thread item_position

    -- The item's event is one of the execution.
    on_path : IsEvent x item_event
    on_path = Contains-IsMember (thread_code x.paths item_thread) item_position item_on_path.on_path

    -- The item has its place in the order.
    Placed-of_item : Placed given (nth_item now_at.index)
    Placed-of_item = record {
      index = now_at.index;
      below = now_at.below;
      item_is = refl;
      index_is = turn-of_number given now_at.index now_at.below;
    }

    -- The item has its turn at k.
    item_turn : turn given (nth_item now_at.index) ≡ k
    item_turn = turn-of_number given now_at.index now_at.below ∙ now_at.index_is

    -- The kind of the item's event is that of its instruction.
    event_kind : (q : Operation → Bool) → operation_is x86_language test q item_event ≡ q (x86_operation item_on_path.statement)
    event_kind q = operation_is-of_instruction given q item_event item_on_path.statement item_on_path.at

    -- An event that is done at k is the item's event, and the item is a step.
    done_now-unique : (f : MemoryEvent)
        → IsEvent x f
        → done_index f ≡ k
        → (f ≡ item_event) × ((nth_item now_at.index).is_drain ≡ false)
    done_now-unique f is_event now =
        let same : item f.thread f.position false ≡ nth_item now_at.index =
        turn-injective given (item f.thread f.position false) (nth_item now_at.index) (Placed-step given f is_event)
        Placed-of_item (now ∙ sym item_turn) in
        (ap (λ (a : Item). event a.thread a.position) same, sym (ap (λ (a : Item). a.is_drain) same))

    -- The state has the item's processor.
    processor_at_t : (p : Processor) × (slice_get s.processors item_thread ≡ Some p)
    processor_at_t =
        slice_get-in_range s.processors item_thread (omega (arith, at_state.processor_count, item_on_path.thread_in_range))

    module _ (p : Processor) (was : slice_get s.processors item_thread ≡ Some p) where
      -- The processor's buffer holds the stores that wait.
      HoldsStores-of_processor : HoldsStores (thread_code test.threads item_thread) (at_state.pending item_thread) p
      HoldsStores-of_processor = at_state.inv.hold item_thread p was

      -- The processor's thread has the rest of its path ahead.
      AheadOf-of_processor : AheadOf item_thread k p
      AheadOf-of_processor = at_state.ahead item_thread p was

      -- A buffer that holds a store can be drained.
      drain_does : (b : List (ℕ × ℕ)) (ws : List ℕ) (q : Processor) (m : List ℕ)
          → BufferHolds (thread_code test.threads item_thread) (item_position ∷ ws) b
          → (n : Processor) × (after : List ℕ) × EffectLeadsTo m (drain_effect b q) n after
      drain_does [] ws q m holds = absurd holds
      drain_does (f ∷ b) ws q m holds = (record q { buffer = b }, slice_set m f.0 f.1, (refl, refl))

      -- If the item is a drain, the machine executes it.
      transition-of_drain : (nth_item now_at.index).is_drain ≡ true
          → (mid : MachineState (List ℕ)) × TransitionAt flat_memory test.threads (event_by true item_thread) item_position s mid
      transition-of_drain f =
          let h =
          DrainsOldest-at_turn test.threads (forward given) x.paths given.assignment given.order given.keeps k p.position
          now_at.index at_state.pending at_state.inv.waiting HoldsStores-of_processor.climbs now_at.below now_at.index_is f in
          let d =
          drain_does p.buffer h.0 p s.memory
          (subst (λ (ws : List ℕ). BufferHolds (thread_code test.threads item_thread) ws p.buffer) h.1
          HoldsStores-of_processor.waits) in (
            _,
            record {
              is_at_position = tt;
              done = MachineTransition-of_effect test.threads (Drain item_thread) s.processors p d.0 s.memory d.1 was d.2;
            },
          )

      -- The step's thread is at its position.
      position_of_item : (rest : List ℕ)
          → ((h : ℕ) → IsMember h rest → k ≤ done_index (event item_thread h))
          → ((h : ℕ) → IsMember h rest → Contains (thread_code x.paths item_thread) h)
          → (end : ThreadState)
          → ThreadExecutes x86_language x item_thread (thread_code test.threads item_thread) rest (thread_of p) end
          → IsMember item_position rest
          → (nth_item now_at.index).is_drain ≡ false
          → p.position ≡ item_position
      position_of_item [] later on end executes is_member f = absurd is_member
      position_of_item (g ∷ rest) later on end executes (inl e) f = executes.position_is ∙ e
      position_of_item (g ∷ rest) later on end executes (inr h) f =
          let up : IsAscendingFrom p.position (g ∷ rest) =
          IsAscendingFrom-flow_path x86_language (thread_code test.threads item_thread) p.position (g ∷ rest)
          (forward given item_thread)
          (IsFlowPathFrom-ThreadExecutes x86_language x item_thread (thread_code test.threads item_thread) (g ∷ rest)
          (thread_of p) end executes) in
          let less : suc g ≤ item_position = IsAscendingFrom-lower_bound (suc g) item_position rest up.1 h in
          let sooner : done_index (event item_thread g) < turn given (nth_item now_at.index) =
          turn_increases-AreOrdered given (item item_thread g false) (nth_item now_at.index)
          (Placed-step given (event item_thread g) (on g (inl refl))) Placed-of_item refl
          (item_slot-increasing false (nth_item now_at.index).is_drain g item_position (omega (arith, less)))
          (λ d. absurd (true≢false (sym d))) in
          absurd (omega (arith, sooner, item_turn, later g (inl refl)))

      -- If the item is a step, its event is done now.
      event_done_now : (nth_item now_at.index).is_drain ≡ false → done_index item_event ≡ k
      event_done_now f = ap (λ b. turn given (item item_thread item_position b)) (sym f) ∙ item_turn

      -- If the item is a step, its processor is at its position.
      processor_at_item : (nth_item now_at.index).is_drain ≡ false → p.position ≡ item_position
      processor_at_item f =
          position_of_item AheadOf-of_processor.rest AheadOf-of_processor.later AheadOf-of_processor.on_path
          AheadOf-of_processor.end AheadOf-of_processor.executes
          (AheadOf-of_processor.rest_complete item_position on_path (omega (arith, event_done_now f))) f

      -- If a buffer holds the stores of a list, and the list is empty, so is the buffer.
      no_entry-if_none_waits : (ws : List ℕ) (b : List (ℕ × ℕ))
          → BufferHolds (thread_code test.threads item_thread) ws b
          → ((v : ℕ) → IsMember v ws → ⊥)
          → b ≡ []
      no_entry-if_none_waits [] [] holds none = refl
      no_entry-if_none_waits [] (f ∷ b) holds none = absurd holds
      no_entry-if_none_waits (w ∷ ws) b holds none = absurd (none w (inl refl))

      -- If the step waits for an empty buffer, the buffer is empty: the drains of earlier stores come first.
      buffer_empty-if_waiting : (nth_item now_at.index).is_drain ≡ false
          → needs_empty_buffer (x86_operation item_on_path.statement) ≡ true
          → p.buffer ≡ []
      buffer_empty-if_waiting f w =
          no_entry-if_none_waits (at_state.pending item_thread) p.buffer HoldsStores-of_processor.waits (λ v waiting.
          (let c : IsDrainedLater _ _ _ _ _ k item_thread v = at_state.inv.waiting.coming item_thread v waiting in
          let low : v < p.position =
          (IsAscendingBetween-member 0 p.position v (at_state.pending item_thread) HoldsStores-of_processor.climbs waiting).1 in
          let sooner : turn given (nth_item c.index) < turn given (nth_item now_at.index) =
          turn_increases-AreOrdered given (nth_item c.index) (nth_item now_at.index)
          (record { index = c.index; below = c.below; item_is = refl; index_is = turn-of_number given c.index c.below })
          Placed-of_item c.thread
          (item_slot-increasing (nth_item c.index).is_drain (nth_item now_at.index).is_drain (nth_item c.index).position
          item_position (omega (arith, low, c.position, processor_at_item f)))
          (λ d. inr (ap (λ q. option_map_or (statement_needs_empty_buffer x86_language) q false) item_on_path.at ∙ w)) in
          omega (arith, sooner, item_turn, turn-of_number given c.index c.below, c.later)))

      -- If the item is a step, the machine executes it.
      transition-of_step : (nth_item now_at.index).is_drain ≡ false
          → (mid : MachineState (List ℕ)) × TransitionAt flat_memory test.threads (event_by false item_thread) item_position s mid
      transition-of_step f =
          let d = IsEnabledEffect-operation (x86_operation item_on_path.statement) p s.memory (buffer_empty-if_waiting f) in
          let instr : slice_get (thread_code test.threads item_thread) p.position ≡ Some item_on_path.statement =
          ap (slice_get (thread_code test.threads item_thread)) (processor_at_item f) ∙ item_on_path.at in
          let index_in : slice_get (map (λ (q : Processor). q.position) s.processors) item_thread ≡ Some item_position =
          prefixes.position_got s.processors item_thread p was ∙ ap Some (processor_at_item f) in (
            _,
            record {
              is_at_position = index_in;
              done =
                  MachineTransition-of_effect test.threads (Step item_thread) s.processors p d.0 s.memory d.1 was
                  (subst (λ q. EffectLeadsTo s.memory (step_effect q p) d.0 d.1) (sym instr) d.2);
            },
          )

      -- By whether the item is a drain.
      transition-by_kind : (b : Bool)
          → (nth_item now_at.index).is_drain ≡ b
          → (mid : MachineState (List ℕ)) × TransitionAt flat_memory test.threads (event_by b item_thread) item_position s mid
      transition-by_kind true f = transition-of_drain f
      transition-by_kind false f = transition-of_step f

    -- The machine executes the item whose turn it is.
    item_transition : (mid : MachineState (List ℕ)) × X86ItemTransition flat_memory test.threads (nth_item now_at.index) s mid
    item_transition = transition-by_kind processor_at_t.0 processor_at_t.1 (nth_item now_at.index).is_drain refl

    -- ---- the state after it

    -- The state after the item.
    abbrev next_state : MachineState (List ℕ)
    next_state = item_transition.0

    -- What the machine does at the item's turn.
    abbrev item_step : ItemStep test.threads item_thread item_position (nth_item now_at.index).is_drain s next_state
    item_step = prefixes.item_step x given at_state.inv now_at item_transition.1

    -- Before the item the rest of its path is ahead of the item's processor.
    ahead_c : AheadOf item_thread k item_step.old
    ahead_c = at_state.ahead item_thread item_step.old item_step.was

    -- The processors after it are those before it, except the item's own.
    slice_get-after_item : (u : ℕ) (q : Processor)
        → slice_get next_state.processors u ≡ Some q
        → slice_get (slice_set s.processors item_thread item_step.new) u ≡ Some q
    slice_get-after_item u q processor_at =
        subst (λ (z : MachineState (List ℕ)). slice_get z.processors u ≡ Some q) item_step.state_is processor_at

    -- What is ahead of a thread is so after the item too, if the thread's state is unchanged and none of its events is done at
    -- k.
    AheadOf-unchanged_thread : (u : ℕ) (p q : Processor)
        → AheadOf u k p
        → thread_of q ≡ thread_of p
        → ((h : ℕ) → Contains (thread_code x.paths u) h → done_index (event u h) ≡ k → ⊥)
        → AheadOf u (suc k) q
    AheadOf-unchanged_thread u p q a same never = record {
      end = a.end;
      ends = a.ends;
      rest = a.rest;
      executes = subst (λ z. ThreadExecutes x86_language x u (thread_code test.threads u) a.rest z a.end) (sym same) a.executes;
      later = λ h there. elim (cases_eq (done_index (event u h)) k) [
        | inl now ↦ absurd (never h (a.on_path h there) now)
        | inr ne ↦ omega (arith, a.later h there, ne)
      ];
      on_path = a.on_path;
      rest_complete = λ h there le. a.rest_complete h there (omega (arith, le));
    }

    -- If the item is a step that reads, its processor finds the word that the execution says.
    word_for-is_read : (nth_item now_at.index).is_drain ≡ false
        → reads (x86_operation item_on_path.statement) ≡ true
        → word_for (x86_operation item_on_path.statement) item_step.old.buffer s.memory ≡ x.read item_event
    word_for-is_read f reading =
        let w = word_for-reads (x86_operation item_on_path.statement) item_step.old.buffer s.memory reading in
        let is_read : Reads x86_language test x item_event w.0 = record {
          is_event = on_path;
          location_is = ap (λ q. option_and_then location_of (option_map x86_operation q)) item_on_path.at ∙ w.1;
          is_read = event_kind reads ∙ reading;
        } in
        w.2
        ∙ (sees_newest x given at_state.inv now_at item_step.was (processor_at_item item_step.old item_step.was f) f w.0
        (x.rf item_event) (newest item_event w.0 is_read)
        ∙ words_agree w.0 (x.rf item_event) (candidate.rf item_event w.0 is_read))
      where
        -- The word of the write that is read from is the word that the event reads.
        words_agree : (l : ℕ) (q : Option MemoryEvent)
            → IsReadFrom x86_language test x item_event l q
            → source_word x given l q ≡ x.read item_event
        words_agree l None from = sym from
        words_agree l (Some v) from = sym from.word_is

    -- A step of the thread: the rest of its run starts with it.
    record Stepped (rest : List ℕ) (end : ThreadState) : Type 0 where
      more : List ℕ
      first : rest ≡ item_position ∷ more
      writes_word : writes (x86_operation item_on_path.statement) ≡ true
          → x.written item_event ≡ word_written (x86_operation item_on_path.statement) item_step.old.regs (x.read item_event)
      goes_on : ThreadExecutes x86_language x item_thread (thread_code test.threads item_thread) more
          (state_after (x86_operation item_on_path.statement) (thread_of item_step.old) (x.read item_event)) end

    -- After a step the thread has one position fewer ahead, and is in the execution's state.
    Stepped-from_rest : (nth_item now_at.index).is_drain ≡ false
        → (rest : List ℕ) (end : ThreadState)
        → IsMember item_position rest
        → ThreadExecutes x86_language x item_thread (thread_code test.threads item_thread) rest (thread_of item_step.old) end
        → Stepped rest end
    Stepped-from_rest f [] end is_member executes = absurd is_member
    Stepped-from_rest f (g ∷ more) end is_member executes =
        let first : g ≡ item_position = sym executes.position_is ∙ processor_at_item item_step.old item_step.was f in
        let instr : executes.statement ≡ item_on_path.statement =
        same_Some executes.statement item_on_path.statement
        (sym executes.statement_at ∙ (ap (slice_get (thread_code test.threads item_thread)) first ∙ item_on_path.at)) in
        record {
          more = more;
          first = ap (λ (h : ℕ). h ∷ more) first;
          writes_word = λ w.
              subst (λ h.
              x.written (event item_thread h)
              ≡ word_written (x86_operation item_on_path.statement) item_step.old.regs (x.read (event item_thread h))) first
              (subst (λ n.
              x.written (event item_thread g) ≡ word_written (x86_operation n) item_step.old.regs (x.read (event item_thread g)))
              instr (executes.written_is (ap (λ n. writes (x86_operation n)) instr ∙ w)));
          goes_on =
              subst (λ h.
              ThreadExecutes x86_language x item_thread (thread_code test.threads item_thread) more
              (state_after (x86_operation item_on_path.statement) (thread_of item_step.old) (x.read (event item_thread h))) end)
              first
              (subst (λ n.
              ThreadExecutes x86_language x item_thread (thread_code test.threads item_thread) more
              (state_after (x86_operation n) (thread_of item_step.old) (x.read (event item_thread g))) end) instr executes.rest);
        }

    -- If the item is a step, the thread's next step is at this turn.
    own_step : (f : (nth_item now_at.index).is_drain ≡ false) → Stepped ahead_c.rest ahead_c.end
    own_step f =
        Stepped-from_rest f ahead_c.rest ahead_c.end
        (ahead_c.rest_complete item_position on_path (omega (arith, event_done_now item_step.old item_step.was f)))
        ahead_c.executes

    -- The words that the step writes are those of the execution.
    Agrees-at_item : Agrees x given now_at.index item_on_path.statement item_step.old s.memory
    Agrees-at_item f w = elim (cases_Bool (reads (x86_operation item_on_path.statement))) [
      | inl reading ↦
          (own_step f).writes_word w
          ∙ ap (word_written (x86_operation item_on_path.statement) item_step.old.regs) (sym (word_for-is_read f reading))
      | inr silent ↦
          (own_step f).writes_word w
          ∙ (store_writes (x86_operation item_on_path.statement)
          (writes_unread (x86_operation item_on_path.statement) silent w)).1 item_step.old.regs (x.read item_event)
          (word_for (x86_operation item_on_path.statement) item_step.old.buffer s.memory)
    ]

    -- The thread after the step is that of the execution.
    same_state : (f : (nth_item now_at.index).is_drain ≡ false)
        → state_after (x86_operation item_on_path.statement) (thread_of item_step.old) (x.read item_event)
        ≡ thread_of item_step.new
    same_state f =
        let w : StepCase (x86_operation item_on_path.statement) item_step.old item_step.new s.memory item_step.words =
        step_case (nth_item now_at.index).is_drain f item_step item_on_path.at in
        elim (cases_Bool (reads (x86_operation item_on_path.statement))) [
          | inl reading ↦
              ap (state_after (x86_operation item_on_path.statement) (thread_of item_step.old)) (sym (word_for-is_read f reading))
              ∙ sym w.thread
          | inr silent ↦
              state_after-unread (x86_operation item_on_path.statement) (thread_of item_step.old) (x.read item_event)
              (word_for (x86_operation item_on_path.statement) item_step.old.buffer s.memory) silent
              ∙ sym w.thread
        ]

    -- After a step the rest without it is ahead.
    AheadOf-after_step : (f : (nth_item now_at.index).is_drain ≡ false) → AheadOf item_thread (suc k) item_step.new
    AheadOf-after_step f =
        let st : Stepped ahead_c.rest ahead_c.end = own_step f in
        let path_there : (h : ℕ) → IsMember h st.more → IsMember h ahead_c.rest =
        λ h there. subst (IsMember h) (sym st.first) (inr there) in
        record {
          end = ahead_c.end;
          ends = ahead_c.ends;
          rest = st.more;
          executes =
              subst (λ z. ThreadExecutes x86_language x item_thread (thread_code test.threads item_thread) st.more z ahead_c.end)
              (same_state f) st.goes_on;
          later = λ h there. elim (cases_eq (done_index (event item_thread h)) k) [
            | inl now ↦
                absurd (rest_excludes_j st h there
                (ap (λ (z : MemoryEvent). z.position)
                (done_now-unique (event item_thread h) (ahead_c.on_path h (path_there h there)) now).0))
            | inr ne ↦ omega (arith, ahead_c.later h (path_there h there), ne)
          ];
          on_path = λ h there. ahead_c.on_path h (path_there h there);
          rest_complete = λ h there le. elim (subst (IsMember h) st.first (ahead_c.rest_complete h there (omega (arith, le)))) [
            | inl first ↦ absurd (omega (
              arith,
              le,
              event_done_now item_step.old item_step.was f,
              ap (λ g. done_index (event item_thread g)) first,
            ))
            | inr more ↦ more
          ];
        }
      where
        -- The rest has no second event at this position.
        rest_excludes_j : (st : Stepped ahead_c.rest ahead_c.end) (h : ℕ) → IsMember h st.more → h ≡ item_position → ⊥
        rest_excludes_j st h is_member same =
            let up : IsAscendingFrom item_step.old.position (item_position ∷ st.more) =
            subst (IsAscendingFrom item_step.old.position) st.first
            (IsAscendingFrom-flow_path x86_language (thread_code test.threads item_thread) item_step.old.position ahead_c.rest
            (forward given item_thread)
            (IsFlowPathFrom-ThreadExecutes x86_language x item_thread (thread_code test.threads item_thread) ahead_c.rest
            (thread_of item_step.old) ahead_c.end ahead_c.executes)) in
            let more : suc item_position ≤ h = IsAscendingFrom-lower_bound (suc item_position) h st.more up.1 is_member in
            omega (arith, more, same)

    -- After a step and after a drain the rest of the path is ahead of the item's own thread.
    AheadOf-own_thread : AheadOf item_thread (suc k) item_step.new
    AheadOf-own_thread = elim (cases_Bool (nth_item now_at.index).is_drain) [
      | inl f ↦
          (let drained = Drained-ItemStep (nth_item now_at.index).is_drain f item_step in
          AheadOf-unchanged_thread item_thread item_step.old item_step.new ahead_c (ap thread_of drained.processor_is)
          (λ h there now. true≢false (sym f ∙ (done_now-unique (event item_thread h) there now).1)))
      | inr f ↦ AheadOf-after_step f
    ]

    -- After the item the rest of its path is ahead of each thread.
    AheadOf-after_item : (u : ℕ) (q : Processor) → slice_get next_state.processors u ≡ Some q → AheadOf u (suc k) q
    AheadOf-after_item u q processor_at =
        prefixes.AtEach-after_set (λ u q. AheadOf u (suc k) q) s.processors item_thread item_step.old item_step.new item_step.was
        (λ v p there ne.
        AheadOf-unchanged_thread v p p (at_state.ahead v p there) refl
        (λ h on now. ne (sym (ap (λ (z : MemoryEvent). z.thread) (done_now-unique (event v h) on now).0)))) AheadOf-own_thread u q
        (slice_get-after_item u q processor_at)

    -- The invariant holds at k + 1.
    IsAt-next : IsAt (suc k) next_state
    IsAt-next = record {
      pending = prefixes.waiting_after x given at_state.inv now_at item_transition.1;
      inv = PrefixInvariant-next x given at_state.inv now_at item_transition.1 Agrees-at_item;
      ahead = AheadOf-after_item;
      processor_count =
          ap (λ (z : MachineState (List ℕ)). length z.processors) item_step.state_is
          ∙ (length-set s.processors item_thread item_step.new ∙ at_state.processor_count);
    }

  -- ---- from the initial state

  -- At the start each processor has its thread's first state and an empty buffer.
  initial_case : (t : ℕ) (p : Processor)
      → slice_get (map initial_processor test.head.init_regs) t ≡ Some p
      → (t < length test.threads) × (thread_of p ≡ first_state (slice_index_or test.head.init_regs t [])) × (p.buffer ≡ [])
  initial_case t p found_at =
      let mapped = slice_get-map_inv initial_processor test.head.init_regs t p found_at in
      let regs : slice_index_or test.head.init_regs t [] ≡ mapped.0 =
      get_or_from_slice_get test.head.init_regs t mapped.0 [] mapped.1 in (
        omega (
          arith,
          slice_get_within test.head.init_regs t mapped.0 mapped.1,
          given.well_scoped.head.regs,
          given.well_scoped.as_many,
        ),
        ap thread_of mapped.2 ∙ ap first_state (sym regs),
        ap (λ (q : Processor). q.buffer) mapped.2,
      )

  -- The invariant holds in the initial state.
  IsAt-start : IsAt 0 (initial_machine_state test test.head.init_words)
  IsAt-start = record {
    pending = λ t. [];
    inv = record {
      waiting = AreWaitingStores-start test.threads (forward given) x.paths given.assignment given.order;
      hold = AllBuffersHoldStores-start test test.head.init_words;
      words = λ t p got. (let initial = initial_case t p got in subst (Written x given t []) (sym initial.2) tt);
      memory = λ l. inl ((λ e writing lt. omega (arith, lt)), refl);
      size = given.well_scoped.head.words;
    };
    ahead = λ t p got.
        (let initial = initial_case t p got in
        let th = candidate.threads t initial.0 in
        record {
          end = th.end;
          ends = th.regs_are;
          rest = thread_code x.paths t;
          executes =
              subst (λ z. ThreadExecutes x86_language x t (thread_code test.threads t) (thread_code x.paths t) z th.end)
              (sym initial.1) th.executes;
          later = λ j there. omega arith;
          on_path = λ j there. Contains-IsMember (thread_code x.paths t) j there;
          rest_complete = λ j there le. prefixes.in_list (thread_code x.paths t) j there;
        });
    processor_count =
        length-map test.head.init_regs initial_processor ∙ (given.well_scoped.head.regs ∙ sym given.well_scoped.as_many);
  }

  -- ---- along the order

  -- The items with these numbers are executed one after another.
  abbrev Ran : List ℕ → MachineState (List ℕ) → MachineState (List ℕ) → Type 0
  Ran rest = ItemsRunTo (x86_item_system flat_memory test test.head.init_words) (map nth_item rest)

  -- By induction along the order: from each index the rest of the order is executed.
  Ran-from_prefix : (before rest : List ℕ)
      → given.order ≡ before ++ rest
      → (s : MachineState (List ℕ))
      → IsAt (length before) s
      → (end : MachineState (List ℕ)) × Ran rest s end × IsAt (length given.order) end
  Ran-from_prefix before [] split s is = (s, refl, subst (λ n. IsAt n s) (ap length (sym (append-nil before) ∙ sym split)) is)
  Ran-from_prefix before (i ∷ rest) split s is =
      let o = index_in-order_split (length all_items) i before rest (subst (IsOrder (length all_items)) split given.keeps.0) in
      let index_i : index_in given.order i ≡ length before = ap (λ zs. index_in zs i) split ∙ o.1 in
      let more : suc (length before) ≡ length (before ++ i ∷ []) = omega (arith, length-append before (i ∷ [])) in
      let now_at : Turn x given (length before) = record { index = i; below = o.0; index_is = index_i } in
      let later =
      Ran-from_prefix (before ++ i ∷ []) rest (split ∙ sym (append_assoc before (i ∷ []) rest)) (next_state is now_at)
      (subst (λ n. IsAt n (next_state is now_at)) more (IsAt-next is now_at)) in
      (later.0, (next_state is now_at, (item_transition is now_at).1, later.1), later.2)

  -- ---- in the final state

  module _ (s : MachineState (List ℕ)) (at_state : IsAt (length given.order) s) where
    -- After all items no thread has anything ahead.
    no_rest_ahead : (t : ℕ) (p : Processor) (a : AheadOf t (length given.order) p) (rest : List ℕ) → a.rest ≡ rest → rest ≡ []
    no_rest_ahead t p a [] same = refl
    no_rest_ahead t p a (h ∷ rest) same =
        let is_member : IsMember h a.rest = subst (IsMember h) (sym same) (inl refl) in
        let below : done_index (event t h) < length all_items =
        turn_in_range given (item t h false) (Placed-step given (event t h) (a.on_path h is_member)) in
        absurd (omega (arith, below, a.later h is_member, order_length given))

    -- At the end of the run each thread is at its end, with the outcome's registers.
    thread_at_end : (t : ℕ) (p : Processor)
        → slice_get s.processors t ≡ Some p
        → (p.position ≡ length (thread_code test.threads t)) × (slice_index_or o.regs t [] ≡ p.regs)
    thread_at_end t p processor_at =
        let a : AheadOf t (length given.order) p = at_state.ahead t p processor_at in
        let executes : ThreadExecutes x86_language x t (thread_code test.threads t) [] (thread_of p) a.end =
        subst (λ rest. ThreadExecutes x86_language x t (thread_code test.threads t) rest (thread_of p) a.end)
        (no_rest_ahead t p a a.rest refl) a.executes in
        (executes.0, a.ends ∙ ap (λ (z : ThreadState). z.regs) executes.1)

    -- Each buffer is empty.
    buffer_empty-at_end : (t : ℕ) (p : Processor) → slice_get s.processors t ≡ Some p → p.buffer ≡ []
    buffer_empty-at_end t p processor_at =
        no_store_left (at_state.pending t) p.buffer (at_state.inv.hold t p processor_at).waits
        (λ v there. at_state.inv.waiting.coming t v there)
      where
        -- No store is left that would wait: each has its drain in the order.
        no_store_left : (ws : List ℕ) (b : List (ℕ × ℕ))
            → BufferHolds (thread_code test.threads t) ws b
            → ((v : ℕ)
            → IsMember v ws
            → IsDrainedLater test.threads (forward given) x.paths given.assignment given.order (length given.order) t v)
            → b ≡ []
        no_store_left [] [] holds coming = refl
        no_store_left [] (f ∷ b) holds coming = absurd holds
        no_store_left (w ∷ ws) b holds coming =
            let co = coming w (inl refl) in
            absurd (omega (arith, co.later, number_in_order given co.index co.below, order_length given))

    -- The state at the end of the run is final.
    is_final-at_end : IsTrue (is_final test.threads s)
    is_final-at_end = list_all_zip-of_each (λ p. has_terminated p.0 p.1) test.threads s.processors (λ t code p at_t got.
        (let e = thread_at_end t p got in
        let same : thread_code test.threads t ≡ code = get_or_from_slice_get test.threads t code [] at_t in
        and_from (nat_le (length code) p.position) (length p.buffer == 0)
        (le-leb (length code) p.position (omega (arith, e.0, ap length same)))
        (ap (λ b. length b == 0) (buffer_empty-at_end t p got))))

    -- The registers at the end of the run are those of the outcome.
    regs_of_outcome : o.regs ≡ map (λ (p : Processor). p.regs) s.processors
    regs_of_outcome =
        ext_get_or [] o.regs (map (λ (p : Processor). p.regs) s.processors)
        (candidate.of_test.regs_of ∙ (sym at_state.processor_count ∙ sym (length-map s.processors (λ (p : Processor). p.regs))))
        (λ t l.
        (let found = slice_get-in_range s.processors t (omega (arith, l, candidate.of_test.regs_of, at_state.processor_count)) in
        (thread_at_end t found.0 found.1).1
        ∙ sym (get_or_from_slice_get (map (λ (q : Processor). q.regs) s.processors) t found.0.regs []
        (prefixes.regs_got s.processors t found.0 found.1))))

    -- Each event reaches memory in the order.
    reached_below : (e : MemoryEvent) → IsEvent x e → reached given e < length given.order
    reached_below e is_event = omega (arith, turn_in_range given _ (Placed-point given e is_event), order_length given)

    -- The last write to a location in coherence order is the last in the order, so both give the same word.
    words_agree : (l v w : ℕ) → IsLast x86_language test x l v → LastBefore x given (length given.order) l w → v ≡ w
    words_agree l v w (inl (never, a)) (inl (_, b)) = a ∙ sym b
    words_agree l v w (inl (never, a)) (inr (f, writing, lt, last, b)) = absurd (never f writing)
    words_agree l v w (inr (e, writing, most, a)) (inl (never, b)) = absurd (never e writing (reached_below e writing.is_event))
    words_agree l v w (inr (e, we, most, a)) (inr (f, wf, lt, last, b)) = elim (cases_order (x.co f) (x.co e)) [
      | inl same_co ↦ a ∙ (ap x.written (candidate.co e f l we wf (sym same_co)) ∙ sym b)
      | inr (inl co_lt) ↦ absurd (omega (
        arith,
        co_up f e (record { on_location = l; first_write = wf; second_write = we; co_lt = co_lt }),
        last e we (reached_below e we.is_event),
      ))
      | inr (inr co_gt) ↦ absurd (omega (arith, co_gt, most f wf))
    ]

    -- The words at the end of the run are those of the outcome.
    words_of_outcome : o.words ≡ s.memory
    words_of_outcome = ext_get_or 0 o.words s.memory (candidate.of_test.words_of ∙ sym at_state.inv.size) (λ l lt.
        words_agree l (slice_index o.words l) (slice_index s.memory l)
        (candidate.words l (omega (arith, lt, candidate.of_test.words_of))) (at_state.inv.memory l))

    -- The outcome at the end of the run is the execution's.
    outcome_of_run : o ≡ machine_outcome flat_memory s
    outcome_of_run = ap₂ (λ r w. record { regs = r; words = w }) regs_of_outcome words_of_outcome

  -- The order's run follows its paths and reaches the execution's outcome.
  pub X86FollowsPathsToEnd-IsCandidate : X86FollowsPathsToEnd flat_memory test test.head.init_words all_items given.order o
  X86FollowsPathsToEnd-IsCandidate =
      let w = Ran-from_prefix [] given.order refl (initial_machine_state test test.head.init_words) IsAt-start in
      record { end = w.0; ran = w.1; final = is_final-at_end w.0 w.2; outcome_is = outcome_of_run w.0 w.2 }
