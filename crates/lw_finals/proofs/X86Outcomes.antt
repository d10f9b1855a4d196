-- The outcomes over flat memory of the orders of all path assignments are exactly the outcomes of an x86
-- test. One premise of `CompleteLists`: each event of a run executes an item, so `PathOfRun` and `Ordered`
-- apply.
use Rattle.lw_finals.proofs.Common.{IsWellScopedProgram, ◌≡◌, ℕ, ◌≤◌, ◌==◌, List, [], ◌∷◌, length, Option}
use Rattle.lw_finals.proofs.Common.{Some, None, Bool, true, false, Ok, refl, sym, ap, ◌∙◌, subst, arith}
use Rattle.lw_finals.proofs.Common.{slice_get, length-set, ◌↔◌, IsTrue, nat_le, option_map, true≢false}
use Rattle.lw_finals.proofs.Common.{leb-true, eqb-true, and_parts, length-map, nil_from_length, slice_get-map}
use Rattle.lw_finals.proofs.Common.{slice_get_within, FinalState, thread_code, Event, Step, Drain, Evict}
use Rattle.lw_finals.proofs.Common.{slice_get-slice_set_same, slice_get-slice_set_other, at_index}
use Rattle.lw_finals.proofs.Common.{slice_get-map_inv, list_all_zip-at_index, flat_memory, Instr, IsSuccessor}
use Rattle.lw_finals.proofs.Common.{x86_operation, x86_language, X86Test, step_effect, MachineState}
use Rattle.lw_finals.proofs.Common.{position_of, MachineTransition, Processor, initial_processor, is_final}
use Rattle.lw_finals.proofs.Common.{MachineRunsTo, ReplaysTo, IsMachineOutcome, initial_machine_state}
use Rattle.lw_finals.proofs.Common.{EffectLeadsTo, EventOccurrence, EventOccurrence-of_event}
use Rattle.lw_finals.proofs.Common.{not-EffectLeadsTo-evict_event, OperationTransition, JumpsForward}
use Rattle.lw_finals.proofs.Common.{IsPathAssignment, Item, items_of, IsMember, IsStoring, item}
use Rattle.lw_finals.proofs.Common.{JumpsForward-thread, OrderRunsTo, events_of, X86ItemTransition}
use Rattle.lw_finals.proofs.Common.{position_of-in_range, x86_item_system, X86FollowsPathsToEnd}
use Rattle.lw_finals.proofs.Common.{IsX86AssignmentOutcome}
use Rattle.lw_finals.proofs.api.Waiting.{DrainsOldest, entry_location}
use Rattle.lw_finals.proofs.Ordered.{OfAssignment-of_run}
use Rattle.lw_finals.proofs.PathOfRun.{ExecutesItem, AreItemRuns, position-at_start, position-at_start_unique}
use Rattle.lw_finals.proofs.api.X86Waiting.{ItemStep, ItemStep-of_transition, OperationTransition-of_item}
use Rattle.lw_finals.proofs.api.X86Waiting.{DrainShape, DrainShape-of_effect, BufferHolds}
use Rattle.lw_finals.proofs.api.X86Waiting.{no_store-if_buffer_empty, HoldsStores, AllBuffersHoldStores}
use Rattle.lw_finals.proofs.api.X86Waiting.{AllBuffersHoldStores-after_item, AllBuffersHoldStores-start}

-- If the buffer has an oldest entry, some store waits, and the one that has waited longest made that entry.
BufferHolds-oldest : (code : List Instr) (ws : List ℕ) (e : ℕ × ℕ) (newer : List (ℕ × ℕ))
    → BufferHolds code ws (e ∷ newer)
    → (j : ℕ) × (rest : List ℕ) × (ws ≡ j ∷ rest) × (entry_location x86_language (slice_get code j) ≡ Some e.0)
BufferHolds-oldest code [] e newer h = absurd h
BufferHolds-oldest code (j ∷ rest) e newer h = (j, rest, refl, h.0)

-- If an optional statement makes an entry for a location, it is there, and is a store into the store buffer.
IsStoring-if_entry : (o : Option Instr) (x : ℕ)
    → entry_location x86_language o ≡ Some x
    → (i : Instr) × (o ≡ Some i) × IsStoring x86_language i
IsStoring-if_entry None x e = absurd (let bad : None ≡ Some x = e in cc)
IsStoring-if_entry (Some i) x e = (i, refl, (x, e))

module _ (test : X86Test) where
  -- The test's threads.
  abbrev program : List (List Instr)
  program = test.threads

  -- If a state is final, and the buffers hold the waiting stores, each thread is at the end of its code or past it, and no
  -- store waits.
  nothing_waits-if_final : (pending : ℕ → List ℕ) (s : MachineState (List ℕ))
      → AllBuffersHoldStores program pending s
      → length s.processors ≡ length program
      → IsTrue (is_final program s)
      → (t p : ℕ)
      → position_of s t ≡ Some p
      → (length (thread_code program t) ≤ p) × ((j : ℕ) → IsMember j (pending t) → ⊥)
  nothing_waits-if_final pending s hold many final t p e =
      let q = slice_get-map_inv (λ (x : Processor). x.position) s.processors t p e in
      let l = slice_get_within s.processors t q.0 q.1 in
      let done = list_all_zip-at_index _ program _ t _ q.0 final (at_index program t [] (omega (arith, l, many))) q.1 in
      let both = and_parts (nat_le (length (thread_code program t)) q.0.position) (length q.0.buffer == 0) done in
      let empty = nil_from_length q.0.buffer (eqb-true (length q.0.buffer) 0 both.1) in (
        omega (arith, leb-true (length (thread_code program t)) q.0.position both.0, q.2),
        no_store-if_buffer_empty _ (pending t)
            (subst (BufferHolds (thread_code program t) (pending t)) empty (hold t q.0 q.1).waits),
      )

  -- If a step is enabled, its processor has a next instruction.
  instr_exists-if_step : (o : Option Instr) (p q : Processor) (m n : List ℕ)
      → EffectLeadsTo m (step_effect o p) q n
      → (i : Instr) × (o ≡ Some i)
  instr_exists-if_step None p q m n d = absurd d
  instr_exists-if_step (Some i) p q m n d = (i, refl)

  -- These stores wait in the buffers, and each thread has a processor.
  record IsSound (pending : ℕ → List ℕ) (s : MachineState (List ℕ)) : Type 0 where
    hold : AllBuffersHoldStores program pending s
    processor_count : length s.processors ≡ length program

  module _ (forward : (t : ℕ) → JumpsForward x86_language (thread_code program t)) where
    -- An item is executed from one state to the next, and the buffers hold the stores that wait after it.
    abbrev Carries : (ℕ → List ℕ) → MachineState (List ℕ) → MachineState (List ℕ) → Type 0
    Carries = ExecutesItem x86_language program (x86_item_system flat_memory test test.head.init_words) position_of IsSound

    -- If the waiting stores are known, and the item of thread t at j is executed, which as a drain (b is `true`) is that of the
    -- store that has waited longest, then the waiting stores are known after it.
    Carries-item : (t j : ℕ) (b : Bool) (i : Instr) (pending : ℕ → List ℕ) (s mid : MachineState (List ℕ))
        → IsSound pending s
        → slice_get (thread_code program t) j ≡ Some i
        → X86ItemTransition flat_memory program (item t j b) s mid
        → DrainsOldest b j (pending t)
        → (b ≡ true → IsStoring x86_language i)
        → Carries pending s mid
    Carries-item t j b i pending s mid sound found_at out head store = record {
      moves = record {
        item = item t j b;
        statement = i;
        at = found_at;
        carried = out;
        old = item_step.old.position;
        new = item_step.new.position;
        was = position_of-in_range s t item_step.was;
        now =
            position_of-in_range mid t
            (ap (λ (z : MachineState (List ℕ)). slice_get z.processors t) item_step.state_is
            ∙ slice_get-slice_set_same s.processors t item_step.new item_step.old item_step.was);
        others = λ u ne.
            slice_get-map (λ (x : Processor). x.position) mid.processors u
            ∙ (ap (option_map (λ (x : Processor). x.position))
            (ap (λ (z : MachineState (List ℕ)). slice_get z.processors u) item_step.state_is
            ∙ slice_get-slice_set_other s.processors t u item_step.new ne)
            ∙ sym (slice_get-map (λ (x : Processor). x.position) s.processors u));
        climbs = buffer_holds.climbs;
        follows = λ f. (
          item_step.position_is f,
          subst (λ (k : ℕ). IsSuccessor (x86_operation i) k item_step.new.position) (item_step.position_is f)
              (OperationTransition-of_step b f item_step).leads,
        );
        waited = λ f w.
            no_store-if_buffer_empty (thread_code program t) (pending t)
            (subst (BufferHolds (thread_code program t) (pending t)) ((OperationTransition-of_step b f item_step).waited w)
            buffer_holds.waits);
        stays = λ f. ap (λ (x : Processor). x.position) (DrainShape-of_drain b f item_step).processor_is;
        oldest = head;
        store = store;
      };
      sound = record {
        hold = AllBuffersHoldStores-after_item program forward (item t j b) i pending s mid item_step found_at sound.hold;
        processor_count =
            ap (λ (z : MachineState (List ℕ)). length z.processors) item_step.state_is
            ∙ (length-set s.processors t item_step.new ∙ sound.processor_count);
      };
    }
      where
        -- The step or the drain that the item makes.
        item_step : ItemStep program t j b s mid
        item_step = ItemStep-of_transition program t j b s mid out

        -- Before the item the buffer holds the stores that wait.
        buffer_holds : HoldsStores (thread_code program t) (pending t) item_step.old
        buffer_holds = sound.hold t item_step.old item_step.was

        -- If the item is a statement (d is `false`), its processor makes the transition of its operation.
        OperationTransition-of_step : (d : Bool)
            → d ≡ false
            → (c : ItemStep program t j d s mid)
            → OperationTransition (x86_operation i) c.old c.new
        OperationTransition-of_step true f c = absurd (true≢false f)
        OperationTransition-of_step false f c = OperationTransition-of_item program t j i s mid c found_at

        -- If the item is a drain (d is `true`), its processor's oldest entry is removed.
        DrainShape-of_drain : (d : Bool) → d ≡ true → (c : ItemStep program t j d s mid) → DrainShape c.old c.new
        DrainShape-of_drain true f c = DrainShape-of_effect c.old c.new s.memory c.words c.does
        DrainShape-of_drain false f c = absurd (true≢false (sym f))

    -- If the waiting stores are known, each enabled event executes an item, and the waiting stores are known after it.
    Carries-event : (e : Event) (pending : ℕ → List ℕ) (s mid : MachineState (List ℕ))
        → IsSound pending s
        → MachineTransition flat_memory program e s (Ok tt) mid
        → Carries pending s mid
    Carries-event (Step t) pending s mid sound done =
        let d : EventOccurrence program (Step t) s mid = EventOccurrence-of_event program (Step t) s mid done in
        let i = instr_exists-if_step _ d.from d.to s.memory d.words d.does in
        Carries-item t d.from.position false i.0 pending s mid sound i.1
        (record { is_at_position = position_of-in_range s t d.was; done = done }) (λ f. absurd (true≢false (sym f)))
        (λ f. absurd (true≢false (sym f)))
    Carries-event (Drain t) pending s mid sound done =
        let d : EventOccurrence program (Drain t) s mid = EventOccurrence-of_event program (Drain t) s mid done in
        let shape : DrainShape d.from d.to = DrainShape-of_effect d.from d.to s.memory d.words d.does in
        let o =
        BufferHolds-oldest (thread_code program t) (pending t) shape.entry shape.newer
        (subst (BufferHolds (thread_code program t) (pending t)) shape.buffer_is (sound.hold t d.from d.was).waits) in
        let i = IsStoring-if_entry (slice_get (thread_code program t) o.0) shape.entry.0 o.3 in
        Carries-item t o.0 true i.0 pending s mid sound i.1 (record { is_at_position = tt; done = done }) (λ f. (o.1, o.2))
        (λ f. i.2)
    Carries-event (Evict t x) pending s mid sound done =
        let d : EventOccurrence program (Evict t x) s mid = EventOccurrence-of_event program (Evict t x) s mid done in
        absurd (not-EffectLeadsTo-evict_event program (length s.memory) t x d.from d.to s.memory d.words d.does)

    -- In the runs of a well-scoped x86 test over flat memory each event executes an item.
    AreItemRuns-x86 : IsWellScopedProgram test
        → AreItemRuns x86_language program (x86_item_system flat_memory test test.head.init_words) position_of
        (MachineTransition flat_memory program) IsSound
    AreItemRuns-x86 well_scoped = record {
      first = record {
        hold = AllBuffersHoldStores-start test test.head.init_words;
        processor_count = length-map test.head.init_regs initial_processor ∙ (well_scoped.head.regs ∙ sym well_scoped.as_many);
      };
      starts =
          λ t l.
          position-at_start initial_processor (λ (x : Processor). x.position) (λ x. refl) test.head.init_regs t
          (omega (arith, l, well_scoped.head.regs, well_scoped.as_many));
      at_start = position-at_start_unique initial_processor (λ (x : Processor). x.position) (λ x. refl) test.head.init_regs;
      executes_item = Carries-event;
      ended = λ pending s sound final. nothing_waits-if_final pending s sound.hold sound.processor_count final;
    }

-- If the items of an order lead from s to `end`, so do their events.
MachineRunsTo-of_order : (test : X86Test) (items : List Item) (order : List ℕ) (s end : MachineState (List ℕ))
    → OrderRunsTo (x86_item_system flat_memory test test.head.init_words) items order s end
    → MachineRunsTo flat_memory test.threads (events_of items order) s end
MachineRunsTo-of_order test items [] s end ran = ran
MachineRunsTo-of_order test _ (i ∷ order) s end (next, out, ran) =
    (next, out.done, MachineRunsTo-of_order test _ order next end ran)

-- If an order of items follows its paths to an outcome, the events of its items replay to it over flat memory.
pub ReplaysTo-of_order : (test : X86Test) (items : List Item) (order : List ℕ) (o : FinalState)
    → X86FollowsPathsToEnd flat_memory test test.head.init_words items order o
    → ReplaysTo flat_memory test test.head.init_words (events_of items order) o
ReplaysTo-of_order test items order o r = record {
  end = r.end;
  ran = MachineRunsTo-of_order test items order (initial_machine_state test test.head.init_words) r.end r.ran;
  final = r.final;
  outcome_is = r.outcome_is;
}

-- An outcome of a well-scoped x86 test over flat memory is one of a path assignment, and the reverse.
pub IsMachineOutcome-iff_assignment : (test : X86Test) (o : FinalState)
    → IsWellScopedProgram test
    → IsMachineOutcome flat_memory test test.head.init_words o
    ↔ ((paths : List (List ℕ))
    × IsPathAssignment x86_language test.threads paths
    × IsX86AssignmentOutcome flat_memory test test.head.init_words paths o)
IsMachineOutcome-iff_assignment test o well_scoped = (
  λ (events, r).
      OfAssignment-of_run x86_language test.threads (x86_item_system flat_memory test test.head.init_words) position_of
      (MachineTransition flat_memory test.threads) (IsSound test)
      (AreItemRuns-x86 test (JumpsForward-thread x86_language test well_scoped) well_scoped)
      (JumpsForward-thread x86_language test well_scoped) events r.end o r.ran r.final r.outcome_is,
  λ (paths, assignment, c). (
    events_of (items_of x86_language test.threads paths) c.order,
    ReplaysTo-of_order test (items_of x86_language test.threads paths) c.order o c.run,
  ),
)
