-- A run of the machine over flat memory, with each locked instruction in phases: it acquires the lock, reads, writes, drains its write, and
-- releases the lock, in sequence. One direction of the law that these phases change no outcome; FromPhases has the other.
use Rattle.lw_tso.proofs.Common.{◌≡◌, ℕ, Bool, true, false, List, [], ◌∷◌, ◌++◌, length, map, Ok, Option}
use Rattle.lw_tso.proofs.Common.{Some, None, refl, sym, ap, ◌∙◌, subst, slice_get, slice_set, slice_index}
use Rattle.lw_tso.proofs.Common.{option_map, set-set, get_or_from_slice_get, slice_get-map}
use Rattle.lw_tso.proofs.Common.{slice_get-slice_set_same, thread_code, Event, Step, Drain, Evict}
use Rattle.lw_tso.proofs.Common.{flat_memory, Instr, is_locked, x86_operation, Processor, step_effect}
use Rattle.lw_tso.proofs.Common.{MachineState, buffer_of, MachineTransition, MachineRunsTo, Begun, HasRead}
use Rattle.lw_tso.proofs.Common.{HasWritten, Lock, HeldBy, PhasedState, PhasedEvent, Steps, Drains, Locks}
use Rattle.lw_tso.proofs.Common.{Reads, Writes, Unlocks, Locked, locked_by, with_empty_buffer}
use Rattle.lw_tso.proofs.Common.{after_locked_write, IsAtLocked, PhasedRunsTo, unlocked}
use Rattle.lw_tso.proofs.LockedSteps.{DoesAs-locked, locked_by-of_locked, buffer_empty-if_locked}
use Rattle.lw_tso.proofs.LockedSteps.{buffer_empty-after_locked_step}
use Rattle.lw_tso.proofs.api.Effects.{state, EffectLeadsTo, not-EffectLeadsTo-evict_event, EventOccurrence}
use Rattle.lw_tso.proofs.api.Effects.{MachineTransition-deterministic, MachineTransition-of_effect}
use Rattle.lw_tso.proofs.api.Effects.{EventOccurrence-of_event}

-- If the machine has the processor p at index t, the buffer of t is that of p.
pub buffer_of-in_range : (s : MachineState (List ℕ)) (t : ℕ) (p : Processor)
    → slice_get s.processors t ≡ Some p
    → buffer_of s t ≡ p.buffer
buffer_of-in_range s t p at =
    get_or_from_slice_get (map (λ (q : Processor). q.buffer) s.processors) t p.buffer []
    (slice_get-map (λ (q : Processor). q.buffer) s.processors t ∙ ap (option_map (λ (q : Processor). q.buffer)) at)

module _ (program : List (List Instr)) where
  -- Events with locked instructions in phases lead from one state to another; the lock is free before and after.
  abbrev pub InPhases : MachineState (List ℕ) → MachineState (List ℕ) → Type 0
  InPhases s end = (events : List PhasedEvent) × PhasedRunsTo program events (unlocked s) (unlocked end)

  -- Two runs with phases, the second from the end of the first, are a run of their events in sequence.
  PhasedRunsTo-append : (es fs : List PhasedEvent) (s mid end : PhasedState)
      → PhasedRunsTo program es s mid
      → PhasedRunsTo program fs mid end
      → PhasedRunsTo program (es ++ fs) s end
  PhasedRunsTo-append [] fs s mid end r q = subst (λ (m : PhasedState). PhasedRunsTo program fs m end) r q
  PhasedRunsTo-append (e ∷ es) fs s mid end r q = (r.0, r.1, PhasedRunsTo-append es fs r.0 mid end r.2 q)

  -- A locked instruction of a processor whose buffer is empty.
  module _ (t : ℕ) (s : MachineState (List ℕ)) (p : Processor) (l : Locked)
      (at : IsAtLocked program s t (with_empty_buffer p) l) where
    -- The word that the locked instruction reads.
    abbrev word : ℕ
    word = slice_index s.memory l.location

    -- The word that it leaves in memory.
    abbrev left : ℕ
    left = l.leaves word

    -- Memory after the instruction.
    abbrev words : List ℕ
    words = slice_set s.memory l.location left

    -- The state after the instruction in one step.
    abbrev done_at_once : MachineState (List ℕ)
    done_at_once = state (slice_set s.processors t (l.next word)) words

    -- The instruction's processor with its write in the buffer.
    abbrev written : Processor
    written = after_locked_write l word []

    -- The instruction's processor after the drain of its write.
    abbrev drained : Processor
    drained = record (l.next word) { buffer = [] }

    -- A state with phases, of a state of the machine and a lock.
    abbrev with_lock : MachineState (List ℕ) → Lock → PhasedState
    with_lock m lock = record { machine = m; lock = lock }

    -- The machine after the write is put into the buffer.
    abbrev writing : MachineState (List ℕ)
    writing = state (slice_set s.processors t written) s.memory

    -- The machine after the write is drained.
    abbrev ending : MachineState (List ℕ)
    ending = state (slice_set (slice_set s.processors t written) t drained) words

    -- After the write, processor t is `written`.
    written_processor_found : slice_get (slice_set s.processors t written) t ≡ Some written
    written_processor_found = slice_get-slice_set_same s.processors t written (with_empty_buffer p) at.processor_at

    -- The drain of the write leads from the state `writing` to `ending`.
    write_drains : MachineTransition flat_memory program (Drain t) writing (Ok tt) ending
    write_drains =
        MachineTransition-of_effect program (Drain t) (slice_set s.processors t written) written drained s.memory words
        written_processor_found (refl, refl)

    -- After the drain the buffer is empty, so the lock can be released.
    buffer_empty_at_end : buffer_of ending t ≡ []
    buffer_empty_at_end =
        buffer_of-in_range ending t drained
        (slice_get-slice_set_same (slice_set s.processors t written) t drained written written_processor_found)

    -- The processor after the drain is the one that executed the instruction in one step, since both buffers are empty.
    same_processor : drained ≡ l.next word
    same_processor =
        ap (λ b. record (l.next word) { buffer = b })
        (sym (buffer_empty-after_locked_step (slice_get (thread_code program t) p.position) p l word at.locked))

    -- The phases end in the state that the instruction reaches in one step.
    ends_equal : done_at_once ≡ ending
    ends_equal =
        ap (λ ps. state ps words) (sym (set-set s.processors t written drained ∙ ap (slice_set s.processors t) same_processor))

    -- What a locked instruction does in one step, it also does in phases: lock, read, write, drain, unlock.
    InPhases-locked : InPhases s done_at_once
    InPhases-locked = (
      Locks t ∷ Reads t ∷ Writes t ∷ Drains t ∷ Unlocks t ∷ [],
      (
        with_lock s (HeldBy t Begun),
        (with_empty_buffer p, l, at, refl, refl),
        (
          with_lock s (HeldBy t (HasRead word)),
          (with_empty_buffer p, l, at, refl, refl),
          (
            with_lock writing (HeldBy t HasWritten),
            (with_empty_buffer p, l, word, at, refl, refl),
            (
              with_lock ending (HeldBy t HasWritten),
              (refl, write_drains, refl),
              (unlocked ending, (refl, buffer_empty_at_end, refl), ap unlocked ends_equal),
            ),
          ),
        ),
      ),
    )

    -- If the step of processor t leads from s to `after`, that is the state `done_at_once`.
    step_end-unique : (after : MachineState (List ℕ))
        → MachineTransition flat_memory program (Step t) s (Ok tt) after
        → after ≡ done_at_once
    step_end-unique after done =
        let act = step_effect (slice_get (thread_code program t) p.position) (with_empty_buffer p) in
        let way =
        MachineTransition-of_effect program (Step t) s.processors (with_empty_buffer p) (l.next word) s.memory words
        at.processor_at (DoesAs-locked s.memory act l at.locked) in
        (MachineTransition-deterministic program (Step t) s after done_at_once (Ok tt) (Ok tt) done way).1

  -- If an event leads from s to `after`, events with locked instructions in phases do, with the lock free at both ends.
  InPhases-event : (e : Event) (s after : MachineState (List ℕ))
      → MachineTransition flat_memory program e s (Ok tt) after
      → InPhases s after
  InPhases-event (Drain t) s after done = (Drains t ∷ [], (unlocked after, (tt, done, refl), refl))
  InPhases-event (Evict t x) s after done =
      let d = EventOccurrence-of_event program (Evict t x) s after done in
      absurd (not-EffectLeadsTo-evict_event program (length s.memory) t x d.from d.to s.memory d.words d.does)
  InPhases-event (Step t) s after done = InPhases-by_instruction (slice_get (thread_code program t) d.from.position) refl
    where
      -- The occurrence of the step.
      d : EventOccurrence program (Step t) s after
      d = EventOccurrence-of_event program (Step t) s after done

      -- If the next instruction is not locked, the step is one event with phases.
      InPhases-plain_step : (i : Instr)
          → slice_get (thread_code program t) d.from.position ≡ Some i
          → is_locked (x86_operation i) ≡ false
          → InPhases s after
      InPhases-plain_step i next is = (
        Steps t ∷ [],
        (
          unlocked after,
          record {
            processor = d.from;
            instr = i;
            processor_at = d.was;
            next = next;
            plain = is;
            outside = λ phase e. cc;
            unblocked = λ load. tt;
            done = done;
            lock = refl;
          },
          refl,
        ),
      )

      -- If the next instruction is locked, the step is its phases in sequence.
      InPhases-locked_step : (i : Instr)
          → slice_get (thread_code program t) d.from.position ≡ Some i
          → is_locked (x86_operation i) ≡ true
          → InPhases s after
      InPhases-locked_step i next is =
          let does = subst (λ o. EffectLeadsTo s.memory (step_effect o d.from) d.to d.words) next d.does in
          let empty = buffer_empty-if_locked (x86_operation i) d.from d.to s.memory d.words is does in
          let l = locked_by-of_locked (x86_operation i) d.from is in
          let at : IsAtLocked program s t (with_empty_buffer d.from) l.0 = record {
            processor_at = d.was ∙ ap (λ b. Some (record d.from { buffer = b })) empty;
            locked = subst (λ o. locked_by (step_effect o (with_empty_buffer d.from)) ≡ Some l.0) (sym next) l.1;
          } in
          subst (InPhases s) (sym (step_end-unique t s d.from l.0 at after done)) (InPhases-locked t s d.from l.0 at)

      -- By whether the next instruction is locked.
      InPhases-by_kind : (i : Instr)
          → slice_get (thread_code program t) d.from.position ≡ Some i
          → (b : Bool)
          → is_locked (x86_operation i) ≡ b
          → InPhases s after
      InPhases-by_kind i next true is = InPhases-locked_step i next is
      InPhases-by_kind i next false is = InPhases-plain_step i next is

      -- By the next instruction: there is one, since the step is enabled.
      InPhases-by_instruction : (o : Option Instr) → slice_get (thread_code program t) d.from.position ≡ o → InPhases s after
      InPhases-by_instruction None next =
          absurd (subst (λ o. EffectLeadsTo s.memory (step_effect o d.from) d.to d.words) next d.does)
      InPhases-by_instruction (Some i) next = InPhases-by_kind i next (is_locked (x86_operation i)) refl

  -- If events lead from s to `end`, events with locked instructions in phases do, with the lock free at both ends.
  pub InPhases-run : (es : List Event) (s end : MachineState (List ℕ))
      → MachineRunsTo flat_memory program es s end
      → InPhases s end
  InPhases-run [] s end ran = ([], ap unlocked ran)
  InPhases-run (e ∷ es) s end ran =
      let one = InPhases-event e s ran.0 ran.1 in
      let more = InPhases-run es ran.0 end ran.2 in
      (one.0 ++ more.0, PhasedRunsTo-append one.0 more.0 (unlocked s) (unlocked ran.0) (unlocked end) one.1 more.1)
