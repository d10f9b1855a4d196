-- A run with the phases of locked instructions is a run of the machine over flat memory: a locked instruction happens at the drain of its
-- write. Until then the machine is before the instruction, and what was read is still what it would read, since nobody else drains. One
-- direction of the law that phases of locked instructions change no outcome; IntoPhases has the other.
use Rattle.lw_tso.proofs.Common.{IsWellScopedThread, ◌≡◌, ◌≢◌, ℕ, ◌<◌, List, [], ◌∷◌, ◌++◌, length, Ok, Some}
use Rattle.lw_tso.proofs.Common.{refl, sym, ap, ◌∙◌, subst, arith, slice_get, slice_set, slice_index, set-set}
use Rattle.lw_tso.proofs.Common.{set_comm, same_Some, slice_get-slice_set_same, slice_get-slice_set_other}
use Rattle.lw_tso.proofs.Common.{thread_code, Event, Step, Drain, flat_memory, Instr, All, x86_language}
use Rattle.lw_tso.proofs.Common.{x86_operation, Processor, step_effect, event_effect, MachineState, buffer_of}
use Rattle.lw_tso.proofs.Common.{MachineTransition, MachineRunsTo, RunsTo-append, Phase, Begun, HasRead}
use Rattle.lw_tso.proofs.Common.{HasWritten, Lock, Free, HeldBy, PhasedState, PhasedEvent, Steps, Drains}
use Rattle.lw_tso.proofs.Common.{Locks, Reads, Writes, Unlocks, IsNotBlocked, Locked, with_empty_buffer}
use Rattle.lw_tso.proofs.Common.{read_value, after_locked_write, locked_next, IsAtLocked, PhasedStep}
use Rattle.lw_tso.proofs.Common.{PhasedTransition, PhasedRunsTo, unlocked}
use Rattle.lw_tso.proofs.LockedSteps.{DoesAs-locked, location_in_range-of_locked, memory_same-plain_operation}
use Rattle.lw_tso.proofs.LockedSteps.{DrainParts, DrainParts-of_drain, read_value-after_drain}
use Rattle.lw_tso.proofs.LockedSteps.{length_memory-effect, buffer_empty-after_locked_step}
use Rattle.lw_tso.proofs.IntoPhases.{buffer_of-in_range}
use Rattle.lw_tso.proofs.api.Effects.{state, EffectLeadsTo, EventOccurrence, MachineTransition-deterministic}
use Rattle.lw_tso.proofs.api.Effects.{MachineTransition-of_effect, EventOccurrence-of_event}

-- A list that ends with an item is not empty.
not-append_last_nil : {X : Type 0} (xs : List X) (x : X) → xs ++ x ∷ [] ≡ [] → ⊥
not-append_last_nil [] x e = cc
not-append_last_nil (y ∷ xs) x e = cc

module _ (program : List (List Instr)) where
  -- What the lock's holder has read is what it would read in this state; true if nobody holds the lock, or its holder has not
  -- read, or has written.
  abbrev IsStillRead : Lock → MachineState (List ℕ) → Type 0
  IsStillRead (HeldBy t (HasRead w)) m =
      (p : Processor) (l : Locked) → IsAtLocked program m t p l → read_value p.buffer m.memory l.location ≡ w
  IsStillRead _ m = Unit {0}

  -- The lock's holder has written, and its write is in its buffer, after older entries: the state m of the machine is the one before the
  -- instruction.
  record IsPending (s : PhasedState) (m : MachineState (List ℕ)) : Type 0 where
    cpu : ℕ
    from : Processor
    older : List (ℕ × ℕ)
    locked : Locked
    word : ℕ
    lock : s.lock ≡ HeldBy cpu HasWritten
    was : slice_get m.processors cpu ≡ Some (record from { buffer = older })
    next : locked_next program cpu from ≡ Some locked
    read : read_value older m.memory locked.location ≡ word
    machine_is : s.machine ≡ state (slice_set m.processors cpu (after_locked_write locked word older)) m.memory

  -- The state m of the machine corresponds to a state with phases: it is the same state, and what was read is what would still
  -- be read; or it is the one before an instruction whose write is pending.
  data Follows (s : PhasedState) (m : MachineState (List ℕ)) : Type 0 where
    Same : s.machine ≡ m → IsStillRead s.lock m → Follows s m
    Before : IsPending s m → Follows s m

  -- A step of an instruction that is not locked leaves the memory unchanged.
  memory_same-plain_step : (t : ℕ) (s after : PhasedState) (st : PhasedStep program t s after)
      (d : EventOccurrence program (Step t) s.machine after.machine)
      → d.words ≡ s.machine.memory
  memory_same-plain_step t s after st d =
      let same = same_Some d.from st.processor (sym d.was ∙ st.processor_at) in
      let next = ap (λ (p : Processor). slice_get (thread_code program t) p.position) same ∙ st.next in
      memory_same-plain_operation (x86_operation st.instr) d.from d.to s.machine.memory d.words st.plain
      (subst (λ o. EffectLeadsTo s.machine.memory (step_effect o d.from) d.to d.words) next d.does)

  -- An enabled event over flat memory does not change the number of words.
  length_memory-event : (e : Event) (s after : MachineState (List ℕ))
      → MachineTransition flat_memory program e s (Ok tt) after
      → length after.memory ≡ length s.memory
  length_memory-event e s after done =
      let d = EventOccurrence-of_event program e s after done in
      ap (λ (z : MachineState (List ℕ)). length z.memory) d.state_is
      ∙ length_memory-effect s.memory (event_effect program (length s.memory) e d.from) d.to d.words d.does

  module _ (locs : ℕ) (threads : All (IsWellScopedThread x86_language locs) program) where
    -- From the state m some events lead the machine to a state that corresponds to `after`.
    record MachineFollowsPhases (after : PhasedState) (m : MachineState (List ℕ)) : Type 0 where
      events : List Event
      end : MachineState (List ℕ)
      ran : MachineRunsTo flat_memory program events m end
      follows : Follows after end
      sized : length end.memory ≡ locs

    -- If the machine's state already corresponds to the state with phases, the machine follows without an event.
    MachineFollowsPhases-no_event : (after : PhasedState) (m : MachineState (List ℕ))
        → length m.memory ≡ locs
        → Follows after m
        → MachineFollowsPhases after m
    MachineFollowsPhases-no_event after m sized follows =
        record { events = []; end = m; ran = refl; follows = follows; sized = sized }

    -- If one event leads the machine to a corresponding state, the machine follows by this event.
    MachineFollowsPhases-one_event : (after : PhasedState) (e : Event) (m n : MachineState (List ℕ))
        → length m.memory ≡ locs
        → MachineTransition flat_memory program e m (Ok tt) n
        → Follows after n
        → MachineFollowsPhases after m
    MachineFollowsPhases-one_event after e m n sized done follows = record {
      events = e ∷ [];
      end = n;
      ran = (n, done, refl);
      follows = follows;
      sized = length_memory-event e m n done ∙ sized;
    }

    -- ---- the machine is at the same state

    module _ (s after : PhasedState) (sized : length s.machine.memory ≡ locs) where
      -- If what was read is what would still be read, the machine follows the step of an instruction that is not locked by the
      -- same step, which leaves memory and the lock holder's processor unchanged.
      MachineFollowsPhases-step : (t : ℕ)
          → IsStillRead s.lock s.machine
          → PhasedStep program t s after
          → MachineFollowsPhases after s.machine
      MachineFollowsPhases-step t read st =
          MachineFollowsPhases-one_event after (Step t) s.machine after.machine sized st.done (Same refl still)
        where
          -- The occurrence of the step in the machine.
          d : EventOccurrence program (Step t) s.machine after.machine
          d = EventOccurrence-of_event program (Step t) s.machine after.machine st.done

          -- The step leaves the memory unchanged.
          memory : after.machine.memory ≡ s.machine.memory
          memory = ap (λ (z : MachineState (List ℕ)). z.memory) d.state_is ∙ memory_same-plain_step t s after st d

          -- A word that another processor has read is what it would still read after the step.
          kept : (lock : Lock)
              → ((phase : Phase) → lock ≢ HeldBy t phase)
              → IsStillRead lock s.machine
              → IsStillRead lock after.machine
          kept (HeldBy u (HasRead w)) outside was = λ p l at.
              let ne : t ≢ u = λ e. outside (HasRead w) (ap (λ v. HeldBy v (HasRead w)) (sym e)) in
              let there =
              sym (slice_get-slice_set_other s.machine.processors t u d.to ne)
              ∙ ap (λ (z : MachineState (List ℕ)). slice_get z.processors u) (sym d.state_is)
              ∙ at.processor_at in
              ap (λ words. read_value p.buffer words l.location) memory
              ∙ was p l (record { processor_at = there; locked = at.locked })
          kept _ outside was = tt

          -- What the lock's holder has read is what it would read after the step.
          still : IsStillRead after.lock after.machine
          still = subst (λ lock. IsStillRead lock after.machine) (sym st.lock) (kept s.lock st.outside read)

      -- If what was read is what would still be read, the machine follows a drain by the same drain. While a thread holds the
      -- lock only this thread drains, and its own drain does not change the word that it would read.
      MachineFollowsPhases-drain : (t : ℕ)
          → IsStillRead s.lock s.machine
          → PhasedTransition program (Drains t) s after
          → MachineFollowsPhases after s.machine
      MachineFollowsPhases-drain t read done =
          MachineFollowsPhases-one_event after (Drain t) s.machine after.machine sized done.1 (Same refl still)
        where
          -- The occurrence of the drain in the machine.
          d : EventOccurrence program (Drain t) s.machine after.machine
          d = EventOccurrence-of_event program (Drain t) s.machine after.machine done.1

          -- The entry that was drained, and the newer ones.
          drain : DrainParts s.machine.memory d.from d.to d.words
          drain = DrainParts-of_drain s.machine.memory d.from d.to d.words d.does

          -- The word that the drain's own processor has read is what it would still read after the drain.
          kept : (lock : Lock) → IsNotBlocked lock t → IsStillRead lock s.machine → IsStillRead lock after.machine
          kept (HeldBy u (HasRead w)) own was = λ p l at.
              let now : slice_get after.machine.processors t ≡ Some d.to =
              ap (λ (z : MachineState (List ℕ)). slice_get z.processors t) d.state_is
              ∙ slice_get-slice_set_same s.machine.processors t d.to d.from d.was in
              let here : slice_get after.machine.processors t ≡ Some p =
              subst (λ v. slice_get after.machine.processors v ≡ Some p) own at.processor_at in
              let is : p ≡ record d.from { buffer = drain.newer } = same_Some p d.to (sym here ∙ now) ∙ drain.processor_is in
              let locked : locked_next program t d.from ≡ Some l =
              subst (λ v. locked_next program v d.from ≡ Some l) own
              (subst (λ q. locked_next program u q ≡ Some l) is at.locked) in
              let lt : l.location < length s.machine.memory =
              omega (arith, location_in_range-of_locked program locs threads t d.from l locked, sized) in
              let before : read_value d.from.buffer s.machine.memory l.location ≡ w = was d.from l (record {
                processor_at = subst (λ v. slice_get s.machine.processors v ≡ Some d.from) (sym own) d.was;
                locked = subst (λ v. locked_next program v d.from ≡ Some l) (sym own) locked;
              }) in
              ap (λ (q : Processor). read_value q.buffer after.machine.memory l.location) is
              ∙ ap (λ words. read_value drain.newer words l.location)
              (ap (λ (z : MachineState (List ℕ)). z.memory) d.state_is ∙ drain.words)
              ∙ read_value-after_drain s.machine.memory drain.entry drain.newer l.location lt
              ∙ ap (λ b. read_value b s.machine.memory l.location) (sym drain.buffer_is)
              ∙ before
          kept _ own was = tt

          -- What the lock's holder has read is what it would read after the drain.
          still : IsStillRead after.lock after.machine
          still = subst (λ lock. IsStillRead lock after.machine) (sym done.2) (kept s.lock done.0 read)

      -- If an event changes only the lock, and what the holder of the new lock has read is what it would read, the machine
      -- follows without an event.
      MachineFollowsPhases-lock_only : (lock : Lock)
          → after ≡ record { machine = s.machine; lock = lock }
          → IsStillRead lock s.machine
          → MachineFollowsPhases after s.machine
      MachineFollowsPhases-lock_only lock is read =
          MachineFollowsPhases-no_event after s.machine sized
          (subst (λ (z : PhasedState). Follows z s.machine) (sym is) (Same refl read))

      -- The read of a locked instruction needs no event of the machine: the lock records the word that its processor would read.
      MachineFollowsPhases-read : (t : ℕ) → PhasedTransition program (Reads t) s after → MachineFollowsPhases after s.machine
      MachineFollowsPhases-read t done =
          MachineFollowsPhases-lock_only (HeldBy t (HasRead (read_value done.0.buffer s.machine.memory done.1.location))) done.4
          (λ p l at.
          let same : done.0 ≡ p = same_Some done.0 p (sym done.2.processor_at ∙ at.processor_at) in
          let one : done.1 ≡ l = same_Some done.1 l (sym done.2.locked ∙ ap (locked_next program t) same ∙ at.locked) in
          ap (λ (q : Processor). read_value q.buffer s.machine.memory l.location) (sym same)
          ∙ ap (λ (k : Locked). read_value done.0.buffer s.machine.memory k.location) (sym one))

      -- The write of a locked instruction needs no event of the machine, which is from now on before the instruction, with the write
      -- pending.
      MachineFollowsPhases-write : (t : ℕ)
          → IsStillRead s.lock s.machine
          → PhasedTransition program (Writes t) s after
          → MachineFollowsPhases after s.machine
      MachineFollowsPhases-write t read done = MachineFollowsPhases-no_event after s.machine sized (Before (record {
        cpu = t;
        from = done.0;
        older = done.0.buffer;
        locked = done.1;
        word = done.2;
        lock = ap (λ (z : PhasedState). z.lock) done.5;
        was = done.3.processor_at;
        next = done.3.locked;
        read = subst (λ lock. IsStillRead lock s.machine) done.4 read done.0 done.1 done.3;
        machine_is = ap (λ (z : PhasedState). z.machine) done.5;
      }))

      -- If the machine is at the same state, it follows each event with phases.
      MachineFollowsPhases-still_read : (e : PhasedEvent)
          → IsStillRead s.lock s.machine
          → PhasedTransition program e s after
          → MachineFollowsPhases after s.machine
      MachineFollowsPhases-still_read (Steps t) read done = MachineFollowsPhases-step t read done
      MachineFollowsPhases-still_read (Drains t) read done = MachineFollowsPhases-drain t read done
      MachineFollowsPhases-still_read (Locks t) read done = MachineFollowsPhases-lock_only (HeldBy t Begun) done.4 tt
      MachineFollowsPhases-still_read (Reads t) read done = MachineFollowsPhases-read t done
      MachineFollowsPhases-still_read (Writes t) read done = MachineFollowsPhases-write t read done
      MachineFollowsPhases-still_read (Unlocks t) read done = MachineFollowsPhases-lock_only Free done.2 tt

    -- ---- the machine is at the state before the locked instruction

    module _ (s after : PhasedState) (m : MachineState (List ℕ)) (sized : length m.memory ≡ locs) (pending : IsPending s m) where
      open pending use {cpu, from, older, locked, word}

      -- If a write is pending, the machine follows the step of another thread by the same step, and the write is still pending.
      before_step : (t : ℕ) → PhasedStep program t s after → MachineFollowsPhases after m
      before_step t st = MachineFollowsPhases-one_event after (Step t) m n sized way (Before still)
        where
          -- The step is of another processor than the lock's holder.
          other_cpu : cpu ≢ t
          other_cpu = λ e. st.outside HasWritten (pending.lock ∙ ap (λ u. HeldBy u HasWritten) e)

          -- The occurrence of the step in the machine of the state with phases.
          d : EventOccurrence program (Step t) s.machine after.machine
          d = EventOccurrence-of_event program (Step t) s.machine after.machine st.done

          -- Both machines have the same memory.
          memory : s.machine.memory ≡ m.memory
          memory = ap (λ (z : MachineState (List ℕ)). z.memory) pending.machine_is

          -- The processor of the step is in the state m as it is in the state with phases.
          there : slice_get m.processors t ≡ Some d.from
          there =
              sym (slice_get-slice_set_other m.processors cpu t (after_locked_write locked word older) other_cpu)
              ∙ ap (λ (z : MachineState (List ℕ)). slice_get z.processors t) (sym pending.machine_is)
              ∙ d.was

          -- The state m after the step.
          n : MachineState (List ℕ)
          n = state (slice_set m.processors t d.to) d.words

          -- The step leads from m to n.
          way : MachineTransition flat_memory program (Step t) m (Ok tt) n
          way =
              MachineTransition-of_effect program (Step t) m.processors d.from d.to m.memory d.words there
              (subst
              (λ words. EffectLeadsTo words (step_effect (slice_get (thread_code program t) d.from.position) d.from) d.to d.words)
              memory d.does)

          -- After the step the write is still pending.
          still : IsPending after n
          still = record {
            cpu = cpu;
            from = from;
            older = older;
            locked = locked;
            word = word;
            lock = st.lock ∙ pending.lock;
            was = slice_get-slice_set_other m.processors t cpu d.to (λ e. other_cpu (sym e)) ∙ pending.was;
            next = pending.next;
            read =
                ap (λ words. read_value older words locked.location) (memory_same-plain_step t s after st d ∙ memory)
                ∙ pending.read;
            machine_is =
                d.state_is
                ∙ ap (λ (z : MachineState (List ℕ)). state (slice_set z.processors t d.to) d.words) pending.machine_is
                ∙ ap (λ ps. state ps d.words) (set_comm m.processors cpu t (after_locked_write locked word older) d.to other_cpu);
          }

      -- The drain of an older entry, and that of the write itself.
      module _ (lock : after.lock ≡ HeldBy cpu HasWritten) where
        -- The lock's holder, before the instruction, has this buffer in the state m.
        abbrev HasBuffer : List (ℕ × ℕ) → Type 0
        HasBuffer buffer = slice_get m.processors cpu ≡ Some (record from { buffer = buffer })

        -- The machine of the state with phases, if the locked instruction has read the word w, and its write follows the entries `buffer`.
        abbrev writing : List (ℕ × ℕ) → ℕ → MachineState (List ℕ)
        writing buffer w = state (slice_set m.processors cpu (after_locked_write locked w buffer)) m.memory

        -- If an entry before the write is drained, the machine drains it too, and the write is still pending.
        drain_older : (entry : ℕ × ℕ) (newer : List (ℕ × ℕ))
            → HasBuffer (entry ∷ newer)
            → read_value (entry ∷ newer) m.memory locked.location ≡ word
            → MachineTransition flat_memory program (Drain cpu) (writing (entry ∷ newer) word) (Ok tt) after.machine
            → MachineFollowsPhases after m
        drain_older entry newer was read done = MachineFollowsPhases-one_event after (Drain cpu) m n sized way (Before still)
          where
            -- The words after the drain.
            words : List ℕ
            words = slice_set m.memory entry.0 entry.1

            -- The lock's holder with the entries and its write in the buffer.
            full : Processor
            full = after_locked_write locked word (entry ∷ newer)

            -- The lock's holder after the drain, in the state with phases.
            fewer : Processor
            fewer = after_locked_write locked word newer

            -- The lock's holder after the drain, before the instruction.
            drained_from : Processor
            drained_from = record from { buffer = newer }

            -- The state m after the drain.
            n : MachineState (List ℕ)
            n = state (slice_set m.processors cpu drained_from) words

            -- The step of the instruction leads from m to n.
            way : MachineTransition flat_memory program (Drain cpu) m (Ok tt) n
            way =
                MachineTransition-of_effect program (Drain cpu) m.processors (record from { buffer = entry ∷ newer }) drained_from
                m.memory words was (refl, refl)

            -- The drain of the write in the machine of the state with phases leads to the state with `drained`.
            expected : MachineTransition flat_memory program (Drain cpu) (writing (entry ∷ newer) word) (Ok tt)
                (state (slice_set (slice_set m.processors cpu full) cpu fewer) words)
            expected =
                MachineTransition-of_effect program (Drain cpu) (slice_set m.processors cpu full) full fewer m.memory words
                (slice_get-slice_set_same m.processors cpu full (record from { buffer = entry ∷ newer }) was) (refl, refl)

            -- The location of the locked instruction exists.
            location_in_range : locked.location < length m.memory
            location_in_range =
                omega (arith, location_in_range-of_locked program locs threads cpu from locked pending.next, sized)

            -- After the drain the write is still pending.
            still : IsPending after n
            still = record {
              cpu = cpu;
              from = from;
              older = newer;
              locked = locked;
              word = word;
              lock = lock;
              was = slice_get-slice_set_same m.processors cpu drained_from (record from { buffer = entry ∷ newer }) was;
              next = pending.next;
              read = read_value-after_drain m.memory entry newer locked.location location_in_range ∙ read;
              machine_is =
                  (MachineTransition-deterministic program (Drain cpu) (writing (entry ∷ newer) word) after.machine _ (Ok tt)
                  (Ok tt) done expected).1
                  ∙ ap (λ ps. state ps words)
                  (set-set m.processors cpu full fewer ∙ sym (set-set m.processors cpu drained_from fewer));
            }

        -- If the write itself is drained, the machine executes the locked instruction in one step, and reaches the same state.
        drain_write : HasBuffer []
            → MachineTransition flat_memory program (Drain cpu) (writing [] (slice_index m.memory locked.location)) (Ok tt)
            after.machine
            → MachineFollowsPhases after m
        drain_write was done = MachineFollowsPhases-one_event after (Step cpu) m n sized way (Same machine_eq still)
          where
            -- The word that the locked instruction reads.
            w : ℕ
            w = slice_index m.memory locked.location

            -- The words after the instruction.
            words : List ℕ
            words = slice_set m.memory locked.location (locked.leaves w)

            -- The lock's holder with only its write in the buffer.
            full : Processor
            full = after_locked_write locked w []

            -- The lock's holder after the drain of its write.
            drained : Processor
            drained = record (locked.next w) { buffer = [] }

            -- The state m after the instruction.
            n : MachineState (List ℕ)
            n = state (slice_set m.processors cpu (locked.next w)) words

            way : MachineTransition flat_memory program (Step cpu) m (Ok tt) n
            way =
                MachineTransition-of_effect program (Step cpu) m.processors (with_empty_buffer from) (locked.next w) m.memory
                words was
                (DoesAs-locked m.memory (step_effect (slice_get (thread_code program cpu) from.position) (with_empty_buffer from))
                locked pending.next)

            expected : MachineTransition flat_memory program (Drain cpu) (writing [] w) (Ok tt)
                (state (slice_set (slice_set m.processors cpu full) cpu drained) words)
            expected =
                MachineTransition-of_effect program (Drain cpu) (slice_set m.processors cpu full) full drained m.memory words
                (slice_get-slice_set_same m.processors cpu full (with_empty_buffer from) was) (refl, refl)

            -- The processor after the drain is the one after the instruction, whose buffer is empty.
            same_processor : drained ≡ locked.next w
            same_processor =
                ap (λ b. record (locked.next w) { buffer = b })
                (sym (buffer_empty-after_locked_step (slice_get (thread_code program cpu) from.position) from locked w
                pending.next))

            -- The drain of the write leads to n too, since drains are deterministic.
            machine_eq : after.machine ≡ n
            machine_eq =
                (MachineTransition-deterministic program (Drain cpu) (writing [] w) after.machine _ (Ok tt) (Ok tt) done
                expected).1
                ∙ ap (λ ps. state ps words)
                (set-set m.processors cpu full drained ∙ ap (slice_set m.processors cpu) same_processor)

            -- A holder that has written has nothing that it would still read.
            still : IsStillRead after.lock n
            still = subst (λ k. IsStillRead k n) (sym lock) tt

        -- The machine follows a drain of the lock's holder: of the oldest entry before the write, or of the write if there is none.
        MachineFollowsPhases-drain_of_write : (buffer : List (ℕ × ℕ))
            → HasBuffer buffer
            → read_value buffer m.memory locked.location ≡ word
            → MachineTransition flat_memory program (Drain cpu) (writing buffer word) (Ok tt) after.machine
            → MachineFollowsPhases after m
        MachineFollowsPhases-drain_of_write [] was read done =
            drain_write was
            (subst (λ w. MachineTransition flat_memory program (Drain cpu) (writing [] w) (Ok tt) after.machine) (sym read) done)
        MachineFollowsPhases-drain_of_write (entry ∷ newer) was read done = drain_older entry newer was read done

      -- If a write is pending, the machine follows a drain, since nobody drains but the lock's holder.
      before_drain : (t : ℕ) → PhasedTransition program (Drains t) s after → MachineFollowsPhases after m
      before_drain t done =
          let own : cpu ≡ t = subst (λ lock. IsNotBlocked lock t) pending.lock done.0 in
          MachineFollowsPhases-drain_of_write (done.2 ∙ pending.lock) older pending.was pending.read
          (subst (λ z. MachineTransition flat_memory program (Drain cpu) z (Ok tt) after.machine) pending.machine_is
          (subst (λ u. MachineTransition flat_memory program (Drain u) s.machine (Ok tt) after.machine) (sym own) done.1))

      -- If a write is pending, the lock cannot be released, since the write is in the buffer: so the machine follows.
      before_unlock : (t : ℕ) → PhasedTransition program (Unlocks t) s after → MachineFollowsPhases after m
      before_unlock t done =
          let held : HeldBy cpu HasWritten ≡ HeldBy t HasWritten = sym pending.lock ∙ done.0 in
          let own : cpu ≡ t = cc in
          let full = after_locked_write locked word older in
          let there : slice_get s.machine.processors cpu ≡ Some full =
          ap (λ (z : MachineState (List ℕ)). slice_get z.processors cpu) pending.machine_is
          ∙ slice_get-slice_set_same m.processors cpu full (record from { buffer = older }) pending.was in
          let none : buffer_of s.machine cpu ≡ [] = subst (λ u. buffer_of s.machine u ≡ []) (sym own) done.1 in
          absurd (not-append_last_nil older (locked.location, locked.leaves word)
          (sym (buffer_of-in_range s.machine cpu full there) ∙ none))

      -- If a write is pending and the lock is not the one of a holder that has written, anything follows: the lock is that one.
      other_phase : {X : Type 0} (lock : Lock) → s.lock ≡ lock → (HeldBy cpu HasWritten ≡ lock → ⊥) → X
      other_phase lock is not = absurd (not (sym pending.lock ∙ is))

      -- If a write is pending, the machine follows each event with phases.
      before_follow : (e : PhasedEvent) → PhasedTransition program e s after → MachineFollowsPhases after m
      before_follow (Steps t) done = before_step t done
      before_follow (Drains t) done = before_drain t done
      before_follow (Locks t) done = other_phase Free done.3 (λ e. cc)
      before_follow (Reads t) done = other_phase (HeldBy t Begun) done.3 (λ e. cc)
      before_follow (Writes t) done = other_phase (HeldBy t (HasRead done.2)) done.4 (λ e. cc)
      before_follow (Unlocks t) done = before_unlock t done

    -- ---- a run

    -- If m corresponds to a state s with phases, the machine follows each event with phases from s.
    MachineFollowsPhases-any_event : (e : PhasedEvent) (s after : PhasedState) (m : MachineState (List ℕ))
        → length m.memory ≡ locs
        → Follows s m
        → PhasedTransition program e s after
        → MachineFollowsPhases after m
    MachineFollowsPhases-any_event e s after m sized (Same is read) done =
        let sized' : length s.machine.memory ≡ locs = ap (λ (z : MachineState (List ℕ)). length z.memory) is ∙ sized in
        subst (MachineFollowsPhases after) is
        (MachineFollowsPhases-still_read s after sized' e (subst (IsStillRead s.lock) (sym is) read) done)
    MachineFollowsPhases-any_event e s after m sized (Before pending) done = before_follow s after m sized pending e done

    -- If the machine follows to one state, and from there to another, its events in sequence follow to the other.
    MachineFollowsPhases-trans : (after end : PhasedState) (m : MachineState (List ℕ)) (first : MachineFollowsPhases after m)
        → MachineFollowsPhases end first.end
        → MachineFollowsPhases end m
    MachineFollowsPhases-trans after end m first more = record {
      events = first.events ++ more.events;
      end = more.end;
      ran =
          RunsTo-append (MachineTransition flat_memory program) first.events more.events m first.end more.end first.ran more.ran;
      follows = more.follows;
      sized = more.sized;
    }

    -- If m corresponds to a state s with phases, the machine follows each run with phases from s.
    MachineFollowsPhases-run : (es : List PhasedEvent) (s end : PhasedState) (m : MachineState (List ℕ))
        → length m.memory ≡ locs
        → Follows s m
        → PhasedRunsTo program es s end
        → MachineFollowsPhases end m
    MachineFollowsPhases-run [] s end m sized follows ran =
        subst (λ z. MachineFollowsPhases z m) (sym ran) (MachineFollowsPhases-no_event s m sized follows)
    MachineFollowsPhases-run (e ∷ es) s end m sized follows ran =
        let first = MachineFollowsPhases-any_event e s ran.0 m sized follows ran.1 in
        MachineFollowsPhases-trans ran.0 end m first
        (MachineFollowsPhases-run es ran.0 end first.end first.sized first.follows ran.2)

    -- If m corresponds to a state in which nobody holds the lock, it is that state's machine.
    machine_eq-unlocked : (end m : MachineState (List ℕ)) → Follows (unlocked end) m → end ≡ m
    machine_eq-unlocked end m (Same is read) = is
    machine_eq-unlocked end m (Before pending) = absurd (let e : Free ≡ HeldBy pending.cpu HasWritten = pending.lock in cc)

    -- If nobody holds the lock at either end of a run with phases, some events of the machine lead from its start to its end.
    pub MachineRunsTo-of_phases : (es : List PhasedEvent) (s end : MachineState (List ℕ))
        → length s.memory ≡ locs
        → PhasedRunsTo program es (unlocked s) (unlocked end)
        → (events : List Event) × MachineRunsTo flat_memory program events s end
    MachineRunsTo-of_phases es s end sized ran =
        let all = MachineFollowsPhases-run es (unlocked s) (unlocked end) s sized (Same refl tt) ran in (
          all.events,
          subst (λ z. MachineRunsTo flat_memory program all.events s z) (sym (machine_eq-unlocked end all.end all.follows))
              all.ran,
        )
