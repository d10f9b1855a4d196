-- The machine over flat memory whose locked instructions execute in phases, as in the published abstract machine. The source is as in
-- Processors. There XCHG with memory and LOCK XADD are not single steps: such an instruction takes a global lock, reads, writes into the
-- store buffer, and releases the lock. A processor is blocked while another holds the lock. The published rules, by name:
--   Rm  if it is not blocked and its buffer has no entry for the location, a processor reads memory's word;
--   Rb  if it is not blocked, it reads its buffer's newest word for the location;
--   Wb  it enqueues a write in its buffer, at any time;
--   Wm  if it is not blocked, it drains the oldest entry of its buffer to memory;
--   B   it passes a fence if its buffer is empty;
--   L   it takes the lock and begins a locked instruction if nobody holds the lock, whatever is in its buffer;
--   U   it releases its lock and ends the locked instruction if its buffer is empty.
use Rattle.std.specs.Prelude.{◌≡◌, ◌≢◌, ℕ, true, false, IsTrue, Option, Some, None, Ok, List, [], ◌∷◌, ◌++◌}
use Rattle.std.specs.Prelude.{slice_get, slice_set, slice_index, unwrap_or}
use Rattle.lw_base.specs.Changes.{changed_word}
use Rattle.lw_base.specs.Outcomes.{FinalState}
use Rattle.lw_base.specs.Threads.{thread_code}
use Rattle.lw_base.specs.declared.event.Event.TheVariants.{Step, Drain}
use Rattle.lw_memory.specs.declared.request.Access.TheVariants as to
use Rattle.lw_memory.specs.Flat.{flat_memory}
use Rattle.lw_litmus.specs.declared.instr.Instr.{Instr}
use Rattle.lw_litmus.specs.Operations.{is_load, is_locked}
use Rattle.lw_litmus.specs.Programs.{x86_operation}
use Rattle.lw_litmus.specs.Tests.{X86Test}
use Rattle.lw_tso.specs.Processors.{Processor, newest_buffered}
use Rattle.lw_tso.specs.EventEffects.{EventEffect, MemoryAccess, step_effect}
use Rattle.lw_tso.specs.Machines.{MachineState, buffer_of, MachineTransition}
use Rattle.lw_tso.specs.Runs.{initial_machine_state, is_final, machine_outcome}

-- The progress of the locked instruction for which the lock is held.
pub data Phase : Type 0 where
  Begun : Phase  -- It has not read yet.
  HasRead : ℕ → Phase  -- It has read this word.
  HasWritten : Phase  -- It has written: the entry is in the buffer, or has drained to memory.

-- The global lock.
pub data Lock : Type 0 where
  Free : Lock  -- Nobody holds it.
  HeldBy : ℕ → Phase → Lock  -- This processor holds it.

-- The machine over flat memory, and the lock.
pub record PhasedState : Type 0 where
  pub machine : MachineState (List ℕ)
  pub lock : Lock

-- The events, each of one processor.
pub data PhasedEvent : Type 0 where
  Steps : ℕ → PhasedEvent  -- It executes an instruction that is not locked.
  Drains : ℕ → PhasedEvent  -- The oldest entry of its buffer drains to memory.
  Locks : ℕ → PhasedEvent  -- It takes the lock, for its next instruction.
  Reads : ℕ → PhasedEvent  -- Its locked instruction reads.
  Writes : ℕ → PhasedEvent  -- Its locked instruction writes.
  Unlocks : ℕ → PhasedEvent  -- It releases the lock.

-- No other processor holds the lock.
abbrev pub IsNotBlocked : Lock → ℕ → Type 0
IsNotBlocked Free t = Unit {0}
IsNotBlocked (HeldBy u phase) t = u ≡ t

-- The word that a processor reads: its newest buffered word for the location, or memory's if there is none.
abbrev pub read_value : List (ℕ × ℕ) → List ℕ → ℕ → ℕ
read_value buffer memory x = unwrap_or (newest_buffered buffer x) (slice_index memory x)

-- The effect of a locked instruction.
pub record Locked : Type 0 where
  pub location : ℕ
  pub leaves : ℕ → ℕ  -- The word that it writes, from the one that it reads.
  pub next : ℕ → Processor  -- Its processor after it, from the same word.

-- The locked instruction with this effect in one step, if it is one.
abbrev pub locked_by : EventEffect → Option Locked
locked_by (MemoryAccess x (to.Update change) next) = Some (record { location = x; leaves = changed_word change; next = next })
locked_by other = None

-- The processor with an empty buffer.
abbrev pub with_empty_buffer : Processor → Processor
with_empty_buffer p = record p { buffer = [] }

-- The processor after its locked instruction has read w and has enqueued its write after these entries. Its position, registers and flag,
-- which no other processor sees, are then those after the instruction.
abbrev pub after_locked_write : Locked → ℕ → List (ℕ × ℕ) → Processor
after_locked_write l w buffer = record (l.next w) { buffer = buffer ++ (l.location, l.leaves w) ∷ [] }

module _ (program : List (List Instr)) where
  -- The effect of a processor's next instruction, if it is a locked one: its row of EventEffects with an empty buffer.
  abbrev pub locked_next : ℕ → Processor → Option Locked
  locked_next t p = locked_by (step_effect (slice_get (thread_code program t) p.position) (with_empty_buffer p))

  -- Processor t is p, and this locked instruction is its next.
  pub record IsAtLocked (s : MachineState (List ℕ)) (t : ℕ) (p : Processor) (l : Locked) : Type 0 where
    pub processor_at : slice_get s.processors t ≡ Some p
    pub locked : locked_next t p ≡ Some l

  -- One step of EventEffects: the next instruction of a processor, which is not locked. The processor does not hold the lock, for then it
  -- would be within a locked instruction; and it loads only if it is not blocked.
  pub record PhasedStep (t : ℕ) (s after : PhasedState) : Type 0 where
    pub processor : Processor
    pub instr : Instr
    pub processor_at : slice_get s.machine.processors t ≡ Some processor
    pub next : slice_get (thread_code program t) processor.position ≡ Some instr
    pub plain : is_locked (x86_operation instr) ≡ false
    pub outside : (phase : Phase) → s.lock ≢ HeldBy t phase
    pub unblocked : is_load (x86_operation instr) ≡ true → IsNotBlocked s.lock t
    pub done : MachineTransition flat_memory program (Step t) s.machine (Ok tt) after.machine
    pub lock : after.lock ≡ s.lock

  -- An event is enabled, and leads from one state to another. Each row is followed by the published rules that it represents.
  abbrev pub PhasedTransition : PhasedEvent → PhasedState → PhasedState → Type 0
  -- Rm, Rb, Wb and B, and instructions without memory access
  PhasedTransition (Steps t) s after = PhasedStep t s after
  PhasedTransition (Drains t) s after =  -- Wm
      IsNotBlocked s.lock t × MachineTransition flat_memory program (Drain t) s.machine (Ok tt) after.machine × (after.lock ≡ s.lock)
  PhasedTransition (Locks t) s after =  -- L
      (p : Processor) × (l : Locked) × IsAtLocked s.machine t p l
      × (s.lock ≡ Free)
      × (after ≡ record { machine = s.machine; lock = HeldBy t Begun })
  -- Rm, Rb: the holder of the lock is not blocked
  PhasedTransition (Reads t) s after =
      (p : Processor) × (l : Locked) × IsAtLocked s.machine t p l
      × (s.lock ≡ HeldBy t Begun)
      × (after ≡ record { machine = s.machine; lock = HeldBy t (HasRead (read_value p.buffer s.machine.memory l.location)) })
  PhasedTransition (Writes t) s after =  -- Wb
      (p : Processor) × (l : Locked) × (w : ℕ) × IsAtLocked s.machine t p l
      × (s.lock ≡ HeldBy t (HasRead w))
      × (after ≡ record {
        machine = record {
          processors = slice_set s.machine.processors t (after_locked_write l w p.buffer);
          memory = s.machine.memory;
        };
        lock = HeldBy t HasWritten;
      })
  PhasedTransition (Unlocks t) s after =  -- U
      (s.lock ≡ HeldBy t HasWritten) × (buffer_of s.machine t ≡ []) × (after ≡ record { machine = s.machine; lock = Free })

  -- The events lead from one state to another, each being enabled in its turn.
  abbrev pub PhasedRunsTo : List PhasedEvent → PhasedState → PhasedState → Type 0
  PhasedRunsTo [] s end = end ≡ s
  PhasedRunsTo (e ∷ es) s end = (mid : PhasedState) × PhasedTransition e s mid × PhasedRunsTo es mid end

-- The state in which nobody holds the lock.
abbrev pub unlocked : MachineState (List ℕ) → PhasedState
unlocked s = record { machine = s; lock = Free }

-- These events lead from the initial state of a test to this outcome: to a state in which all threads have terminated, all buffers are
-- empty and nobody holds the lock.
pub record ReplaysInPhases (test : X86Test) (events : List PhasedEvent) (o : FinalState) : Type 0 where
  pub end : MachineState (List ℕ)
  pub ran : PhasedRunsTo test.threads events (unlocked (initial_machine_state test test.head.init_words)) (unlocked end)
  pub final : IsTrue (is_final test.threads end)
  pub outcome_is : o ≡ machine_outcome flat_memory end

-- Some list of events leads from the initial state of the test to the outcome.
abbrev pub OutcomeInPhases : X86Test → FinalState → Type 0
OutcomeInPhases test o = (events : List PhasedEvent) × ReplaysInPhases test events o
