-- Invisible events, which conflict with no event of another thread, now or later. Used only within the crate.
use Rattle.std.specs.Prelude.{◌≡◌, ◌≢◌, ℕ, ◌<◌, ◌≤◌, ◌||◌, Bool, true, false, Option, Some, None, List, [], ◌∷◌, length, slice_get}
use Rattle.lw_base.specs.Threads.{thread_code}
use Rattle.lw_base.specs.declared.event.Event.{Event}
use Rattle.lw_base.specs.declared.event.Event.TheVariants.{Step, Drain, Evict}
use Rattle.lw_litmus.specs.declared.instr.Instr.{Instr}
use Rattle.lw_litmus.specs.declared.operation.Operation.{Operation}
use Rattle.lw_litmus.specs.declared.operation.Operation.TheVariants.{Load, Swap, FetchAdd}
use Rattle.lw_litmus.specs.Operations.{location_of, writes, IsSuccessor}
use Rattle.lw_litmus.specs.Programs.{x86_operation}
use Rattle.lw_tso.specs.EventEffects.{cpu_of}
use Rattle.lw_tso.specs.Processors.{Processor}
use Rattle.lw_search.specs.inner.StateKeys.{State}

-- The location that an operation accesses in memory, and whether it writes it; `None` if the operation accesses none. A store
-- accesses none: its word goes to the store buffer.
abbrev pub operation_access : Operation → Option (ℕ × Bool)
operation_access (Load d x) = Some (x, false)
operation_access (Swap d x a) = Some (x, true)
operation_access (FetchAdd d x v) = Some (x, true)
operation_access o = None

-- The access of the step of a thread with this next instruction. `None` at the end of its code.
abbrev pub step_access : Option Instr → Option (ℕ × Bool)
step_access None = None
step_access (Some i) = operation_access (x86_operation i)

-- The access of the drain of a store buffer: it writes the location of the oldest entry. `None` if the buffer is empty.
abbrev pub drain_access : List (ℕ × ℕ) → Option (ℕ × Bool)
drain_access [] = None
drain_access (entry ∷ newer) = Some (entry.0, true)

-- The access of an event of a thread in state p.
abbrev pub event_access : List Instr → Event → Processor → Option (ℕ × Bool)
event_access code (Step t) p = step_access (slice_get code p.position)
event_access code (Drain t) p = drain_access p.buffer
event_access code (Evict t x) p = None

-- No event of a thread in state p, now or later, conflicts with an access of location x that writes it (true) or reads it (false):
-- no entry of the store buffer is for x, and no instruction at or after the position accesses x, or writes x if the access reads it.
pub record NeverConflicts (code : List Instr) (p : Processor) (x : ℕ) (written : Bool) : Type 0 where
  pub entries : (k : ℕ) (entry : ℕ × ℕ) → slice_get p.buffer k ≡ Some entry → entry.0 ≢ x
  pub instructions : (j : ℕ) (i : Instr) → p.position ≤ j → slice_get code j ≡ Some i → location_of (x86_operation i) ≡ Some x
      → (written || writes (x86_operation i)) ≡ true → ⊥

module _ (program : List (List Instr)) where
  -- An access of thread t in state s is of a location of memory, and no event of another thread, now or later, conflicts with it.
  pub record IsUncontended (s : State) (t : ℕ) (access : ℕ × Bool) : Type 0 where
    pub in_range : access.0 < length s.memory
    pub others : (u : ℕ) (p : Processor) → u ≢ t → slice_get s.processors u ≡ Some p
        → NeverConflicts (thread_code program u) p access.0 access.1

  -- An event is invisible in state s: it accesses no memory, or its access is uncontended.
  abbrev pub IsInvisible : Event → State → Type 0
  IsInvisible e s =
      (p : Processor) (access : ℕ × Bool) → slice_get s.processors (cpu_of e) ≡ Some p
      → event_access (thread_code program (cpu_of e)) e p ≡ Some access → IsUncontended s (cpu_of e) access

  -- Each instruction of each thread leads only to later positions.
  abbrev pub IsForward : Type 0
  IsForward = (t k j : ℕ) (i : Instr) → slice_get (thread_code program t) k ≡ Some i → IsSuccessor (x86_operation i) k j → k < j
