-- Independent events of the flat machine, which commute if they are adjacent.
use Rattle.std.specs.Prelude.{◌≡◌, ◌≢◌, ℕ, Bool, false, Option, Some, None, Ok, List, [], ◌∷◌, length, slice_get}
use Rattle.lw_base.specs.Threads.{thread_code}
use Rattle.lw_base.specs.declared.event.Event.{Event}
use Rattle.lw_base.specs.declared.event.Event.TheVariants.{Step, Drain, Evict}
use Rattle.lw_memory.specs.Content.{is_write}
use Rattle.lw_memory.specs.Flat.{flat_memory}
use Rattle.lw_memory.specs.Memory.{Memory}
use Rattle.lw_litmus.specs.declared.instr.Instr.{Instr}
use Rattle.lw_litmus.specs.declared.operation.Operation.{Operation}
use Rattle.lw_litmus.specs.declared.operation.Operation.TheVariants.{Load}
use Rattle.lw_litmus.specs.Operations.{needs_empty_buffer}
use Rattle.lw_litmus.specs.Programs.{x86_operation}
use Rattle.lw_tso.specs.Processors.{Processor}
use Rattle.lw_tso.specs.EventEffects.{EventEffect, Refused, LocalStep, MemoryAccess, Eviction, cpu_of, event_effect}
use Rattle.lw_tso.specs.Machines.{MachineState, position_of, MachineTransition}

-- The location whose word an effect reads or writes, if it accesses one.
abbrev pub accessed_location : EventEffect → Option ℕ
accessed_location (Refused stop) = None
accessed_location (LocalStep next) = None
accessed_location (MemoryAccess x access next) = Some x
accessed_location (Eviction x) = None

-- Tests whether an effect writes the location that it accesses.
abbrev pub event_writes : EventEffect → Bool
event_writes (Refused stop) = false
event_writes (LocalStep next) = false
event_writes (MemoryAccess x access next) = is_write access
event_writes (Eviction x) = false

-- Two effects do not conflict: neither writes a location that both access.
abbrev pub DoNotConflict : EventEffect → EventEffect → Type 0
DoNotConflict a b = (x : ℕ) → accessed_location a ≡ Some x → accessed_location b ≡ Some x → (event_writes a ≡ false) × (event_writes b ≡ false)

-- The operation commutes with draining an entry for x: it needs no empty buffer and does not load x.
abbrev pub CommutesWithDrain : ℕ → Operation → Type 0
CommutesWithDrain x (Load d y) = x ≢ y
CommutesWithDrain x o = needs_empty_buffer o ≡ false

-- The buffer has an entry, and the instruction commutes with draining the oldest.
abbrev pub MayPassOldest : List (ℕ × ℕ) → Option Instr → Type 0
MayPassOldest [] i = ⊥
MayPassOldest (entry ∷ newer) None = ⊥
MayPassOldest (entry ∷ newer) (Some i) = CommutesWithDrain entry.0 (x86_operation i)

-- Two events of the processor p: a drain and an instruction that commutes with it, in either order.
abbrev pub AreDrainAndPassing : List (List Instr) → Event → Event → Processor → Type 0
AreDrainAndPassing program (Step t) (Drain u) p = MayPassOldest p.buffer (slice_get (thread_code program t) p.position)
AreDrainAndPassing program (Drain t) (Step u) p = MayPassOldest p.buffer (slice_get (thread_code program u) p.position)
AreDrainAndPassing program e f p = ⊥

-- Two events are independent in a state: of two processors, with effects that do not conflict; or of one, a drain and an instruction that
-- commutes with it.
pub record AreIndependent (program : List (List Instr)) (e f : Event) (s : MachineState (List ℕ)) : Type 0 where
  pub of_two : cpu_of e ≢ cpu_of f
      → (p q : Processor) → slice_get s.processors (cpu_of e) ≡ Some p → slice_get s.processors (cpu_of f) ≡ Some q
      → DoNotConflict (event_effect program (length s.memory) e p) (event_effect program (length s.memory) f q)
  pub of_one : cpu_of e ≡ cpu_of f → (p : Processor) → slice_get s.processors (cpu_of e) ≡ Some p → AreDrainAndPassing program e f p

-- The processor of a step is at this position. A drain and an eviction have none.
abbrev pub IsAtPosition : {M : Type 0} → Event → ℕ → MachineState M → Type 0
IsAtPosition (Step t) j s = position_of s t ≡ Some j
IsAtPosition (Drain t) j s = Unit {0}
IsAtPosition (Evict t x) j s = Unit {0}

-- The event is enabled, as a step at this position, and leads from one state to another.
pub record TransitionAt {M : Type 0} (mem : Memory M) (program : List (List Instr)) (e : Event) (j : ℕ) (s after : MachineState M) : Type 0 where
  pub is_at_position : IsAtPosition e j s
  pub done : MachineTransition mem program e s (Ok tt) after

-- If e followed by f leads to a state, so does f followed by e, each at the same position.
abbrev pub EventsCommute : List (List Instr) → Event → Event → MachineState (List ℕ) → Type 0
EventsCommute program e f s =
    (j k : ℕ) (mid end : MachineState (List ℕ)) → TransitionAt flat_memory program e j s mid → TransitionAt flat_memory program f k mid end
    → (other : MachineState (List ℕ)) × TransitionAt flat_memory program f k s other × TransitionAt flat_memory program e j other end
