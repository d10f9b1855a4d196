-- The machine: processors over a memory, and the transition relation of its events. An effect uses the memory's own relation, so there is
-- one definition for every memory system.
use Rattle.std.specs.Prelude.{◌≡◌, ℕ, Bool, true, false, Option, Some, None, Result, Ok, Err, List, [], length, map, slice_get, slice_set, slice_index_or, unwrap_or}
use Rattle.lw_base.specs.declared.event.Event.{Event}
use Rattle.lw_base.specs.declared.stop.Stop.{Stop}
use Rattle.lw_base.specs.declared.stop.Stop.TheVariants.{NoCpu, NotHeld}
use Rattle.lw_memory.specs.declared.request.Request.TheVariants.{Ask, Evict}
use Rattle.lw_memory.specs.Memory.{Memory, is_held}
use Rattle.lw_litmus.specs.declared.instr.Instr.{Instr}
use Rattle.lw_tso.specs.Processors.{Processor}
use Rattle.lw_tso.specs.EventEffects.{EventEffect, Refused, LocalStep, MemoryAccess, Eviction, cpu_of, event_effect}

-- A state of the machine: its processors, one for each thread, and the state of its memory.
pub record MachineState (M : Type 0) : Type 0 where
  pub processors : List Processor
  pub memory : M

-- The entries of a processor's store buffer, the oldest first.
abbrev pub buffer_of : {M : Type 0} → MachineState M → ℕ → List (ℕ × ℕ)
buffer_of s t = slice_index_or (map (λ p. p.buffer) s.processors) t []

-- The position of a processor, if it exists.
abbrev pub position_of : {M : Type 0} → MachineState M → ℕ → Option ℕ
position_of s t = slice_get (map (λ p. p.position) s.processors) t

-- The result of an event: nothing, or why it is rejected.
abbrev pub EventResult : Type 0
EventResult = Result (Unit {0}) Stop

module _ {M : Type 0} (mem : Memory M) where
  -- The same processors over the memory's content.
  abbrev pub over_flat_memory : MachineState M → MachineState (List ℕ)
  over_flat_memory s = record { processors = s.processors; memory = mem.content s.memory }

  -- The transition of an eviction of location x by processor t, which is p, from the memory m: if t holds the line (the first
  -- argument), the memory serves it; otherwise it is refused. The processor is unchanged.
  abbrev pub EvictionTransition : Bool → ℕ → ℕ → Processor → M → EventResult → Processor → M → Type 0
  EvictionTransition false t x p m answer q n = (answer ≡ Err NotHeld) × (q ≡ p) × (n ≡ m)
  EvictionTransition true t x p m answer q n = (answer ≡ Ok tt) × (q ≡ p) × mem.serves m (Evict t x) None n

  -- The transition of an effect of processor t, which is p, over the memory m: its result, and the processor and the memory
  -- after it.
  abbrev pub EffectTransition : ℕ → EventEffect → Processor → M → EventResult → Processor → M → Type 0
  EffectTransition t (Refused stop) p m answer q n = (answer ≡ Err stop) × (q ≡ p) × (n ≡ m)
  EffectTransition t (LocalStep next) p m answer q n = (answer ≡ Ok tt) × (q ≡ next) × (n ≡ m)
  EffectTransition t (MemoryAccess x access next) p m answer q n =
      (a : Option ℕ) × (answer ≡ Ok tt) × (q ≡ next (unwrap_or a 0)) × mem.serves m (Ask t x access) a n
  EffectTransition t (Eviction x) p m answer q n = EvictionTransition (is_held (mem.state m t x)) t x p m answer q n

  -- The transition of an event, for its processor, if it exists (`Some`): its result, and the state after it. Without the
  -- processor (`None`) it is refused, and changes nothing.
  abbrev pub ProcessorTransition : Option Processor → List (List Instr) → Event → MachineState M → EventResult → MachineState M → Type 0
  ProcessorTransition None program e s answer after = (answer ≡ Err NoCpu) × (after ≡ s)
  ProcessorTransition (Some p) program e s answer after =
      (q : Processor) × (n : M)
      × EffectTransition (cpu_of e) (event_effect program (length (mem.content s.memory)) e p) p s.memory answer q n
      × (after ≡ record { processors = slice_set s.processors (cpu_of e) q; memory = n })

  -- The transition relation: an event, the state before, its result, and the state after.
  abbrev pub MachineTransition : List (List Instr) → Event → MachineState M → EventResult → MachineState M → Type 0
  MachineTransition program e s answer after = ProcessorTransition (slice_get s.processors (cpu_of e)) program e s answer after
