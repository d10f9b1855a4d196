-- The state after an effect and after an event: a refused one changes nothing, and over a lawful memory each
-- preserves sizes. Used for the clauses of `Machine::step`, and wherever a run is followed over a lawful
-- memory.
use Rattle.lw_tso.proofs.Common.{◌≡◌, ℕ, Bool, true, false, List, length, Ok, Err, Option, Some, None, refl}
use Rattle.lw_tso.proofs.Common.{sym, ap, ◌∙◌, subst, slice_get, slice_set, length-set, OnErr, Event, Stop}
use Rattle.lw_tso.proofs.Common.{Request, content_after_request, Memory, IsLawful, RequestEffect, Invariant}
use Rattle.lw_tso.proofs.Common.{set-get_same, Instr, Processor, EventEffect, Refused, LocalStep}
use Rattle.lw_tso.proofs.Common.{MemoryAccess, Eviction, cpu_of, MachineState, EventResult, EffectTransition}
use Rattle.lw_tso.proofs.Common.{EvictionTransition, ProcessorTransition, MachineTransition, MachineRun}
use Rattle.lw_tso.proofs.Common.{words_after, Access}
use Rattle.lw_memory.specs.declared.request.Access.TheVariants as to
use Rattle.lw_memory.specs.declared.request.Request.TheVariants as request

-- An access preserves the number of words.
pub length-words_after : (words : List ℕ) (x : ℕ) (access : Access) → length (words_after words x access) ≡ length words
length-words_after words x to.Load = refl
length-words_after words x _ = length-set words x _

-- A request preserves the number of words.
length-content_after_request : (words : List ℕ) (r : Request) → length (content_after_request words r) ≡ length words
length-content_after_request words (request.Ask t x access) = length-words_after words x access
length-content_after_request words _ = refl

module _ {M : Type 0} (mem : Memory M) (inv : Invariant M) where
  -- What an effect preserves from the memory m to n: the numbers of processors and locations, and the memory's invariant.
  pub record PreservesMemorySize (m n : M) : Type 0 where
    pub cpus : inv.cpus n ≡ inv.cpus m
    pub locations : length (mem.content n) ≡ length (mem.content m)
    pub sound : inv.sound n

  -- A memory that satisfies its invariant and is unchanged has the same size, and satisfies its invariant.
  PreservesMemorySize-unchanged : {m n : M} → inv.sound m → n ≡ m → PreservesMemorySize m n
  PreservesMemorySize-unchanged sound same = record {
    cpus = ap inv.cpus same;
    locations = ap (λ (l : M). length (mem.content l)) same;
    sound = subst inv.sound (sym same) sound;
  }

  -- If a lawful memory whose invariant holds serves a request, that preserves the memory's size and its invariant.
  PreservesMemorySize-request : IsLawful mem inv
      → (m n : M) {r : Request} {a : Option ℕ}
      → inv.sound m
      → mem.serves m r a n
      → PreservesMemorySize m n
  PreservesMemorySize-request laws m n {r = r} {a = a} sound serves =
      let s : RequestEffect mem inv m r a n = laws.served m r a n sound serves in
      record { cpus = s.cpus; locations = ap length s.content ∙ length-content_after_request (mem.content m) r; sound = s.sound }

  -- An eviction, carried out or refused, preserves the size of a lawful memory and its invariant.
  PreservesMemorySize-eviction : IsLawful mem inv
      → (held : Bool) (t x : ℕ) (p q : Processor) (m n : M) (answer : EventResult)
      → inv.sound m
      → EvictionTransition mem held t x p m answer q n
      → PreservesMemorySize m n
  PreservesMemorySize-eviction laws false t x p q m n answer sound done = PreservesMemorySize-unchanged sound done.2
  PreservesMemorySize-eviction laws true t x p q m n answer sound done = PreservesMemorySize-request laws m n sound done.2

  -- Over a lawful memory, an effect preserves the memory's size and its invariant.
  pub PreservesMemorySize-effect : IsLawful mem inv
      → (t : ℕ) (act : EventEffect) (p q : Processor) (m n : M) (answer : EventResult)
      → inv.sound m
      → EffectTransition mem t act p m answer q n
      → PreservesMemorySize m n
  PreservesMemorySize-effect laws t (MemoryAccess x access next) p q m n answer sound done =
      PreservesMemorySize-request laws m n sound done.3
  PreservesMemorySize-effect laws t (Eviction x) p q m n answer sound done =
      PreservesMemorySize-eviction laws _ t x p q m n answer sound done
  PreservesMemorySize-effect laws t _ p q m n answer sound done = PreservesMemorySize-unchanged sound done.2

  -- A refused eviction changes neither the processor nor the memory.
  state_same-eviction_refused : (held : Bool) (t x : ℕ) (p q : Processor) (m n : M) (stop : Stop)
      → EvictionTransition mem held t x p m (Err stop) q n
      → (q ≡ p) × (n ≡ m)
  state_same-eviction_refused false t x p q m n stop done = (done.1, done.2)
  state_same-eviction_refused true t x p q m n stop done = absurd (let e = done.0 in cc)

  -- A refused effect changes nothing.
  pub state_same-effect_refused : (t : ℕ) (act : EventEffect) (p q : Processor) (m n : M) (stop : Stop)
      → EffectTransition mem t act p m (Err stop) q n
      → (q ≡ p) × (n ≡ m)
  state_same-effect_refused t (Refused stop') p q m n stop done = (done.1, done.2)
  state_same-effect_refused t (LocalStep next) p q m n stop done = absurd (let e = done.0 in cc)
  state_same-effect_refused t (Eviction x) p q m n stop done = state_same-eviction_refused _ t x p q m n stop done
  state_same-effect_refused t _ p q m n stop done = absurd (let e : ◌≡◌ {A = EventResult} (Err stop) (Ok tt) = done.1 in cc)

  -- A refused event changes nothing.
  pub state_same-event_refused : (program : List (List Instr)) (e : Event) (s after : MachineState M) (stop : Stop)
      → MachineTransition mem program e s (Err stop) after
      → after ≡ s
  state_same-event_refused program e s after stop = go (slice_get s.processors (cpu_of e)) refl
    where
      -- By the processor, if it exists, and by its effect.
      go : (o : Option Processor)
          → slice_get s.processors (cpu_of e) ≡ o
          → ProcessorTransition mem o program e s (Err stop) after
          → after ≡ s
      go None at done = done.1
      go (Some p) at done =
          let same = state_same-effect_refused (cpu_of e) _ p done.0 s.memory done.1 stop done.2 in
          let processors = ap (slice_set s.processors (cpu_of e)) same.0 ∙ set-get_same _ (cpu_of e) p at in
          done.3 ∙ rw (processors, same.1) refl

  -- What an event preserves of the whole machine: the numbers of processors and locations, and the memory's invariant.
  pub record IsSameSize (s end : MachineState M) : Type 0 where
    pub processors : length end.processors ≡ length s.processors
    pub locations : length (mem.content end.memory) ≡ length (mem.content s.memory)
    pub sound : inv.sound end.memory

  -- Over a lawful memory, an event preserves the numbers of processors and locations, and the memory's invariant.
  pub IsSameSize-event : IsLawful mem inv
      → (program : List (List Instr)) (e : Event) (s after : MachineState M) (answer : EventResult)
      → inv.sound s.memory
      → MachineTransition mem program e s answer after
      → IsSameSize s after
  IsSameSize-event laws program e s after answer sound = go (slice_get s.processors (cpu_of e))
    where
      -- By the processor, if it exists.
      go : (o : Option Processor) → ProcessorTransition mem o program e s answer after → IsSameSize s after
      go None done = subst (IsSameSize s) (sym done.1) (record { processors = refl; locations = refl; sound = sound })
      go (Some p) done =
          let kept = PreservesMemorySize-effect laws (cpu_of e) _ p done.0 s.memory done.1 answer sound done.2 in
          subst (IsSameSize s) (sym done.3)
          (record { processors = length-set s.processors (cpu_of e) done.0; locations = kept.locations; sound = kept.sound })

  -- A running machine after an event: it is unchanged if the event was refused, and has as many processors and words as before.
  pub record IsAfterEvent (before : MachineRun M) (answer : EventResult) (after : MachineRun M) : Type 0 where
    pub err : OnErr answer (after ≡ before)
    pub processors : length after.state.processors ≡ length before.state.processors
    pub words : length (mem.content after.state.memory) ≡ length (mem.content before.state.memory)

  -- Over a lawful memory whose invariant holds, a call that executes an event on a running machine, and preserves its program
  -- and initial state, satisfies `IsAfterEvent`.
  pub IsAfterEvent-of_transition : IsLawful mem inv
      → (e : Event) (before after : MachineRun M) (answer : EventResult)
      → inv.sound before.state.memory
      → after.program ≡ before.program
      → after.initial ≡ before.initial
      → MachineTransition mem before.program e before.state answer after.state
      → IsAfterEvent before answer after
  IsAfterEvent-of_transition laws e before after answer sound program initial done =
      let kept = IsSameSize-event laws before.program e before.state after.state answer sound done in
      record { err = go answer done; processors = kept.processors; words = kept.locations }
    where
      -- By the answer: an event that was refused changes nothing.
      go : (a : EventResult) → MachineTransition mem before.program e before.state a after.state → OnErr a (after ≡ before)
      go (Ok u) done = tt
      go (Err stop) done =
          let running : (let r : MachineRun M =
          record { program = after.program; initial = after.initial; state = after.state } in
          r)
          ≡ record { program = before.program; initial = before.initial; state = before.state } =
          rw (program, initial, (state_same-event_refused before.program e before.state after.state stop done)) refl in
          running
