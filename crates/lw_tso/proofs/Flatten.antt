-- A run over a lawful memory is, without its evictions, a run over flat memory. One direction of the law that
-- outcomes are flat; the other is in `api/FlatSimulation`.
use Rattle.lw_tso.proofs.Common.{◌≡◌, ℕ, Bool, true, false, if◌then◌else◌, List, [], ◌∷◌, length, Ok, Option}
use Rattle.lw_tso.proofs.Common.{Some, None, refl, ap, ap₂, ◌∙◌, subst, slice_get, slice_set, FinalState}
use Rattle.lw_tso.proofs.Common.{Event, Step, Drain, Evict, NoLocation, flat_memory, Memory, is_held}
use Rattle.lw_tso.proofs.Common.{IsLawful, Invariant, set-get_same, Instr, X86Test, Processor, EventEffect}
use Rattle.lw_tso.proofs.Common.{Refused, MemoryAccess, Eviction, cpu_of, event_effect, MachineState}
use Rattle.lw_tso.proofs.Common.{EventResult, over_flat_memory, EffectTransition, EvictionTransition}
use Rattle.lw_tso.proofs.Common.{ProcessorTransition, MachineTransition, MachineRunsTo, ReplaysTo}
use Rattle.lw_tso.proofs.Common.{initial_machine_state, without_evictions}
use Rattle.lw_tso.proofs.Acts.{IsSameSize-event}
use Rattle.lw_tso.proofs.EventActs.{IsNoEviction, IsEventEffect, IsEventEffect-of_event}
use Rattle.lw_memory.specs.declared.request.Request.TheVariants as request

module _ {M : Type 0} (mem : Memory M) (inv : Invariant M) (laws : IsLawful mem inv) where
  -- Over a memory whose invariant holds, an effect that is no eviction has the same result over the content, and leads to the
  -- same processor and the content after it.
  EffectTransition-flat : (t : ℕ) (act : EventEffect) (p q : Processor) (m n : M) (answer : EventResult)
      → inv.sound m
      → ((x : ℕ) → act ≡ Eviction x → ⊥)
      → EffectTransition mem t act p m answer q n
      → EffectTransition flat_memory t act p (mem.content m) answer q (mem.content n)
  EffectTransition-flat t (MemoryAccess x access next) p q m n answer sound none done =
      let s = laws.served m (request.Ask t x access) done.0 n sound done.3 in (done.0, done.1, done.2, (s.answer, s.content))
  EffectTransition-flat t (Eviction x) p q m n answer sound none done = absurd (none x refl)
  EffectTransition-flat t _ p q m n answer sound none done = (done.0, done.1, ap mem.content done.2)

  -- If the memory's invariant holds and an event is no eviction, its transition, of the processor o if there is one, is one
  -- over flat memory with the same content.
  ProcessorTransition-flat : (o : Option Processor) (program : List (List Instr)) (e : Event) (s after : MachineState M)
      (answer : EventResult)
      → inv.sound s.memory
      → IsNoEviction e
      → ProcessorTransition mem o program e s answer after
      → ProcessorTransition flat_memory o program e (over_flat_memory mem s) answer (over_flat_memory mem after)
  ProcessorTransition-flat None program e s after answer sound none done = (done.0, ap (over_flat_memory mem) done.1)
  ProcessorTransition-flat (Some p) program e s after answer sound none done =
      let l = length (mem.content s.memory) in
      let keeps = λ (x : ℕ) (is : event_effect program l e p ≡ Eviction x).
      subst (IsEventEffect program l e p) is (IsEventEffect-of_event program l e p none) in
      (done.0, mem.content done.1, EffectTransition-flat _ _ p _ _ _ answer sound keeps done.2, ap (over_flat_memory mem) done.3)

  -- If the memory's invariant holds and an event is no eviction, its transition is one over flat memory with the same content.
  pub MachineTransition-flat : (program : List (List Instr)) (e : Event) (s after : MachineState M) (answer : EventResult)
      → inv.sound s.memory
      → IsNoEviction e
      → MachineTransition mem program e s answer after
      → MachineTransition flat_memory program e (over_flat_memory mem s) answer (over_flat_memory mem after)
  MachineTransition-flat program e s = ProcessorTransition-flat (slice_get s.processors (cpu_of e)) program e s

  -- If the memory's invariant holds, an eviction that is carried out changes neither the processor nor the content.
  content_same-eviction : (held : Bool) (t x : ℕ) (p q : Processor) (m n : M)
      → inv.sound m
      → EvictionTransition mem held t x p m (Ok tt) q n
      → (q ≡ p) × (mem.content n ≡ mem.content m)
  content_same-eviction false t x p q m n sound done = (done.1, ap mem.content done.2)
  content_same-eviction _ t x p q m n sound done = (done.1, (laws.served m (request.Evict t x) None n sound done.2).content)

  -- If the memory's invariant holds, an eviction event that is carried out changes neither the processor nor the content,
  -- whether the location exists (`there`) or not.
  content_same-evict_effect : (there : Bool) (t x : ℕ) (p q : Processor) (m n : M)
      → inv.sound m
      → EffectTransition mem t (if there then Eviction x else Refused NoLocation) p m (Ok tt) q n
      → (q ≡ p) × (mem.content n ≡ mem.content m)
  content_same-evict_effect true t x p q m n sound done = content_same-eviction (is_held (mem.state m t x)) t x p q m n sound done
  content_same-evict_effect false t x p q m n sound done = (done.1, ap mem.content done.2)

  -- If the memory's invariant holds, an eviction event that is carried out leaves the state over flat memory unchanged.
  content_same-evict_event : (o : Option Processor) (program : List (List Instr)) (t x : ℕ) (s after : MachineState M)
      → inv.sound s.memory
      → slice_get s.processors t ≡ o
      → ProcessorTransition mem o program (Evict t x) s (Ok tt) after
      → over_flat_memory mem after ≡ over_flat_memory mem s
  content_same-evict_event None program t x s after sound at done = ap (over_flat_memory mem) done.1
  content_same-evict_event (Some p) program t x s after sound at done =
      let same = content_same-evict_effect _ t x p done.0 s.memory done.1 sound done.2 in
      let processors = ap (slice_set s.processors t) same.0 ∙ set-get_same s.processors t p at in
      ap (over_flat_memory mem) done.3
      ∙ ap₂
      (λ (ps : List Processor) (words : List ℕ). let a : MachineState (List ℕ) = record { processors = ps; memory = words } in a)
      processors same.1

  -- If the memory's invariant holds at the start, a run over it is, without its evictions, a run over flat memory.
  pub MachineRunsTo-flat : (program : List (List Instr)) (es : List Event) (s end : MachineState M)
      → inv.sound s.memory
      → MachineRunsTo mem program es s end
      → MachineRunsTo flat_memory program (without_evictions es) (over_flat_memory mem s) (over_flat_memory mem end)
  MachineRunsTo-flat program [] s end sound ran = ap (over_flat_memory mem) ran
  MachineRunsTo-flat program (Step t ∷ es) s end sound ran = (
    over_flat_memory mem ran.0,
    MachineTransition-flat program (Step t) s ran.0 (Ok tt) sound refl ran.1,
    MachineRunsTo-flat program es _ end (IsSameSize-event mem inv laws program (Step t) s ran.0 _ sound ran.1).sound ran.2,
  )
  MachineRunsTo-flat program (Drain t ∷ es) s end sound ran = (
    over_flat_memory mem ran.0,
    MachineTransition-flat program (Drain t) s ran.0 (Ok tt) sound refl ran.1,
    MachineRunsTo-flat program es _ end (IsSameSize-event mem inv laws program (Drain t) s ran.0 _ sound ran.1).sound ran.2,
  )
  MachineRunsTo-flat program (Evict t x ∷ es) s end sound ran =
      subst (λ a. MachineRunsTo flat_memory program (without_evictions es) a (over_flat_memory mem end))
      (content_same-evict_event (slice_get s.processors t) program t x s ran.0 sound refl ran.1)
      (MachineRunsTo-flat program es ran.0 end
      (IsSameSize-event mem inv laws program (Evict t x) s ran.0 (Ok tt) sound ran.1).sound ran.2)

  -- If the memory's invariant holds at the start, a list of events that replays to an outcome over it replays, without its
  -- evictions, to the same outcome over flat memory.
  pub ReplaysTo-flat : (test : X86Test) (m : M) (es : List Event) (o : FinalState)
      → inv.sound m
      → ReplaysTo mem test m es o
      → ReplaysTo flat_memory test (mem.content m) (without_evictions es) o
  ReplaysTo-flat test m es o sound r = record {
    end = over_flat_memory mem r.end;
    ran = MachineRunsTo-flat test.threads es (initial_machine_state test m) r.end sound r.ran;
    final = r.final;
    outcome_is = r.outcome_is;
  }
