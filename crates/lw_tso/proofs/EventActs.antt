-- The memory access of an event, and its processor after it, over any memory. By these two facts runs keep
-- their bounds: locations are in range, and positions only increase.
use Rattle.lw_tso.proofs.Common.{◌≡◌, ℕ, Bool, true, false, nat_lt, if◌then◌else◌, List, [], ◌∷◌, Option}
use Rattle.lw_tso.proofs.Common.{Some, None, refl, inl, inr, ◌⊎◌, ⊎_elim, slice_get, thread_code, Event, Step}
use Rattle.lw_tso.proofs.Common.{Drain, Evict, NoLocation, Memory, is_held, Instr, location_of, x86_operation}
use Rattle.lw_tso.proofs.Common.{Processor, EventEffect, Eviction, Refused, cpu_of, event_effect, step_effect}
use Rattle.lw_tso.proofs.Common.{drain_effect, without_evictions, EventResult, EffectTransition}
use Rattle.lw_tso.proofs.Common.{EvictionTransition}
use Rattle.lw_tso.proofs.api.Operations.{EffectSatisfies, EffectSatisfies-result, OperationTransition}
use Rattle.lw_tso.proofs.api.Operations.{EffectSatisfies-operation}

-- The event is a step or a drain.
abbrev pub IsNoEviction : Event → Type 0
IsNoEviction e = without_evictions (e ∷ []) ≡ e ∷ []

-- An event of the processor p may access x: it is the location of its next instruction in the code, or of its oldest entry.
abbrev pub MayAccess : List Instr → Processor → ℕ → Type 0
MayAccess code p x =
    ((i : Instr) × (slice_get code p.position ≡ Some i) × (location_of (x86_operation i) ≡ Some x))
    ⊎ ((entry : ℕ × ℕ) × (newer : List (ℕ × ℕ)) × (p.buffer ≡ entry ∷ newer) × (entry.0 ≡ x))

-- The processor after an event: unchanged, after the next instruction, or with the oldest entry drained.
pub data ProcessorChange (code : List Instr) (p q : Processor) : Type 0 where
  Stays : q ≡ p → ProcessorChange code p q
  Steps : (i : Instr) → slice_get code p.position ≡ Some i → OperationTransition (x86_operation i) p q → ProcessorChange code p q
  Drains : (entry : ℕ × ℕ) (newer : List (ℕ × ℕ))
      → p.buffer ≡ entry ∷ newer
      → q ≡ record p { buffer = newer }
      → ProcessorChange code p q

module _ (program : List (List Instr)) (locs : ℕ) where
  -- The claim about an event's effect: it accesses only locations of `MayAccess`, and its processor after it satisfies `ProcessorChange`.
  abbrev pub IsEventEffect : Event → Processor → EventEffect → Type 0
  IsEventEffect e p =
      EffectSatisfies (Unit {0}) (λ x written. MayAccess (thread_code program (cpu_of e)) p x)
      (ProcessorChange (thread_code program (cpu_of e)) p)

  -- The claim holds of a step of p whose next instruction is o, or that is at its end (`None`).
  IsEventEffect-step : (t : ℕ) (p : Processor) (o : Option Instr)
      → slice_get (thread_code program t) p.position ≡ o
      → IsEventEffect (Step t) p (step_effect o p)
  IsEventEffect-step t p None at = tt
  IsEventEffect-step t p (Some i) at =
      EffectSatisfies-operation (Unit {0}) (λ x written. MayAccess (thread_code program t) p x)
      (ProcessorChange (thread_code program t) p) (x86_operation i) p (λ waits full. tt) (λ x is. inl (i, at, is))
      (λ q went. Steps i at went)

  -- The claim holds of a drain of the processor's buffer, which may be empty.
  IsEventEffect-drain : (t : ℕ) (p : Processor) (buffer : List (ℕ × ℕ))
      → p.buffer ≡ buffer
      → IsEventEffect (Drain t) p (drain_effect buffer p)
  IsEventEffect-drain t p [] is = tt
  IsEventEffect-drain t p (entry ∷ newer) is = (inr (entry, newer, is, refl), λ none. Drains entry newer is refl)

  -- The effect of an event other than an eviction satisfies `IsEventEffect`.
  pub IsEventEffect-of_event : (e : Event) (p : Processor) → IsNoEviction e → IsEventEffect e p (event_effect program locs e p)
  IsEventEffect-of_event (Step t) p none = IsEventEffect-step t p (slice_get (thread_code program t) p.position) refl
  IsEventEffect-of_event (Drain t) p none = IsEventEffect-drain t p p.buffer refl
  IsEventEffect-of_event (Evict t x) p none = absurd cc

  module _ {M : Type 0} (mem : Memory M) (p q : Processor) (m n : M) (answer : EventResult) where
    -- An eviction leads from the processor p to p, whether the line is held and evicted, or the eviction is refused.
    processor_same-eviction : (held : Bool) (t x : ℕ) → EvictionTransition mem held t x p m answer q n → q ≡ p
    processor_same-eviction false t x done = done.1
    processor_same-eviction true t x done = done.1

    -- The event of an eviction leads from the processor p to p, whether the location exists or not.
    processor_same-evict_event : (there : Bool) (t x : ℕ)
        → EffectTransition mem t (if there then Eviction x else Refused NoLocation) p m answer q n
        → q ≡ p
    processor_same-evict_event true t x done = processor_same-eviction (is_held (mem.state m t x)) t x done
    processor_same-evict_event false t x done = done.1

    -- If an event that is no eviction leads from p to q, then q satisfies `ProcessorChange`.
    ProcessorChange-other_event : (e : Event)
        → IsNoEviction e
        → EffectTransition mem (cpu_of e) (event_effect program locs e p) p m answer q n
        → ProcessorChange (thread_code program (cpu_of e)) p q
    ProcessorChange-other_event e none done =
        let code = thread_code program (cpu_of e) in
        ⊎_elim (λ refused. Stays refused.2) (λ becomes. becomes)
        (EffectSatisfies-result (Unit {0}) (λ x w. MayAccess code p x) (ProcessorChange code p) mem (cpu_of e) _ p q m n answer
        (IsEventEffect-of_event e p none) done)

    -- If an event leads from p to q, then q satisfies `ProcessorChange`.
    pub ProcessorChange-event : (e : Event)
        → EffectTransition mem (cpu_of e) (event_effect program locs e p) p m answer q n
        → ProcessorChange (thread_code program (cpu_of e)) p q
    ProcessorChange-event (Step t) done = ProcessorChange-other_event (Step t) refl done
    ProcessorChange-event (Drain t) done = ProcessorChange-other_event (Drain t) refl done
    ProcessorChange-event (Evict t x) done = Stays (processor_same-evict_event (nat_lt x locs) t x done)
