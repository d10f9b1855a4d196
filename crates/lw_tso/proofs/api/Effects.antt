-- The effects of events over flat memory. An enabled event is an effect of its processor on the memory, and
-- changes no other processor; most proofs about runs over flat memory begin with this.
use Rattle.lw_tso.proofs.Common.{◌≡◌, ℕ, List, length, Ok, Option, Some, None, Bool, true, false, refl, sym}
use Rattle.lw_tso.proofs.Common.{ap, ap₂, ◌∙◌, subst, nat_lt, if◌then◌else◌, slice_get, slice_set, unwrap_or}
use Rattle.lw_tso.proofs.Common.{value_returned, words_after, Event, Evict, NoLocation, flat_memory, Instr}
use Rattle.lw_tso.proofs.Common.{Processor, EventEffect, Refused, LocalStep, MemoryAccess, Eviction, cpu_of}
use Rattle.lw_tso.proofs.Common.{event_effect, MachineState, EventResult, EffectTransition}
use Rattle.lw_tso.proofs.Common.{ProcessorTransition, MachineTransition}

-- A state of the flat machine, from its processors and its words.
abbrev pub state : List Processor → List ℕ → MachineState (List ℕ)
state processors m = record { processors = processors; memory = m }

-- ---- determinism

-- The result of an effect of processor t, which is p, over the words m: success or not, and the processor and the words after it.
record ActDid (t : ℕ) (act : EventEffect) (p : Processor) (m : List ℕ) : Type 0 where
  answer : EventResult
  to : Processor
  words : List ℕ
  done : EffectTransition flat_memory t act p m answer to words

-- Over flat memory two results of the same effect are the same, and so are the processors and the words after it.
effect-deterministic : (t : ℕ) (act : EventEffect) (p : Processor) (m : List ℕ) (x y : ActDid t act p m)
    → (x.answer ≡ y.answer) × (x.to ≡ y.to) × (x.words ≡ y.words)
effect-deterministic t (MemoryAccess l access next) p m x y =
    let d = x.done in
    let e = y.done in
    (d.1 ∙ sym e.1, d.2 ∙ ap (λ w. next (unwrap_or w 0)) (d.3.0 ∙ sym e.3.0) ∙ sym e.2, d.3.1 ∙ sym e.3.1)
effect-deterministic t _ p m x y =
    let d = x.done in
    let e = y.done in
    (d.0 ∙ sym e.0, d.1 ∙ sym e.1, d.2 ∙ sym e.2)

-- If an event leads the flat machine from s to two states with two results, the results are the same, and so are the states.
pub MachineTransition-deterministic : (program : List (List Instr)) (e : Event) (s after other : MachineState (List ℕ))
    (a b : EventResult)
    → MachineTransition flat_memory program e s a after
    → MachineTransition flat_memory program e s b other
    → (a ≡ b) × (after ≡ other)
MachineTransition-deterministic program e s after other a b = go (slice_get s.processors (cpu_of e))
  where
    -- By the processor, if it exists.
    go : (o : Option Processor)
        → ProcessorTransition flat_memory o program e s a after
        → ProcessorTransition flat_memory o program e s b other
        → (a ≡ b) × (after ≡ other)
    go None d f = (d.0 ∙ sym f.0, d.1 ∙ sym f.1)
    go (Some p) d f =
        let same =
        effect-deterministic (cpu_of e) _ p s.memory (record { answer = a; to = d.0; words = d.1; done = d.2 })
        (record { answer = b; to = f.0; words = f.1; done = f.2 }) in
        (same.0, d.3 ∙ ap₂ (λ q n. state (slice_set s.processors (cpu_of e) q) n) same.1 same.2 ∙ sym f.3)

-- ---- effects that are enabled

-- The processor and the words after an enabled effect.
abbrev pub act_after : EventEffect → List ℕ → Option (Processor × List ℕ)
act_after (Refused stop) m = None
act_after (LocalStep next) m = Some (next, m)
act_after (MemoryAccess x access next) m = Some (next (unwrap_or (value_returned m x access) 0), words_after m x access)
act_after (Eviction x) m = None

-- The effect is enabled, and leads to this processor and these words.
abbrev pub Leaves : Option (Processor × List ℕ) → Processor → List ℕ → Type 0
Leaves None q n = ⊥
Leaves (Some end) q n = (q ≡ end.0) × (n ≡ end.1)

-- The effect is enabled over the words m, and leads to this processor and these words.
abbrev pub EffectLeadsTo : List ℕ → EventEffect → Processor → List ℕ → Type 0
EffectLeadsTo m act q n = Leaves (act_after act m) q n

-- If an effect over m leads to q and n, its transition over flat memory is a success with q and n.
pub EffectTransition-if_enabled : (t : ℕ) (act : EventEffect) (p q : Processor) (m n : List ℕ)
    → EffectLeadsTo m act q n
    → EffectTransition flat_memory t act p m (Ok tt) q n
EffectTransition-if_enabled t (LocalStep next) p q m n d = (refl, d.0, d.1)
EffectTransition-if_enabled t (MemoryAccess x access next) p q m n d = (value_returned m x access, refl, d.0, (refl, d.1))
EffectTransition-if_enabled t _ p q m n d = absurd d

-- If the transition of an effect over flat memory is a success with q and n, the effect over m leads to q and n.
pub EffectLeadsTo-if_done : (t : ℕ) (act : EventEffect) (p q : Processor) (m n : List ℕ)
    → EffectTransition flat_memory t act p m (Ok tt) q n
    → EffectLeadsTo m act q n
EffectLeadsTo-if_done t (LocalStep next) p q m n d = (d.1, d.2)
EffectLeadsTo-if_done t (MemoryAccess x access next) p q m n d = (d.2 ∙ ap (λ w. next (unwrap_or w 0)) d.3.0, d.3.1)
EffectLeadsTo-if_done t _ p q m n d = absurd (let e = d.0 in cc)

-- Over flat memory the effect of an eviction leads to no state, whether the location exists (`there`) or not.
not-EffectLeadsTo-eviction : (m : List ℕ) (x : ℕ) (q : Processor) (n : List ℕ) (there : Bool)
    → EffectLeadsTo m (if there then Eviction x else Refused NoLocation) q n
    → ⊥
not-EffectLeadsTo-eviction m x q n true d = d
not-EffectLeadsTo-eviction m x q n false d = d

-- On the flat machine an eviction event leads to no state: no cache holds a line.
pub not-EffectLeadsTo-evict_event : (program : List (List Instr)) (locs t x : ℕ) (p q : Processor) (m n : List ℕ)
    → EffectLeadsTo m (event_effect program locs (Evict t x) p) q n
    → ⊥
not-EffectLeadsTo-evict_event program locs t x p q m n d = not-EffectLeadsTo-eviction m x q n (nat_lt x locs) d

-- An enabled event of a run: its processor before and after it, and the words of memory after it. No other processor changes.
pub record EventOccurrence (program : List (List Instr)) (e : Event) (s mid : MachineState (List ℕ)) : Type 0 where
  pub from : Processor
  pub to : Processor
  pub words : List ℕ
  pub was : slice_get s.processors (cpu_of e) ≡ Some from
  pub does : EffectLeadsTo s.memory (event_effect program (length s.memory) e from) to words
  pub state_is : mid ≡ state (slice_set s.processors (cpu_of e) to) words

module _ (program : List (List Instr)) where
  -- If processor p exists and the effect of an event leads it to q and the words m to n, the flat machine makes the transition
  -- of this event.
  pub MachineTransition-of_effect : (e : Event) (processors : List Processor) (p q : Processor) (m n : List ℕ)
      → slice_get processors (cpu_of e) ≡ Some p
      → EffectLeadsTo m (event_effect program (length m) e p) q n
      → MachineTransition flat_memory program e (state processors m) (Ok tt) (state (slice_set processors (cpu_of e) q) n)
  MachineTransition-of_effect e processors p q m n was d =
      subst (λ o.
      ProcessorTransition flat_memory o program e (state processors m) (Ok tt) (state (slice_set processors (cpu_of e) q) n))
      (sym was) (q, n, EffectTransition-if_enabled (cpu_of e) (event_effect program (length m) e p) p q m n d, refl)

  -- If an event leads the flat machine from s to mid, it is an effect of its processor, and changes no other.
  pub EventOccurrence-of_event : (e : Event) (s mid : MachineState (List ℕ))
      → MachineTransition flat_memory program e s (Ok tt) mid
      → EventOccurrence program e s mid
  EventOccurrence-of_event e s mid done = go (slice_get s.processors (cpu_of e)) refl done
    where
      -- By the processor, which exists, since the event is enabled.
      go : (o : Option Processor)
          → slice_get s.processors (cpu_of e) ≡ o
          → ProcessorTransition flat_memory o program e s (Ok tt) mid
          → EventOccurrence program e s mid
      go None was d = absurd (let f = d.0 in cc)
      go (Some p) was d = record {
        from = p;
        to = d.0;
        words = d.1;
        was = was;
        does = EffectLeadsTo-if_done (cpu_of e) (event_effect program (length s.memory) e p) p d.0 s.memory d.1 d.2;
        state_is = d.3;
      }
