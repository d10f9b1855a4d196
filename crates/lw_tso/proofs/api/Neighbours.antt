-- Adjacent independent events of the flat machine commute. The law for readers, and what partial-order
-- reduction in lw_finals and lw_search uses.
use Rattle.lw_tso.proofs.Common.{◌≡◌, ◌≢◌, ℕ, List, ◌∷◌, length, Ok, Option, Some, ⊎_elim, refl, sym, ap, ◌∙◌}
use Rattle.lw_tso.proofs.Common.{subst, slice_get, slice_set, option_map, set-set, cases_eq, set_comm}
use Rattle.lw_tso.proofs.Common.{same_Some, slice_get-map, thread_code, Event, Step, Drain, Evict}
use Rattle.lw_tso.proofs.Common.{flat_memory, slice_get-slice_set_same, slice_get-slice_set_other, Instr}
use Rattle.lw_tso.proofs.Common.{x86_operation, Processor, EventEffect, MemoryAccess, cpu_of, event_effect}
use Rattle.lw_tso.proofs.Common.{step_effect, drain_effect, MachineState, position_of, MachineTransition}
use Rattle.lw_tso.proofs.Common.{CommutesWithDrain, MayPassOldest, AreDrainAndPassing, AreIndependent}
use Rattle.lw_tso.proofs.Common.{IsAtPosition, TransitionAt, EventsCommute}
use Rattle.lw_tso.proofs.Commuting.{LeadInSequence, LeadInSequence-swap, with_oldest, effect_keeping_oldest}
use Rattle.lw_tso.proofs.Commuting.{EffectLeadsTo-keeping_oldest, EffectLeadsTo-without_oldest, LeavesAlone}
use Rattle.lw_tso.proofs.Commuting.{LeavesAlone-operation}
use Rattle.lw_tso.proofs.api.Effects.{state, EffectLeadsTo, not-EffectLeadsTo-evict_event, EventOccurrence}
use Rattle.lw_tso.proofs.api.Effects.{MachineTransition-of_effect, EventOccurrence-of_event}
use Rattle.lw_memory.specs.declared.request.Access.TheVariants as to

-- ---- positions

-- The event is a drain, or the processor is at this position for its step.
abbrev IsAtIndex : Event → ℕ → Processor → Type 0
IsAtIndex (Step t) j p = p.position ≡ j
IsAtIndex _ j p = Unit {0}

-- If the machine has the processor p at index t, the position of t is that of p.
pub position_of-in_range : (s : MachineState (List ℕ)) (t : ℕ) {p : Processor}
    → slice_get s.processors t ≡ Some p
    → position_of s t ≡ Some p.position
position_of-in_range s t at = slice_get-map _ s.processors t ∙ ap (option_map (λ (q : Processor). q.position)) at

-- If an event is at position j in the machine's state, so is it in its processor's.
IsAtIndex-of_machine : (e : Event) (j : ℕ) (s : MachineState (List ℕ)) (p : Processor)
    → slice_get s.processors (cpu_of e) ≡ Some p
    → IsAtPosition e j s
    → IsAtIndex e j p
IsAtIndex-of_machine (Step t) j s p at stands = same_Some p.position j (sym (position_of-in_range s t at) ∙ stands)
IsAtIndex-of_machine _ j s p at stands = tt

-- If an event is at position j in its processor's state, so is it in the machine's.
IsAtPosition-of_processor : (e : Event) (j : ℕ) (s : MachineState (List ℕ)) (p : Processor)
    → slice_get s.processors (cpu_of e) ≡ Some p
    → IsAtIndex e j p
    → IsAtPosition e j s
IsAtPosition-of_processor (Step t) j s p at is = position_of-in_range s t at ∙ ap Some is
IsAtPosition-of_processor _ j s p at is = tt

-- ---- two events

-- A buffer's oldest entry, and an instruction that commutes with its drain.
record PassedEntry (buffer : List (ℕ × ℕ)) (o : Option Instr) : Type 0 where
  entry : ℕ × ℕ
  newer : List (ℕ × ℕ)
  instr : Instr
  buffer_is : buffer ≡ entry ∷ newer
  at : o ≡ Some instr
  may : CommutesWithDrain entry.0 (x86_operation instr)

-- If the next instruction commutes with the drain of a buffer's oldest entry, there are such an instruction and such an entry.
PassedEntry-of_buffer : (buffer : List (ℕ × ℕ)) (o : Option Instr) → MayPassOldest buffer o → PassedEntry buffer o
PassedEntry-of_buffer (entry ∷ newer) (Some i) may =
    record { entry = entry; newer = newer; instr = i; buffer_is = refl; at = refl; may = may }
PassedEntry-of_buffer _ _ may = absurd may

module _ (program : List (List Instr)) where
  -- If an event's effect for k locations is enabled, it is the same for l locations.
  event_effect-location_count : (e : Event) (k l : ℕ) (p q : Processor) (m n : List ℕ)
      → EffectLeadsTo m (event_effect program k e p) q n
      → event_effect program k e p ≡ event_effect program l e p
  event_effect-location_count (Evict t x) k l p q m n d = absurd (not-EffectLeadsTo-evict_event program k t x p q m n d)
  event_effect-location_count _ k l p q m n d = refl

  -- If an event leads from s to mid, and its processor is at position j, it is a transition at this position.
  TransitionAt-of_occurrence : (e : Event) (j : ℕ) (s mid : MachineState (List ℕ)) (d : EventOccurrence program e s mid)
      → IsAtIndex e j d.from
      → TransitionAt flat_memory program e j s mid
  TransitionAt-of_occurrence e j s mid d is = record {
    is_at_position = IsAtPosition-of_processor e j s d.from d.was is;
    done =
        subst (λ after. MachineTransition flat_memory program e s (Ok tt) after) (sym d.state_is)
        (MachineTransition-of_effect program e s.processors d.from d.to s.memory d.words d.was d.does);
  }

  -- The two events, in the other order, lead from s to `end` too, each at the same position.
  abbrev AreExchanged : Event → Event → ℕ → ℕ → MachineState (List ℕ) → MachineState (List ℕ) → Type 0
  AreExchanged e f j k s end =
      (other : MachineState (List ℕ))
      × TransitionAt flat_memory program f k s other
      × TransitionAt flat_memory program e j other end

  module _ (s mid end : MachineState (List ℕ)) where
    -- If two events of different processors are independent in s, and lead in sequence to `end`, they are exchanged.
    AreExchanged-two_processors : (e f : Event) (j k : ℕ)
        → cpu_of e ≢ cpu_of f
        → AreIndependent program e f s
        → (x : EventOccurrence program e s mid) (y : EventOccurrence program f mid end)
        → IsAtIndex e j x.from
        → IsAtIndex f k y.from
        → AreExchanged e f j k s end
    AreExchanged-two_processors e f j k ne free x y on off =
        (other, TransitionAt-of_occurrence f k s other first off, TransitionAt-of_occurrence e j other end second on)
      where
        -- The processor of f is in s as it is after e.
        there : slice_get s.processors (cpu_of f) ≡ Some y.from
        there =
            sym (slice_get-slice_set_other s.processors (cpu_of e) (cpu_of f) x.to ne)
            ∙ ap (λ (z : MachineState (List ℕ)). slice_get z.processors (cpu_of f)) (sym x.state_is)
            ∙ y.was

        -- The effect of e in s.
        a : EventEffect
        a = event_effect program (length s.memory) e x.from

        -- The effect of f in s.
        b : EventEffect
        b = event_effect program (length s.memory) f y.from

        -- After e the effect of f is b.
        then_b : EffectLeadsTo x.words b y.to y.words
        then_b =
            subst (λ (z : MachineState (List ℕ)). EffectLeadsTo z.memory b y.to y.words) x.state_is
            (subst (λ act. EffectLeadsTo mid.memory act y.to y.words) (event_effect-location_count f _ _ y.from y.to _ _ y.does)
            y.does)

        -- Both effects lead to the same words in the other order.
        way : LeadInSequence b a y.to x.to s.memory y.words
        way =
            LeadInSequence-swap a b x.to y.to s.memory y.words (free.of_two ne x.from y.from x.was there)
            (record { between = x.words; first = x.does; second = then_b })

        -- The state after f alone.
        other : MachineState (List ℕ)
        other = state (slice_set s.processors (cpu_of f) y.to) way.between

        -- The event f leads from s to that state.
        first : EventOccurrence program f s other
        first = record { from = y.from; to = y.to; words = way.between; was = there; does = way.first; state_is = refl }

        -- The event e leads from there to the end.
        second : EventOccurrence program e other end
        second = record {
          from = x.from;
          to = x.to;
          words = y.words;
          was = slice_get-slice_set_other s.processors (cpu_of f) (cpu_of e) y.to (λ same. ne (sym same)) ∙ x.was;
          does =
              subst (λ act. EffectLeadsTo way.between act x.to y.words)
              (event_effect-location_count e (length s.memory) (length way.between) x.from x.to way.between y.words way.second)
              way.second;
          state_is =
              y.state_is
              ∙ ap (λ (z : MachineState (List ℕ)). state (slice_set z.processors (cpu_of f) y.to) y.words) x.state_is
              ∙ ap (λ ps. state ps y.words) (set_comm s.processors _ _ x.to y.to ne);
        }

    -- Two events of one processor, which has this entry as its oldest.
    module _ (t : ℕ) (from : Processor) (pass : PassedEntry from.buffer (slice_get (thread_code program t) from.position)) where
      -- The processor without its oldest entry.
      abbrev without_entry : Processor
      without_entry = record from { buffer = pass.newer }

      -- The processor is `without_entry` with the oldest entry in its buffer.
      from_is : from ≡ with_oldest pass.entry without_entry
      from_is = ap (λ b. record from { buffer = b }) pass.buffer_is

      -- The effect of the step after the drain.
      abbrev stepping : EventEffect
      stepping = step_effect (Some pass.instr) without_entry

      -- The effect of the drain of the oldest entry.
      abbrev draining : EventEffect
      draining = MemoryAccess pass.entry.0 (to.Store pass.entry.1) (λ none. without_entry)

      -- The step before the drain keeps the oldest entry, has otherwise the effect of the step after it, and does not access the entry's location.
      leaves : LeavesAlone pass.entry stepping (step_effect (Some pass.instr) (with_oldest pass.entry without_entry))
      leaves = LeavesAlone-operation pass.entry (x86_operation pass.instr) without_entry pass.may

      -- The effect of the step before the drain is `stepping`, with the oldest entry kept in the buffer.
      first_act : step_effect (slice_get (thread_code program t) from.position) from ≡ effect_keeping_oldest pass.entry stepping
      first_act = ap (λ o. step_effect o from) pass.at ∙ ap (step_effect (Some pass.instr)) from_is ∙ leaves.same

      -- If the step of t and then its drain lead from s to `end`, they are exchanged.
      step_drain : (j k : ℕ) (x : EventOccurrence program (Step t) s mid) (y : EventOccurrence program (Drain t) mid end)
          → x.from ≡ from
          → from.position ≡ j
          → AreExchanged (Step t) (Drain t) j k s end
      step_drain j k x y is on =
          (other, TransitionAt-of_occurrence (Drain t) k s _ first tt, TransitionAt-of_occurrence _ j other end second on)
        where
          -- The processor of the step in s is `from`.
          was : slice_get s.processors t ≡ Some from
          was = x.was ∙ ap Some is

          -- The step leads to a processor that still has the oldest entry; without it, it is the step's effect on
          -- `without_entry`.
          step : (new : Processor) × (x.to ≡ with_oldest pass.entry new) × EffectLeadsTo s.memory stepping new x.words
          step =
              EffectLeadsTo-without_oldest pass.entry stepping s.memory x.words x.to
              (subst (λ act. EffectLeadsTo s.memory act x.to x.words) first_act
              (subst (λ (p : Processor).
              EffectLeadsTo s.memory (step_effect (slice_get (thread_code program t) p.position) p) x.to x.words) is x.does))

          -- The drain's processor is the one after the step.
          now : y.from ≡ with_oldest pass.entry step.0
          now =
              same_Some y.from _
              (sym y.was
              ∙ ap (λ (z : MachineState (List ℕ)). slice_get z.processors t) x.state_is
              ∙ slice_get-slice_set_same s.processors t x.to x.from x.was)
              ∙ step.1

          -- The drain takes the oldest entry to memory.
          drain : (y.to ≡ step.0) × (y.words ≡ slice_set mid.memory pass.entry.0 pass.entry.1)
          drain = subst (λ (p : Processor). EffectLeadsTo mid.memory (drain_effect p.buffer p) y.to y.words) now y.does

          -- The words at the end are those after the step, with the entry's word.
          words : y.words ≡ slice_set x.words pass.entry.0 pass.entry.1
          words = drain.1 ∙ ap (λ (z : MachineState (List ℕ)). slice_set z.memory pass.entry.0 pass.entry.1) x.state_is

          -- The drain and then the step lead to the same words.
          way : LeadInSequence draining stepping without_entry step.0 s.memory y.words
          way =
              LeadInSequence-swap stepping draining step.0 without_entry s.memory y.words
              (λ z e f. absurd (leaves.free (e ∙ sym f))) (record { between = x.words; first = step.2; second = (refl, words) })

          -- The state after the drain alone.
          other : MachineState (List ℕ)
          other = state (slice_set s.processors t without_entry) way.between

          -- The drain leads from s to that state.
          first : EventOccurrence program (Drain t) s other
          first = record {
            from = from;
            to = without_entry;
            words = way.between;
            was = was;
            does =
                subst (λ (p : Processor). EffectLeadsTo s.memory (drain_effect p.buffer p) without_entry way.between)
                (sym from_is) way.first;
            state_is = refl;
          }

          -- The step leads from there to the end.
          second : EventOccurrence program (Step t) other end
          second = record {
            from = without_entry;
            to = step.0;
            words = y.words;
            was = slice_get-slice_set_same s.processors t without_entry from was;
            does = subst (λ o. EffectLeadsTo way.between (step_effect o without_entry) step.0 y.words) (sym pass.at) way.second;
            state_is =
                y.state_is
                ∙ ap (λ (z : MachineState (List ℕ)). state (slice_set z.processors t y.to) y.words) x.state_is
                ∙ ap (λ ps. state ps y.words)
                (set-set s.processors t x.to y.to
                ∙ ap (slice_set s.processors t) drain.0
                ∙ sym (set-set s.processors t without_entry step.0));
          }

      -- If the drain of t and then its step lead from s to `end`, they are exchanged.
      drain_step : (j k : ℕ) (x : EventOccurrence program (Drain t) s mid) (y : EventOccurrence program (Step t) mid end)
          → x.from ≡ from
          → y.from.position ≡ k
          → AreExchanged (Drain t) (Step t) j k s end
      drain_step j k x y is off = (
        other,
        TransitionAt-of_occurrence (Step t) k s other first (ap (λ (p : Processor). p.position) (sym now) ∙ off),
        TransitionAt-of_occurrence (Drain t) j other end second tt,
      )
        where
          -- The processor of the drain in s is `from`.
          was : slice_get s.processors t ≡ Some from
          was = x.was ∙ ap Some is

          -- The drain takes the oldest entry to memory.
          drain : (x.to ≡ without_entry) × (x.words ≡ slice_set s.memory pass.entry.0 pass.entry.1)
          drain = rw (is ∙ from_is) at x.does

          -- The step's processor is the one after the drain.
          now : y.from ≡ without_entry
          now =
              same_Some y.from _
              (sym y.was
              ∙ ap (λ (z : MachineState (List ℕ)). slice_get z.processors t) x.state_is
              ∙ slice_get-slice_set_same s.processors t x.to x.from x.was)
              ∙ drain.0

          -- The step is the effect `stepping` over the words after the drain.
          step : EffectLeadsTo x.words stepping y.to y.words
          step =
              subst (λ o. EffectLeadsTo x.words (step_effect o without_entry) y.to y.words) pass.at
              (subst (λ (z : MachineState (List ℕ)).
              EffectLeadsTo z.memory (step_effect (slice_get (thread_code program t) without_entry.position) without_entry) y.to
              y.words) x.state_is
              (subst (λ (p : Processor).
              EffectLeadsTo mid.memory (step_effect (slice_get (thread_code program t) p.position) p) y.to y.words) now y.does))

          -- The step and then the drain lead to the same words.
          way : LeadInSequence stepping draining y.to without_entry s.memory y.words
          way =
              LeadInSequence-swap draining stepping without_entry y.to s.memory y.words
              (λ z e f. absurd (leaves.free (f ∙ sym e))) (record { between = x.words; first = (refl, drain.1); second = step })

          -- The processor after the step alone.
          new : Processor
          new = with_oldest pass.entry y.to

          -- The state after the step alone.
          other : MachineState (List ℕ)
          other = state (slice_set s.processors t new) way.between

          -- The step leads from s to that state.
          first : EventOccurrence program (Step t) s other
          first = record {
            from = from;
            to = new;
            words = way.between;
            was = was;
            does = rw (← first_act) at (EffectLeadsTo-keeping_oldest pass.entry stepping s.memory way.between y.to way.first);
            state_is = refl;
          }

          -- The drain leads from there to the end.
          second : EventOccurrence program (Drain t) other end
          second = record {
            from = new;
            to = y.to;
            words = y.words;
            was = slice_get-slice_set_same s.processors t new from was;
            does = (refl, way.second.1);
            state_is =
                y.state_is
                ∙ ap (λ (z : MachineState (List ℕ)). state (slice_set z.processors t y.to) y.words) x.state_is
                ∙ ap (λ ps. state ps y.words) (set-set s.processors t x.to y.to ∙ sym (set-set s.processors t new y.to));
          }

  module _ (s : MachineState (List ℕ)) where
    -- The two events of the one processor are a drain and a step that commutes with it, in either order.
    abbrev PassEachOther : Event → Event → Type 0
    PassEachOther e f = (p : Processor) → slice_get s.processors (cpu_of e) ≡ Some p → AreDrainAndPassing program e f p

    -- A step of t and the next drain of t commute, if the instruction commutes with the drain of the oldest entry.
    EventsCommute-step_drain : (t : ℕ) → PassEachOther (Step t) (Drain t) → EventsCommute program (Step t) (Drain t) s
    EventsCommute-step_drain t pass j k mid end a b =
        let x = EventOccurrence-of_event program (Step t) s mid a.done in
        step_drain s mid end t x.from (PassedEntry-of_buffer _ _ (pass x.from x.was)) j k x
        (EventOccurrence-of_event program (Drain t) mid end b.done) refl
        (IsAtIndex-of_machine (Step t) j s x.from x.was a.is_at_position)

    -- A drain of t and the next step of t commute, if the instruction commutes with the drain of the oldest entry.
    EventsCommute-drain_step : (t : ℕ) → PassEachOther (Drain t) (Step t) → EventsCommute program (Drain t) (Step t) s
    EventsCommute-drain_step t pass j k mid end a b =
        let x = EventOccurrence-of_event program (Drain t) s mid a.done in
        let y = EventOccurrence-of_event program (Step t) mid end b.done in
        drain_step s mid end t x.from (PassedEntry-of_buffer _ _ (pass x.from x.was)) j k x y refl
        (IsAtIndex-of_machine (Step t) k mid y.from y.was b.is_at_position)

    -- If the processor of e does not exist, e and f commute, since e is not enabled.
    EventsCommute-no_processor : {e : Event} (f : Event)
        → ((p : Processor) → slice_get s.processors (cpu_of e) ≡ Some p → ⊥)
        → EventsCommute program e f s
    EventsCommute-no_processor {e = e} f never j k mid end a b =
        let x = EventOccurrence-of_event _ e s _ a.done in absurd (never x.from x.was)

    -- Two events of one processor commute, if they are a drain and a step that commutes with it.
    EventsCommute-one_processor : (e f : Event) → cpu_of e ≡ cpu_of f → PassEachOther e f → EventsCommute program e f s
    EventsCommute-one_processor (Step t) (Step u) same pass = EventsCommute-no_processor (Step u) pass
    EventsCommute-one_processor (Step t) (Drain u) same pass =
        subst (λ v. EventsCommute program (Step t) (Drain v) s) same (EventsCommute-step_drain t pass)
    EventsCommute-one_processor (Step t) (Evict u x) same pass = EventsCommute-no_processor (Evict u x) pass
    EventsCommute-one_processor (Drain t) (Step u) same pass =
        subst (λ v. PassEachOther (Drain v) (Step u) → EventsCommute program (Drain v) (Step u) s) (sym same)
        (EventsCommute-drain_step u) pass
    EventsCommute-one_processor (Drain t) (Drain u) same pass = EventsCommute-no_processor (Drain u) pass
    EventsCommute-one_processor (Drain t) (Evict u x) same pass = EventsCommute-no_processor (Evict u x) pass
    EventsCommute-one_processor (Evict t x) f same pass = EventsCommute-no_processor f pass

    -- Independent events of two processors commute.
    EventsCommute-two_processors : (e f : Event)
        → cpu_of e ≢ cpu_of f
        → AreIndependent program e f s
        → EventsCommute program e f s
    EventsCommute-two_processors e f ne free j k mid end a b =
        let x = EventOccurrence-of_event program e s mid a.done in
        let y = EventOccurrence-of_event program f mid end b.done in
        AreExchanged-two_processors s mid end e f j k ne free x y (IsAtIndex-of_machine e j s _ x.was a.is_at_position)
        (IsAtIndex-of_machine f k mid y.from y.was b.is_at_position)

  -- If two events are independent in a state, they commute there.
  pub EventsCommute-independent : (e f : Event) (s : MachineState (List ℕ))
      → AreIndependent program e f s
      → EventsCommute program e f s
  EventsCommute-independent e f s free =
      ⊎_elim (λ same. EventsCommute-one_processor s e f same (free.of_one same))
      (λ ne. EventsCommute-two_processors s e f ne free) (cases_eq (cpu_of e) (cpu_of f))
