-- Exhaustive searches through the runs of small tests: if a search finds that all final states pass a test,
-- every run's final state passes it. The searches are computed by the checker, so these tests must be small.
use Rattle.lw_bench.proofs.Common.{◌≡◌, ℕ, zero, suc, ◌<◌, ◌&&◌, Bool, true, false, if◌then◌else◌, List, []}
use Rattle.lw_bench.proofs.Common.{◌∷◌, length, map, Result, Ok, Err, Option, Some, None, refl, sym, ap, ◌∙◌}
use Rattle.lw_bench.proofs.Common.{subst, slice_get, slice_set, option_map, IsTrue, and_parts, agree_below}
use Rattle.lw_bench.proofs.Common.{agree_below_at, false≢true, slice_get_within, FinalState, Event, Step}
use Rattle.lw_bench.proofs.Common.{Drain, Evict, Stop, NoCpu, State, thread_step, source_step}
use Rattle.lw_bench.proofs.Common.{is_source_final, source_outcome, SourceRunsTo, Thread, Instr, Stmt}
use Rattle.lw_bench.proofs.Common.{flat_memory, EventEffect, ap₂, cpu_of, event_effect, MachineState}
use Rattle.lw_bench.proofs.Common.{EventResult, EffectTransition, ProcessorTransition, MachineTransition}
use Rattle.lw_bench.proofs.Common.{Processor, state, Leaves, act_after, EffectLeadsTo-if_done}
use Rattle.lw_bench.proofs.Common.{not-EffectLeadsTo-evict_event}
use Rattle.lw_tso.specs.Runs as machine

-- A conditional test passes unconditionally if its condition holds.
conditional-true : (b : Bool) (x : Bool) → (if b then x else true) ≡ true → b ≡ true → x ≡ true
conditional-true true x so is = so
conditional-true false x so is = absurd (false≢true is)

-- ---- source tests

module _ (program : List (List Stmt)) (ok : FinalState → Bool) where
  -- Tests the state after a step, if the step is possible; otherwise true.
  abbrev holds_if_ok : (State → Bool) → Result State Stop → Bool
  holds_if_ok so (Ok s) = so s
  holds_if_ok so (Err stop) = true

  -- Tests whether every run from the state ends within n steps, with an outcome that passes the test `ok`.
  unfoldable pub every_end_satisfies : ℕ → State → Bool
  every_end_satisfies zero s = false
  every_end_satisfies (suc n) s =
      (if is_source_final program s then ok (source_outcome s) else true)
      && agree_below (λ t. holds_if_ok (every_end_satisfies n) (source_step program t s)) (λ t. true) (length s.threads)

  -- A step is one of a thread of the state.
  thread_in_range-source_step : (t : ℕ) (s mid : State) → source_step program t s ≡ Ok mid → t < length s.threads
  thread_in_range-source_step t s mid = go (slice_get s.threads t) refl
    where
      -- By whether the state has the thread.
      go : (o : Option Thread) → slice_get s.threads t ≡ o → thread_step program t s o ≡ Ok mid → t < length s.threads
      go None at done = absurd (let e : ◌≡◌ {A = Result State Stop} (Err NoCpu) (Ok mid) = done in cc)
      go (Some th) at done = slice_get_within s.threads t th at

  -- If the search from a state passes, every run from there to a final state has an outcome that passes `ok`.
  pub every_end_satisfies-sound : (n : ℕ) (order : List ℕ) (s end : State)
      → every_end_satisfies n s ≡ true
      → SourceRunsTo program (map Step order) s end
      → IsTrue (is_source_final program end)
      → ok (source_outcome end) ≡ true
  unfolding every_end_satisfies
  every_end_satisfies-sound zero order s end so ran final = absurd (false≢true so)
  every_end_satisfies-sound (suc n) [] s end so ran final =
      conditional-true (is_source_final program end) (ok (source_outcome end))
      (subst (λ e. (if is_source_final program e then ok (source_outcome e) else true) ≡ true) (sym ran) (and_parts _ _ so).0)
      final
  every_end_satisfies-sound (suc n) (t ∷ order) s end so ran final =
      let each = agree_below_at _ (λ t. true) _ t (and_parts _ _ so).1 (thread_in_range-source_step t s ran.0 ran.1) in
      every_end_satisfies-sound n order ran.0 end (subst (λ r. holds_if_ok (every_end_satisfies n) r ≡ true) ran.1 each) ran.2
      final

-- ---- x86 tests, over flat memory

-- The result of an effect is the computed one.
Leaves-unique : (o : Option (Processor × List ℕ)) (q : Processor) (n : List ℕ) → Leaves o q n → o ≡ Some (q, n)
Leaves-unique None q n d = absurd d
Leaves-unique (Some end) q n d = ap₂ (λ r k. Some (r, k)) (sym d.0) (sym d.1)

-- An effect that is executed over flat memory is the computed one.
act_after-EffectTransition : (t : ℕ) (act : EventEffect) (p q : Processor) (m n : List ℕ)
    → EffectTransition flat_memory t act p m (Ok tt) q n
    → act_after act m ≡ Some (q, n)
act_after-EffectTransition t act p q m n d = Leaves-unique (act_after act m) q n (EffectLeadsTo-if_done t act p q m n d)

module _ (program : List (List Instr)) where
  -- The state after an event of a processor, if that exists and the event is enabled.
  abbrev pub state_after_event_of : Option Processor → Event → MachineState (List ℕ) → Option (MachineState (List ℕ))
  state_after_event_of None e s = None
  state_after_event_of (Some p) e s =
      option_map (λ (r : Processor × List ℕ). state (slice_set s.processors (cpu_of e) r.0) r.1)
      (act_after (event_effect program (length s.memory) e p) s.memory)

  -- Computes the state after an event over flat memory; `None` if the event is not enabled.
  abbrev pub state_after_event : Event → MachineState (List ℕ) → Option (MachineState (List ℕ))
  state_after_event e s = state_after_event_of (slice_get s.processors (cpu_of e)) e s

  -- An event that is executed leads to the computed state.
  pub state_after_event-MachineTransition : (e : Event) (s after : MachineState (List ℕ))
      → MachineTransition flat_memory program e s (Ok tt) after
      → state_after_event e s ≡ Some after
  state_after_event-MachineTransition e s after = go (slice_get s.processors (cpu_of e))
    where
      -- By whether the state has the event's processor.
      go : (o : Option Processor)
          → ProcessorTransition flat_memory o program e s (Ok tt) after
          → state_after_event_of o e s ≡ Some after
      go None d = absurd (let e : ◌≡◌ {A = EventResult} (Ok tt) (Err NoCpu) = d.0 in cc)
      go (Some p) d =
          ap (option_map (λ (r : Processor × List ℕ). state (slice_set s.processors (cpu_of e) r.0) r.1))
          (act_after-EffectTransition (cpu_of e) _ p d.0 s.memory d.1 d.2)
          ∙ ap Some (sym d.3)

  module _ (ok : FinalState → Bool) where
    -- Tests the state that was reached, if there is one; otherwise true.
    abbrev holds_if_reached : (MachineState (List ℕ) → Bool) → Option (MachineState (List ℕ)) → Bool
    holds_if_reached so None = true
    holds_if_reached so (Some s) = so s

    -- Tests whether every run from the state ends within n events, with an outcome that passes the test `ok`.
    unfoldable pub every_machine_end_satisfies : ℕ → MachineState (List ℕ) → Bool
    every_machine_end_satisfies zero s = false
    every_machine_end_satisfies (suc n) s =
        (if machine.is_final program s then ok (machine.machine_outcome flat_memory s) else true)
        && (agree_below (λ t. holds_if_reached (every_machine_end_satisfies n) (state_after_event (Step t) s)) (λ t. true)
        (length s.processors)
        && agree_below (λ t. holds_if_reached (every_machine_end_satisfies n) (state_after_event (Drain t) s)) (λ t. true)
        (length s.processors))

    -- An event that is executed is one of a processor of the state.
    cpu_in_range : (e : Event) (s after : MachineState (List ℕ))
        → MachineTransition flat_memory program e s (Ok tt) after
        → cpu_of e < length s.processors
    cpu_in_range e s after = go (slice_get s.processors (cpu_of e)) refl
      where
        -- By whether the state has the event's processor.
        go : (o : Option Processor)
            → slice_get s.processors (cpu_of e) ≡ o
            → ProcessorTransition flat_memory o program e s (Ok tt) after
            → cpu_of e < length s.processors
        go None at d = absurd (let e : ◌≡◌ {A = EventResult} (Ok tt) (Err NoCpu) = d.0 in cc)
        go (Some p) at d = slice_get_within s.processors (cpu_of e) p at

    -- Over flat memory no eviction is executed.
    no_Evict-if_flat_memory : (t x : ℕ) (s after : MachineState (List ℕ))
        → MachineTransition flat_memory program (Evict t x) s (Ok tt) after
        → ⊥
    no_Evict-if_flat_memory t x s after = go (slice_get s.processors t)
      where
        -- By whether the state has the event's processor.
        go : (o : Option Processor) → ProcessorTransition flat_memory o program (Evict t x) s (Ok tt) after → ⊥
        go None d = let e : ◌≡◌ {A = EventResult} (Ok tt) (Err NoCpu) = d.0 in cc
        go (Some p) d =
            not-EffectLeadsTo-evict_event program (length s.memory) t x p d.0 s.memory d.1
            (EffectLeadsTo-if_done t _ p d.0 s.memory d.1 d.2)

    -- If the search from a state passes, every run of the machine from there to a final state has an outcome that passes `ok`.
    pub every_machine_end_satisfies-sound : (n : ℕ) (events : List Event) (s end : MachineState (List ℕ))
        → every_machine_end_satisfies n s ≡ true
        → machine.MachineRunsTo flat_memory program events s end
        → IsTrue (machine.is_final program end)
        → ok (machine.machine_outcome flat_memory end) ≡ true
    unfolding every_machine_end_satisfies
    every_machine_end_satisfies-sound zero events s end so ran final = absurd (false≢true so)
    every_machine_end_satisfies-sound (suc n) [] s end so ran final =
        conditional-true (machine.is_final program end) _
        (subst (λ e. (if machine.is_final program e then ok (machine.machine_outcome flat_memory e) else true) ≡ true) (sym ran)
        (and_parts _ _ so).0) final
    every_machine_end_satisfies-sound (suc n) (Step t ∷ events) s end so ran final =
        let each = agree_below_at _ _ _ t (and_parts _ _ (and_parts _ _ so).1).0 (cpu_in_range (Step t) s _ ran.1) in
        every_machine_end_satisfies-sound n events ran.0 end
        (subst (λ r. holds_if_reached (every_machine_end_satisfies n) r ≡ true)
        (state_after_event-MachineTransition (Step t) s ran.0 ran.1) each) ran.2 final
    every_machine_end_satisfies-sound (suc n) (Drain t ∷ events) s end so ran final =
        let each =
        agree_below_at (λ t. holds_if_reached (every_machine_end_satisfies n) (state_after_event (Drain t) s)) (λ t. true)
        (length s.processors) t (and_parts _ _ (and_parts _ _ so).1).1 (cpu_in_range (Drain t) s ran.0 ran.1) in
        every_machine_end_satisfies-sound n events ran.0 end
        (subst (λ r. holds_if_reached (every_machine_end_satisfies n) r ≡ true)
        (state_after_event-MachineTransition (Drain t) s ran.0 ran.1) each) ran.2 final
    every_machine_end_satisfies-sound (suc n) (Evict t x ∷ events) s end so ran final =
        absurd (no_Evict-if_flat_memory t x s ran.0 ran.1)
