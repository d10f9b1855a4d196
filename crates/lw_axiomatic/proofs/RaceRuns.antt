-- A run that is walked along an execution, seen from one of its events: what was done before it, and what
-- since. RaceFree reads off such a run that the read's thread has a store and no fence since.
use Rattle.lw_axiomatic.proofs.Common.{IsWellScopedProgram, ◌≡◌, ℕ, ◌≤◌, inl, inr, false, List, [], ◌∷◌, map}
use Rattle.lw_axiomatic.proofs.Common.{refl, sym, ap, ◌∙◌, subst, Contains, slice_get, option_map}
use Rattle.lw_axiomatic.proofs.Common.{option_map_or, FinalState, thread_code, not-Contains-nil}
use Rattle.lw_axiomatic.proofs.Common.{Contains-head, Contains-tail, Contains-cons, needs_empty_buffer}
use Rattle.lw_axiomatic.proofs.Common.{x86_language, x86_operation, X86Test, IsCandidate, MemoryEvent}
use Rattle.lw_axiomatic.proofs.Common.{Execution, operation_is, Interleaved, IsStep, InterleavedRunsTo}
use Rattle.lw_axiomatic.proofs.Common.{RunsToWithoutBarrier}
use Rattle.lw_axiomatic.proofs.Walks.{AreFronts, RanBy}

module _ {test : X86Test} (well_scoped : IsWellScopedProgram test) {x : Execution} {o : FinalState}
    (candidate : IsCandidate x86_language test x o) {rank : MemoryEvent → ℕ} {fronts tails : List (List ℕ)}
    (are : AreFronts x86_language test x rank fronts tails) where
  -- The events of the list are executed one after another, each by a step of its thread.
  abbrev Runs : List MemoryEvent → Interleaved → Interleaved → Type 0
  Runs = RanBy well_scoped candidate are

  -- A run from s to `end` that does `events`, split at the event e: the steps before e, the step of e, and the events since. These have no
  -- lower ranks than e.
  pub record Split (events : List MemoryEvent) (s end : Interleaved) (e : MemoryEvent) : Type 0 where
    pub order_before : List ℕ
    pub state_before : Interleaved
    pub run_before : InterleavedRunsTo x86_language test.threads order_before s state_before
    pub state_after_step : Interleaved
    pub step : IsStep x86_language test.threads e.thread state_before state_after_step
    pub position_is : step.thread.position ≡ e.position
    pub events_since : List MemoryEvent
    pub run_since : Runs events_since state_after_step end
    pub since_rank_at_least : (f : MemoryEvent) → Contains events_since f → rank e ≤ rank f
    pub since_among_events : (f : MemoryEvent) → Contains events_since f → Contains events f

  -- A run can be split at each of its events.
  pub Split-of_run : (events : List MemoryEvent) (s end : Interleaved) (e : MemoryEvent)
      → Runs events s end
      → Contains events e
      → Split events s end e
  Split-of_run [] s end e ran is_member = absurd (not-Contains-nil e is_member)
  Split-of_run (f ∷ events) s last e (next, step, at, least, ran) is_member = elim (Contains-cons f e events is_member) [
    | inl is_head ↦ subst (Split (f ∷ events) s last) is_head (record {
      order_before = [];
      state_before = s;
      run_before = refl;
      state_after_step = next;
      step = step;
      position_is = at;
      events_since = events;
      run_since = ran;
      since_rank_at_least = least;
      since_among_events = λ g there. Contains-tail f g events there;
    })
    | inr in_tail ↦
        (let more : Split events next last e = Split-of_run events next last e ran in_tail in
        record {
          order_before = f.thread ∷ more.order_before;
          state_before = more.state_before;
          run_before = (next, step, more.run_before);
          state_after_step = more.state_after_step;
          step = more.step;
          position_is = more.position_is;
          events_since = more.events_since;
          run_since = more.run_since;
          since_rank_at_least = more.since_rank_at_least;
          since_among_events = λ g there. Contains-tail f g events (more.since_among_events g there);
        })
  ]

  -- A run in which none of a thread's events waits for an empty store buffer is quiet for that thread.
  pub RunsToWithoutBarrier-Runs : (q : ℕ) (events : List MemoryEvent) (s end : Interleaved)
      → Runs events s end
      → ((f : MemoryEvent) → Contains events f → f.thread ≡ q → operation_is x86_language test needs_empty_buffer f ≡ false)
      → RunsToWithoutBarrier test q (map (λ (e : MemoryEvent). e.thread) events) s end
  RunsToWithoutBarrier-Runs q [] s end ran each = ran
  RunsToWithoutBarrier-Runs q (f ∷ events) s last (next, step, at, least, ran) each = (
    next,
    step,
    λ own.
        sym (ap (λ o. option_map_or needs_empty_buffer (option_map x86_operation o) false)
        (ap (slice_get (thread_code test.threads f.thread)) (sym at) ∙ step.statement_at))
        ∙ each f (Contains-head f f events refl) own,
    RunsToWithoutBarrier-Runs q events next last ran (λ g there. each g (Contains-tail f g events there)),
  )
