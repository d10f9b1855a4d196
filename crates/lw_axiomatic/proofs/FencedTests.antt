-- The executions of a test that is fenced on all paths are fenced. So the laws of executions give laws of
-- tests.
use Rattle.lw_axiomatic.proofs.Common.{AreOnPath, HasFenceOnPath, IsLocationOnlyWrittenBy, IsOfOneThread}
use Rattle.lw_axiomatic.proofs.Common.{IsFencedWhereShared, IsFencedWhereOthersWrite, writes, location_of}
use Rattle.lw_axiomatic.proofs.Common.{option_and_then, ◌≡◌, ℕ, ◌<◌, inl, inr, Bool, true, false, Option}
use Rattle.lw_axiomatic.proofs.Common.{Some, None, refl, sym, ap, ◌∙◌, subst, arith, true≢false, List, []}
use Rattle.lw_axiomatic.proofs.Common.{length, slice_get, Contains, option_map, slice_index_or, option_map_or}
use Rattle.lw_axiomatic.proofs.Common.{cases_lt, get_or_past, FinalState, thread_code, not-Contains-nil}
use Rattle.lw_axiomatic.proofs.Common.{Instr, Operation, IsFlowPathFrom, is_store, is_load}
use Rattle.lw_axiomatic.proofs.Common.{needs_empty_buffer, x86_language, x86_operation, X86Test, IsCandidate}
use Rattle.lw_axiomatic.proofs.Common.{MemoryEvent, Execution, IsEvent, operation_is, AreStoreAndLoad}
use Rattle.lw_axiomatic.proofs.Common.{HasFenceBetween, IsFenced, IsFencedInAllThreads, first_state}
use Rattle.lw_axiomatic.proofs.Paths.{IsFlowPathFrom-ThreadExecutes}

-- An event of a kind has an instruction of that kind.
instruction_of_kind : (kind : Operation → Bool) (o : Option Instr)
    → option_map_or kind (option_map x86_operation o) false ≡ true
    → (i : Instr) × (o ≡ Some i) × (kind (x86_operation i) ≡ true)
instruction_of_kind kind None e = absurd (true≢false (sym e))
instruction_of_kind kind (Some i) e = (i, refl, e)

module _ {test : X86Test} {x : Execution} {o : FinalState} (candidate : IsCandidate x86_language test x o) where
  -- An event's thread is one of the test's.
  pub event_thread_in_range : (e : MemoryEvent) → IsEvent x e → e.thread < length test.threads
  event_thread_in_range e is_event = elim (cases_lt e.thread (length test.threads)) [
    | inl h ↦ h
    | inr h ↦
        (let is_nil : thread_code x.paths e.thread ≡ [] = get_or_past x.paths e.thread [] (omega (arith, h, candidate.as_many)) in
        absurd (not-Contains-nil e.position (subst (λ (path : List ℕ). Contains path e.position) is_nil is_event)))
  ]

  -- The path of each thread is a whole flow path of its code.
  pub IsFlowPathFrom-of_path : (t : ℕ)
      → t < length test.threads
      → IsFlowPathFrom x86_language (thread_code test.threads t) 0 (thread_code x.paths t)
  IsFlowPathFrom-of_path t in_range =
      let executes = candidate.threads t in_range in
      IsFlowPathFrom-ThreadExecutes x86_language x t (thread_code test.threads t) (thread_code x.paths t)
      (first_state (slice_index_or test.head.init_regs t [])) executes.end executes.executes

  -- A store and a load of an execution are on a path of their thread.
  pub AreOnPath-AreStoreAndLoad : (a b : MemoryEvent)
      → AreStoreAndLoad test x a b
      → (load : Instr) × AreOnPath (thread_code test.threads a.thread) (thread_code x.paths a.thread) a.position b.position load
  AreOnPath-AreStoreAndLoad a b pair =
      let same_thread : b.thread ≡ a.thread = sym pair.po.same_thread in
      let load_b : operation_is x86_language test is_load (record { thread = a.thread; position = b.position }) ≡ true =
      subst (λ t. operation_is x86_language test is_load (record { thread = t; position = b.position }) ≡ true) same_thread
      pair.load in
      let instr = instruction_of_kind is_store (slice_get (thread_code test.threads a.thread) a.position) pair.store in
      let j = instruction_of_kind is_load (slice_get (thread_code test.threads a.thread) b.position) load_b in (
        j.0,
        record {
          path_is = IsFlowPathFrom-of_path a.thread (event_thread_in_range a pair.po.first_event);
          store_on_path = pair.po.first_event;
          load_on_path = subst (λ t. Contains (thread_code x.paths t) b.position) same_thread pair.po.second_event;
          position_lt = pair.po.position_lt;
          store = instr.0;
          store_at = instr.1;
          load_at = j.1;
          stores = instr.2;
          loads = j.2;
        },
      )

  -- A fence on the path between a store and a load is a fence between their events.
  HasFenceBetween-HasFenceOnPath : (a b : MemoryEvent)
      → AreStoreAndLoad test x a b
      → HasFenceOnPath (thread_code test.threads a.thread) (thread_code x.paths a.thread) a.position b.position
      → HasFenceBetween test x a b
  HasFenceBetween-HasFenceOnPath a b pair f = record {
    fence = record { thread = a.thread; position = f.fence_index };
    after_first =
        record { first_event = pair.po.first_event; second_event = f.on_path; same_thread = refl; position_lt = f.after_first };
    before_second = record {
      first_event = f.on_path;
      second_event = pair.po.second_event;
      same_thread = pair.po.same_thread;
      position_lt = f.before_second;
    };
    fence_waits = ap (λ o. option_map_or needs_empty_buffer (option_map x86_operation o) false) f.fence_at ∙ f.fence_waits;
  }

  -- If no other thread's code writes a location, no other thread does.
  pub IsOfOneThread-IsLocationOnlyWrittenBy : (a b : MemoryEvent) (pair : AreStoreAndLoad test x a b)
      → IsLocationOnlyWrittenBy test a.thread (AreOnPath-AreStoreAndLoad a b pair).0
      → IsOfOneThread test x b
  IsOfOneThread-IsLocationOnlyWrittenBy a b pair own c l at_b writing =
      let instr = instruction_of_kind writes (slice_get (thread_code test.threads c.thread) c.position) writing.is_write in
      let located_c : location_of (x86_operation instr.0) ≡ Some l =
      sym (ap (λ o. option_and_then location_of (option_map x86_operation o)) instr.1) ∙ writing.location_is in
      let located_b : location_of (x86_operation (AreOnPath-AreStoreAndLoad a b pair).0) ≡ Some l =
      sym (ap (λ o. option_and_then location_of (option_map x86_operation o))
      (ap (λ t. slice_get (thread_code test.threads t) b.position) (sym pair.po.same_thread)
      ∙ (AreOnPath-AreStoreAndLoad a b pair).1.load_at))
      ∙ at_b in
      own c.thread c.position l instr.0 instr.1 instr.2 located_c located_b ∙ pair.po.same_thread

  -- The executions of a test that is fenced in all threads are fenced.
  pub IsFenced-IsFencedInAllThreads : IsFencedInAllThreads test → IsFenced test x
  IsFenced-IsFencedInAllThreads fenced a b pair =
      let on = AreOnPath-AreStoreAndLoad a b pair in
      HasFenceBetween-HasFenceOnPath a b pair (fenced a.thread (thread_code x.paths a.thread) a.position b.position on.0 on.1)

  -- The executions of a test that is fenced before loads of what other threads write are fenced before such loads.
  pub IsFencedWhereShared-IsFencedWhereOthersWrite : IsFencedWhereOthersWrite test → IsFencedWhereShared test x
  IsFencedWhereShared-IsFencedWhereOthersWrite fenced a b pair =
      let on = AreOnPath-AreStoreAndLoad a b pair in
      elim (fenced a.thread (thread_code x.paths a.thread) a.position b.position on.0 on.1) [
        | inl f ↦ inl (HasFenceBetween-HasFenceOnPath a b pair f)
        | inr own ↦ inr (IsOfOneThread-IsLocationOnlyWrittenBy a b pair own)
      ]
