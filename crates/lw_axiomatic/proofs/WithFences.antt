-- An execution of a test is one of the test with MFENCEs inserted, in which each thread passes the inserted
-- ones too. The test with them is called the longer one here, the test without them the shorter one.
-- SpareFences shows that this execution satisfies the axioms, if the fences are spare.
use Rattle.lw_axiomatic.proofs.Common.{IsWellScopedThread, IsWellScopedProgram, Operation, Bool, Guard}
use Rattle.lw_axiomatic.proofs.Common.{Branch, operation_is, option_map_or, false, location, option_and_then}
use Rattle.lw_axiomatic.proofs.Common.{location_of, Some, none-some, slice_get_past, FinalState, IsCandidate}
use Rattle.lw_axiomatic.proofs.Common.{first_state, slice_index_or, All-get_or, IsEvent, Reads, reads, Writes}
use Rattle.lw_axiomatic.proofs.Common.{IsReadFrom, Option, None, TestHead, slice_index, IsLast}
use Rattle.lw_axiomatic.proofs.Common.{HasOutcomeShape, ℕ, List, ◌<◌, length, ◌≡◌, thread_code, zero, []}
use Rattle.lw_axiomatic.proofs.Common.{refl, arith, suc, ◌∷◌, HasInsertedFencesInCode, X86Test}
use Rattle.lw_axiomatic.proofs.Common.{HasInsertedFences, ◌≤◌, get_or_past, subst, Instr, sym, ◌⊎◌, inl, inr}
use Rattle.lw_axiomatic.proofs.Common.{cases_lt, MemoryEvent, Execution, option_map, x86_language}
use Rattle.lw_axiomatic.proofs.Common.{ThreadState, ThreadExecutes, Contains, true≢false, Contains-cons}
use Rattle.lw_axiomatic.proofs.Common.{slice_get_within, Contains-tail, ◌+◌, ap, writes, x86_operation, true}
use Rattle.lw_axiomatic.proofs.Common.{word_written, state_after, retarget_to_blocks, IsSuccessor, ◌∙◌}
use Rattle.lw_axiomatic.proofs.Common.{Contains-head, not-Contains-nil, same_Some, slice_get, IsInsertedAt}
use Rattle.lw_axiomatic.proofs.Common.{at_next, Mfence}
use Rattle.lw_axiomatic.proofs.EventLists.{event}
use Rattle.lw_axiomatic.proofs.Paths.{IsSuccessor-state_after}
use Rattle.lw_axiomatic.proofs.Inserted.{IsInsertedFence, IsKeptAt, IsInsertedFence-or_kept}
use Rattle.lw_axiomatic.proofs.Inserted.{not-IsKeptAt-if_inserted, block-in_range, kept_index}
use Rattle.lw_axiomatic.proofs.Inserted.{kept_index-kept, kept_index-block, state_at_block}
use Rattle.lw_axiomatic.proofs.Inserted.{kind-retarget_to_blocks, location-retarget_to_blocks}
use Rattle.lw_axiomatic.proofs.Inserted.{word_written-retarget_to_blocks, state_after-retarget_to_blocks}
use Rattle.lw_axiomatic.proofs.FromInterleaving.{ThreadExecutes-same_words}
use Rattle.lw_axiomatic.proofs.FencedTests.{event_thread_in_range}

-- ---- Lists of paths.

-- If there is a path with the property P t for each t below n, there is a list of such paths.
pub paths-from_each : (n : ℕ) (P : ℕ → List ℕ → Type 0)
    → ((t : ℕ) → t < n → (path : List ℕ) × P t path)
    → (paths : List (List ℕ)) × (length paths ≡ n) × ((t : ℕ) → t < n → P t (thread_code paths t))
paths-from_each zero P each = ([], refl, λ t within. absurd (omega arith))
paths-from_each (suc n) P each =
    let rest = paths-from_each n (λ t. P (suc t)) (λ t within. each (suc t) (omega arith)) in
    let first = each 0 (omega arith) in
    (first.0 ∷ rest.0, omega (arith, rest.1), paths-from_each_cons first rest)
  where
    -- The first path and the rest, each with its property.
    paths-from_each_cons : (first : (path : List ℕ) × P 0 path)
        (rest : (paths : List (List ℕ)) × (length paths ≡ n) × ((t : ℕ) → t < n → P (suc t) (thread_code paths t))) (t : ℕ)
        → t < suc n
        → P t (thread_code (first.0 ∷ rest.0) t)
    paths-from_each_cons first rest zero in_range = first.1
    paths-from_each_cons first rest (suc t) in_range = rest.2 t (omega arith)

-- ---- The code of each thread.

-- The empty code is the empty code with no MFENCE inserted.
HasInsertedFencesInCode-nil : HasInsertedFencesInCode [] []
HasInsertedFencesInCode-nil =
    record { block = λ index. 0; first = refl; each = λ index i there. absurd cc; last = λ index past. refl }

module _ {test fenced : X86Test} (fencing : HasInsertedFences test fenced) where
  -- Past the last thread both codes are empty, so one is the other with no MFENCE inserted.
  pub code_at-past : (t : ℕ)
      → length test.threads ≤ t
      → HasInsertedFencesInCode (thread_code test.threads t) (thread_code fenced.threads t)
  code_at-past t past =
      let one = get_or_past test.threads t [] past in
      let other = get_or_past fenced.threads t [] (omega (arith, past, fencing.as_many)) in
      subst (λ (code : List Instr). HasInsertedFencesInCode code (thread_code fenced.threads t)) (sym one)
      (subst (λ (code : List Instr). HasInsertedFencesInCode [] code) (sym other) HasInsertedFencesInCode-nil)

  -- A thread's code in the longer test; threads that do not exist have no code.
  abbrev pub code_at-by_range : (t : ℕ)
      → (t < length test.threads) ⊎ (length test.threads ≤ t)
      → HasInsertedFencesInCode (thread_code test.threads t) (thread_code fenced.threads t)
  code_at-by_range t (inl within) = fencing.threads t within
  code_at-by_range t (inr past) = code_at-past t past

  -- The code of each thread of the longer test is that of the shorter one with MFENCEs inserted.
  abbrev pub code_at : (t : ℕ) → HasInsertedFencesInCode (thread_code test.threads t) (thread_code fenced.threads t)
  code_at t = code_at-by_range t (cases_lt t (length test.threads))

  -- Returns the event of the shorter test at the block of an event of the longer one.
  abbrev pub event_without : MemoryEvent → MemoryEvent
  event_without e = event e.thread ((code_at e.thread).block e.position)

  -- Returns the event of the longer test at the index of an event of the shorter one.
  abbrev pub event_with : MemoryEvent → MemoryEvent
  event_with e = event e.thread (kept_index (code_at e.thread) e.position)

  -- Returns the execution of the longer test with these paths: all else is as in an execution of the shorter one.
  abbrev pub execution_with : Execution → List (List ℕ) → Execution
  execution_with x paths = record {
    paths = paths;
    read = λ e. x.read (event_without e);
    written = λ e. x.written (event_without e);
    rf = λ e. option_map event_with (x.rf (event_without e));
    co = λ e. x.co (event_without e);
  }

-- ---- One thread.

module _ {test fenced : X86Test} (fencing : HasInsertedFences test fenced) (x : Execution) (t : ℕ) where
  -- The thread's code in the shorter test, and in the longer one.
  abbrev code : List Instr
  code = thread_code test.threads t

  -- The thread's code in the longer test.
  abbrev longer : List Instr
  longer = thread_code fenced.threads t

  -- How the fences are inserted into it.
  abbrev inserted : HasInsertedFencesInCode code longer
  inserted = code_at fencing t

  -- The execution of the longer test: everything as in the shorter one.
  abbrev longer_execution : Execution
  longer_execution = execution_with fencing x []

  -- The thread's state in the longer code: at the index of the same instruction.
  abbrev state_in_longer : ThreadState → ThreadState
  state_in_longer = state_at_block inserted.block

  -- A route through the longer code from a state to the end. It passes the instructions of a path of the shorter code, and MFENCEs.
  pub record IsRoute (path : List ℕ) (s end : ThreadState) (route : List ℕ) : Type 0 where
    pub last : ThreadState
    pub executes : ThreadExecutes x86_language longer_execution t longer route s last
    pub ends : end ≡ state_in_longer last
    pub on_path_or_inserted : (index : ℕ)
        → Contains route index
        → (index < length longer) × (IsInsertedAt inserted index ⊎ Contains path (inserted.block index))
    pub passes_path : (j : ℕ) → Contains path j → Contains route (kept_index inserted j)

  -- The path in the longer code is one along which the thread goes from one state to another.
  abbrev Route : List ℕ → ThreadState → ThreadState → Type 0
  Route path s end = (route : List ℕ) × IsRoute path s end route

  -- A thread at an inserted MFENCE has a route if it has one from the next instruction.
  Route-pass_fence : (path : List ℕ) (s end : ThreadState)
      → IsInsertedFence inserted s.position
      → Route path (at_next s s.regs s.zero_flag) end
      → Route path s end
  Route-pass_fence path s end extra (route, rest) = (
    s.position ∷ route,
    record {
      last = rest.last;
      executes = record {
        position_is = refl;
        statement = Mfence;
        statement_at = extra.fence;
        written_is = λ writing. absurd (true≢false (sym writing));
        rest = rest.executes;
      };
      ends = rest.ends;
      on_path_or_inserted = λ index among. elim (Contains-cons s.position index route among) [
        | inl is_head ↦ (
          subst (λ k. k < length longer) is_head (slice_get_within longer s.position Mfence extra.fence),
          inl (subst (IsInsertedAt inserted) is_head extra.inserted),
        )
        | inr in_tail ↦ rest.on_path_or_inserted index in_tail
      ];
      passes_path = λ j among. Contains-tail s.position (kept_index inserted j) route (rest.passes_path j among);
    },
  )

  -- The thread is not at an inserted MFENCE.
  abbrev IsPastFences : ThreadState → Type 0
  IsPastFences s = IsKeptAt inserted s.position ⊎ (s.position ≡ length longer)

  -- A thread has a route if it has one from where it is past the inserted MFENCEs that are next.
  Route-past_fences : (path : List ℕ) (end : ThreadState) (fuel : ℕ) (s : ThreadState)
      → length longer ≤ s.position + fuel
      → s.position ≤ length longer
      → ThreadExecutes x86_language x t code path (state_in_longer s) end
      → ((r : ThreadState)
      → ThreadExecutes x86_language x t code path (state_in_longer r) end
      → IsPastFences r
      → Route path r end)
      → Route path s end
  Route-past_fences path end zero s enough within executes onward = onward s executes (inr (omega arith))
  Route-past_fences path end (suc n) s enough within executes onward = elim (cases_lt s.position (length longer)) [
    | inr past ↦ onward s executes (inr (omega arith))
    | inl before ↦ elim (IsInsertedFence-or_kept inserted s.position before) [
      | inr kept ↦ onward s executes (inl kept)
      | inl extra ↦
          Route-pass_fence path s end extra
          (Route-past_fences path end n (at_next s s.regs s.zero_flag) (omega arith) (omega arith)
          (subst (λ (r : ThreadState). ThreadExecutes x86_language x t code path r end)
          (ap (λ p. record s { position = p }) (sym extra.inserted)) executes) onward)
    ]
  ]

  -- Instruction i, at position j of the shorter code, writes what the execution says, and the path continues after it.
  abbrev DoesStep : List ℕ → ThreadState → ThreadState → ℕ → Instr → Type 0
  DoesStep path r end j i =
      (writes (x86_operation i) ≡ true → x.written (event t j) ≡ word_written (x86_operation i) r.regs (x.read (event t j)))
      × ThreadExecutes x86_language x t code path (state_after (x86_operation i) (state_in_longer r) (x.read (event t j))) end

  -- A thread at an instruction of its path has a route if it has one after that instruction.
  Route-take_step : {locs : ℕ} (well_scoped : IsWellScopedThread x86_language locs longer) (j : ℕ) (path : List ℕ)
      (r end : ThreadState) (kept : IsKeptAt inserted r.position)
      → inserted.block r.position ≡ j
      → DoesStep path r end (inserted.block r.position) (retarget_to_blocks inserted.block kept.instr)
      → ((s : ThreadState)
      → s.position ≤ length longer
      → ThreadExecutes x86_language x t code path (state_in_longer s) end
      → Route path s end)
      → Route (j ∷ path) r end
  Route-take_step well_scoped j path r end kept number did onward =
      Route-cons (onward next next_within
      (subst (λ (s : ThreadState). ThreadExecutes x86_language x t code path s end)
      (state_after-retarget_to_blocks inserted.block kept.instr r word_read kept.ends.1) did.1))
    where
      -- The word that the step reads.
      word_read : ℕ
      word_read = x.read (event t (inserted.block r.position))

      -- The thread after the step.
      next : ThreadState
      next = state_after (x86_operation kept.instr) r word_read

      -- After the step the thread's position is in the longer code, or at its end.
      next_within : next.position ≤ length longer
      next_within = next_in_range-IsSuccessor (IsSuccessor-state_after (x86_operation kept.instr) r word_read)
        where
          -- A successor of the instruction is in the longer code.
          next_in_range-IsSuccessor : IsSuccessor (x86_operation kept.instr) r.position next.position
              → next.position ≤ length longer
          next_in_range-IsSuccessor (inl (goes, is)) = omega (arith, is, slice_get_within longer r.position kept.instr kept.found)
          next_in_range-IsSuccessor (inr target) = (well_scoped.forward r.position kept.instr kept.found next.position target).1

      -- A step before a route makes a longer route.
      Route-cons : Route path next end → Route (j ∷ path) r end
      Route-cons (route, rest) = (
        r.position ∷ route,
        record {
          last = rest.last;
          executes = record {
            position_is = refl;
            statement = kept.instr;
            statement_at = kept.found;
            written_is = λ writing.
                did.0 (kind-retarget_to_blocks inserted.block writes (λ c to other. refl) kept.instr ∙ writing)
                ∙ word_written-retarget_to_blocks inserted.block kept.instr r.regs word_read;
            rest = rest.executes;
          };
          ends = rest.ends;
          on_path_or_inserted = λ index among. elim (Contains-cons r.position index route among) [
            | inl is_head ↦ (
              subst (λ k. k < length longer) is_head (slice_get_within longer r.position kept.instr kept.found),
              inr (Contains-head j (inserted.block index) path (sym number ∙ ap inserted.block is_head)),
            )
            | inr in_tail ↦ (
              (rest.on_path_or_inserted index in_tail).0,
              elim ((rest.on_path_or_inserted index in_tail).1) [
                | inl inserted ↦ inl inserted
                | inr on ↦ inr (Contains-tail j (inserted.block index) path on)
              ],
            )
          ];
          passes_path = λ k among. elim (Contains-cons j k path among) [
            | inl is_head ↦
                Contains-head r.position (kept_index inserted k) route
                (sym (kept_index-block inserted r.position kept) ∙ ap (kept_index inserted) (number ∙ is_head))
            | inr in_tail ↦ Contains-tail r.position (kept_index inserted k) route (rest.passes_path k in_tail)
          ];
        },
      )

  -- A thread that goes along a path of the shorter code has a route through the longer one.
  pub Route-exists : {locs : ℕ} (well_scoped : IsWellScopedThread x86_language locs longer) (path : List ℕ) (s end : ThreadState)
      → s.position ≤ length longer
      → ThreadExecutes x86_language x t code path (state_in_longer s) end
      → Route path s end
  Route-exists well_scoped [] s end within executes =
      Route-past_fences [] end (length longer) s (omega arith) within executes (λ r ended stands. elim stands [
        | inl kept ↦ absurd (omega (arith, block-in_range inserted r.position kept, ended.0))
        | inr last ↦ (
          [],
          record {
            last = r;
            executes = (last, refl);
            ends = ended.1;
            on_path_or_inserted = λ index among. absurd (not-Contains-nil index among);
            passes_path = λ j among. absurd (not-Contains-nil j among);
          },
        )
      ])
  Route-exists well_scoped (j ∷ path) s end within executes =
      Route-past_fences (j ∷ path) end (length longer) s (omega arith) within executes (λ r onward stands. elim stands [
        | inl kept ↦
            (let number : inserted.block r.position ≡ j = onward.position_is in
            let same : onward.statement ≡ retarget_to_blocks inserted.block kept.instr =
            same_Some onward.statement (retarget_to_blocks inserted.block kept.instr)
            (sym onward.statement_at ∙ ap (slice_get code) (sym number) ∙ kept.ends.0) in
            let here : DoesStep path r end j (retarget_to_blocks inserted.block kept.instr) =
            subst (DoesStep path r end j) same (onward.written_is, onward.rest) in
            Route-take_step well_scoped j path r end kept number
            (subst (λ k. DoesStep path r end k (retarget_to_blocks inserted.block kept.instr)) (sym number) here)
            (λ u in_range going. Route-exists well_scoped path u end in_range going))
        | inr last ↦ absurd (omega (
          arith,
          inserted.last r.position (omega (arith, last)),
          onward.position_is,
          slice_get_within code j onward.statement onward.statement_at,
        ))
      ])

-- ---- Kinds of events.

module _ {test fenced : X86Test} (fencing : HasInsertedFences test fenced) where
  -- An event at an instruction of both codes is of the same kinds in both tests.
  pub kind-event_without : (kind : Operation → Bool)
      → ((c : Guard) (to other : ℕ) → kind (Branch c to) ≡ kind (Branch c other))
      → (e : MemoryEvent)
      → IsKeptAt (code_at fencing e.thread) e.position
      → operation_is x86_language fenced kind e ≡ operation_is x86_language test kind (event_without fencing e)
  kind-event_without kind jumps e kept =
      ap (λ i. option_map_or kind (option_map x86_operation i) false) kept.found
      ∙ sym (kind-retarget_to_blocks (code_at fencing e.thread).block kind jumps kept.instr)
      ∙ sym (ap (λ i. option_map_or kind (option_map x86_operation i) false) kept.ends.0)

  -- An event at an instruction of both codes accesses the same location in both tests.
  pub location-event_without : (e : MemoryEvent)
      → IsKeptAt (code_at fencing e.thread) e.position
      → location x86_language fenced e ≡ location x86_language test (event_without fencing e)
  location-event_without e kept =
      ap (λ i. option_and_then location_of (option_map x86_operation i)) kept.found
      ∙ sym (location-retarget_to_blocks (code_at fencing e.thread).block kept.instr)
      ∙ sym (ap (λ i. option_and_then location_of (option_map x86_operation i)) kept.ends.0)

  -- An event that accesses a location is at an instruction of both codes.
  pub IsKeptAt-located : (e : MemoryEvent) (l : ℕ)
      → e.position < length (thread_code fenced.threads e.thread)
      → location x86_language fenced e ≡ Some l
      → IsKeptAt (code_at fencing e.thread) e.position
  IsKeptAt-located e l in_range located = elim (IsInsertedFence-or_kept (code_at fencing e.thread) e.position in_range) [
    | inr kept ↦ kept
    | inl extra ↦
        absurd (none-some l (sym (ap (λ i. option_and_then location_of (option_map x86_operation i)) extra.fence) ∙ located))
  ]

  -- From an event of the shorter test to the longer one and back is the same event.
  pub event_without-event_with : (e : MemoryEvent)
      → e.position < length (thread_code test.threads e.thread)
      → event_without fencing (event_with fencing e) ≡ e
  event_without-event_with e in_range = ap (event e.thread) (kept_index-kept (code_at fencing e.thread) e.position in_range).1

  -- From an event at an instruction of both codes to the shorter test and back is the same event.
  pub event_with-event_without : (e : MemoryEvent)
      → IsKeptAt (code_at fencing e.thread) e.position
      → event_with fencing (event_without fencing e) ≡ e
  event_with-event_without e kept = ap (event e.thread) (kept_index-block (code_at fencing e.thread) e.position kept)

-- An event that accesses a location is at an instruction of its thread's code.
pub position-in_code : (test : X86Test) (e : MemoryEvent) (l : ℕ)
    → location x86_language test e ≡ Some l
    → e.position < length (thread_code test.threads e.thread)
position-in_code test e l located = elim (cases_lt e.position (length (thread_code test.threads e.thread))) [
  | inl within ↦ within
  | inr past ↦
      absurd (none-some l
      (sym (ap (λ i. option_and_then location_of (option_map x86_operation i)) (slice_get_past _ e.position past)) ∙ located))
]

-- ---- The whole execution.

module _ {test fenced : X86Test} (fencing : HasInsertedFences test fenced) (well_scoped : IsWellScopedProgram fenced)
    {x : Execution} {o : FinalState} (candidate : IsCandidate x86_language test x o) where
  -- A route of a thread from its start, to an end with the registers of the outcome.
  pub record IsThreadRoute (t : ℕ) (route : List ℕ) : Type 0 where
    end : ThreadState
    is_route : IsRoute fencing x t (thread_code x.paths t) (first_state (slice_index_or test.head.init_regs t [])) end route
    regs : slice_index_or o.regs t [] ≡ end.regs

  -- Each thread has a route.
  route_of : (t : ℕ) → t < length test.threads → (route : List ℕ) × IsThreadRoute t route
  route_of t before =
      let locs = length fenced.head.locs in
      let thread_ok : IsWellScopedThread x86_language locs (thread_code fenced.threads t) =
      All-get_or (IsWellScopedThread x86_language locs) fenced.threads t [] (omega (arith, before, fencing.as_many))
      well_scoped.code in
      let executes = candidate.threads t before in
      let s = first_state (slice_index_or test.head.init_regs t []) in
      let r =
      Route-exists fencing x t thread_ok (thread_code x.paths t) s executes.end (omega arith)
      (subst (λ p.
      ThreadExecutes x86_language x t (thread_code test.threads t) (thread_code x.paths t) (record s { position = p })
      executes.end) (sym (code_at fencing t).first) executes.executes) in
      (r.0, record { end = executes.end; is_route = r.1; regs = executes.regs_are })

  -- There is a list of routes, one for each thread.
  pub routes : (paths : List (List ℕ))
      × (length paths ≡ length test.threads)
      × ((t : ℕ) → t < length test.threads → IsThreadRoute t (thread_code paths t))
  routes = paths-from_each (length test.threads) IsThreadRoute route_of

  -- Returns the execution of the longer test along these routes.
  abbrev pub with_fences : Execution
  with_fences = execution_with fencing x routes.0

  -- The thread of an event is a thread of the test.
  pub thread-in_range : (e : MemoryEvent) → IsEvent with_fences e → e.thread < length test.threads
  thread-in_range e among = elim (cases_lt e.thread (length test.threads)) [
    | inl before ↦ before
    | inr past ↦
        (let is_nil : thread_code routes.0 e.thread ≡ [] = get_or_past routes.0 e.thread [] (omega (arith, past, routes.1)) in
        absurd (not-Contains-nil e.position (subst (λ (path : List ℕ). Contains path e.position) is_nil among)))
  ]

  -- An event is at an instruction of its thread's code.
  pub position-in_range : (e : MemoryEvent) → IsEvent with_fences e → e.position < length (thread_code fenced.threads e.thread)
  position-in_range e among = ((routes.2 e.thread (thread-in_range e among)).is_route.on_path_or_inserted e.position among).0

  -- An event at an instruction of both codes is one of the shorter test's execution.
  pub IsEvent-event_without : (e : MemoryEvent)
      → IsEvent with_fences e
      → IsKeptAt (code_at fencing e.thread) e.position
      → IsEvent x (event_without fencing e)
  IsEvent-event_without e among kept =
      elim ((routes.2 e.thread (thread-in_range e among)).is_route.on_path_or_inserted e.position among).1 [
        | inl inserted ↦ absurd (not-IsKeptAt-if_inserted (code_at fencing e.thread) e.position inserted kept)
        | inr on ↦ on
      ]

  -- An event of the shorter test's execution is one of the longer test's.
  pub IsEvent-event_with : (e : MemoryEvent) → IsEvent x e → IsEvent with_fences (event_with fencing e)
  IsEvent-event_with e among = (routes.2 e.thread (event_thread_in_range candidate e among)).is_route.passes_path e.position among

  -- An event of the execution that accesses a location is at an instruction of both codes.
  pub IsKeptAt-of_event : (e : MemoryEvent) (l : ℕ)
      → IsEvent with_fences e
      → location x86_language fenced e ≡ Some l
      → IsKeptAt (code_at fencing e.thread) e.position
  IsKeptAt-of_event e l among located = IsKeptAt-located fencing e l (position-in_range e among) located

  -- An event that reads a location reads it in the shorter test.
  pub Reads-event_without : (e : MemoryEvent) (l : ℕ)
      → Reads x86_language fenced with_fences e l
      → Reads x86_language test x (event_without fencing e) l
  Reads-event_without e l reading =
      let kept = IsKeptAt-of_event e l reading.is_event reading.location_is in
      record {
        is_event = IsEvent-event_without e reading.is_event kept;
        location_is = sym (location-event_without fencing e kept) ∙ reading.location_is;
        is_read = sym (kind-event_without fencing reads (λ c to other. refl) e kept) ∙ reading.is_read;
      }

  -- An event that writes a location writes it in the shorter test.
  pub Writes-event_without : (e : MemoryEvent) (l : ℕ)
      → Writes x86_language fenced with_fences e l
      → Writes x86_language test x (event_without fencing e) l
  Writes-event_without e l writing =
      let kept = IsKeptAt-of_event e l writing.is_event writing.location_is in
      record {
        is_event = IsEvent-event_without e writing.is_event kept;
        location_is = sym (location-event_without fencing e kept) ∙ writing.location_is;
        is_write = sym (kind-event_without fencing writes (λ c to other. refl) e kept) ∙ writing.is_write;
      }

  -- An event of the shorter test that writes a location writes it in the longer one.
  Writes-event_with : (e : MemoryEvent) (l : ℕ)
      → Writes x86_language test x e l
      → Writes x86_language fenced with_fences (event_with fencing e) l
  Writes-event_with e l writing =
      let low = position-in_code test e l writing.location_is in
      let kept = (kept_index-kept (code_at fencing e.thread) e.position low).0 in
      let back : event_without fencing (event_with fencing e) ≡ e = event_without-event_with fencing e low in
      record {
        is_event = IsEvent-event_with e writing.is_event;
        location_is =
            location-event_without fencing (event_with fencing e) kept
            ∙ ap (location x86_language test) back
            ∙ writing.location_is;
        is_write =
            kind-event_without fencing writes (λ c to other. refl) (event_with fencing e) kept
            ∙ ap (operation_is x86_language test writes) back
            ∙ writing.is_write;
      }

  -- Each read has the word of the write that it reads from.
  IsReadFrom-with_fences : (r : MemoryEvent) (l : ℕ)
      → Reads x86_language fenced with_fences r l
      → IsReadFrom x86_language fenced with_fences r l (with_fences.rf r)
  IsReadFrom-with_fences r l reading =
      IsReadFrom-of_source (x.rf (event_without fencing r))
      (candidate.rf (event_without fencing r) l (Reads-event_without r l reading))
    where
      -- By the source that the read has in the shorter test.
      IsReadFrom-of_source : (q : Option MemoryEvent)
          → IsReadFrom x86_language test x (event_without fencing r) l q
          → IsReadFrom x86_language fenced with_fences r l (option_map (event_with fencing) q)
      IsReadFrom-of_source None from = from ∙ ap (λ (h : TestHead). slice_index h.init_words l) (sym fencing.head)
      IsReadFrom-of_source (Some w) from = record {
        write = Writes-event_with w l from.write;
        word_is =
            from.word_is
            ∙ ap x.written (sym (event_without-event_with fencing w (position-in_code test w l from.write.location_is)));
      }

  -- Two writes to one location with the same index in coherence order are equal.
  co-injective : (w v : MemoryEvent) (l : ℕ)
      → Writes x86_language fenced with_fences w l
      → Writes x86_language fenced with_fences v l
      → with_fences.co w ≡ with_fences.co v
      → w ≡ v
  co-injective w v l writing also same =
      let one : event_without fencing w ≡ event_without fencing v =
      candidate.co (event_without fencing w) (event_without fencing v) l (Writes-event_without w l writing)
      (Writes-event_without v l also) same in
      sym (event_with-event_without fencing w (IsKeptAt-of_event w l writing.is_event writing.location_is))
      ∙ ap (event_with fencing) one
      ∙ event_with-event_without fencing v (IsKeptAt-of_event v l also.is_event also.location_is)

  -- The last words are those of the outcome.
  IsLast-with_fences : (l : ℕ) → l < length fenced.head.locs → IsLast x86_language fenced with_fences l (slice_index o.words l)
  IsLast-with_fences l before =
      elim (candidate.words l (omega (arith, before, ap (λ (h : TestHead). length h.locs) fencing.head))) [
        | inl none ↦ inl (
          λ e writing. none.0 (event_without fencing e) (Writes-event_without e l writing),
          none.1 ∙ ap (λ (h : TestHead). slice_index h.init_words l) (sym fencing.head),
        )
        | inr (e, writing, last, word) ↦
            (let back : event_without fencing (event_with fencing e) ≡ e =
            event_without-event_with fencing e (position-in_code test e l writing.location_is) in
            inr (
              event_with fencing e,
              Writes-event_with e l writing,
              λ v also.
                  subst (λ (z : MemoryEvent). x.co (event_without fencing v) ≤ x.co z) (sym back)
                  (last (event_without fencing v) (Writes-event_without v l also)),
              word ∙ ap x.written (sym back),
            ))
      ]

  -- The execution is a candidate of the longer test, with the same outcome.
  pub IsCandidate-with_fences : IsCandidate x86_language fenced with_fences o
  IsCandidate-with_fences = record {
    as_many = routes.1 ∙ sym fencing.as_many;
    threads = λ t before.
        (let route = routes.2 t (omega (arith, before, fencing.as_many)) in
        let regs : slice_index_or test.head.init_regs t [] ≡ slice_index_or fenced.head.init_regs t [] =
        ap (λ (h : TestHead). slice_index_or h.init_regs t []) (sym fencing.head) in
        record {
          end = route.is_route.last;
          executes =
              subst (λ (rows : List ℕ).
              ThreadExecutes x86_language with_fences t (thread_code fenced.threads t) (thread_code routes.0 t) (first_state rows)
              route.is_route.last) regs
              (ThreadExecutes-same_words x86_language (execution_with fencing x []) with_fences t (thread_code fenced.threads t)
              (thread_code routes.0 t) (first_state (slice_index_or test.head.init_regs t [])) route.is_route.last
              (λ h c. (refl, refl)) route.is_route.executes);
          regs_are = route.regs ∙ ap (λ (s : ThreadState). s.regs) route.is_route.ends;
        });
    rf = IsReadFrom-with_fences;
    co = co-injective;
    words = IsLast-with_fences;
    of_test =
        subst (λ n. HasOutcomeShape n (length fenced.head.locs) o) (sym fencing.as_many)
        (subst (λ n. HasOutcomeShape (length test.threads) n o) (ap (λ (h : TestHead). length h.locs) (sym fencing.head))
        candidate.of_test);
  }
