-- A run by interleaving is a sequentially consistent execution, in either language. By induction from the end of the run: the
-- first event precedes all events of the rest, and what the rest finds at its start, it reads from that event.
use Rattle.lw_axiomatic.proofs.Common.{ThreadExecutesTo, IsWellScoped, IsWellScopedThread, ◌≡◌, ◌≢◌, ℕ, zero}
use Rattle.lw_axiomatic.proofs.Common.{suc, ◌<◌, ◌≤◌, inl, inr, Bool, true, false, List, [], ◌∷◌, length, map}
use Rattle.lw_axiomatic.proofs.Common.{Option, Some, None, refl, sym, ap, ap₂, ◌∙◌, subst, arith, slice_get}
use Rattle.lw_axiomatic.proofs.Common.{slice_set, Contains, true≢false, length-set, slice_index}
use Rattle.lw_axiomatic.proofs.Common.{slice_index_or, option_map, option_and_then, option_map_or, cases_eq}
use Rattle.lw_axiomatic.proofs.Common.{get_or_past, get_or-set_same, get_or-set_other, length-map, All-get_or}
use Rattle.lw_axiomatic.proofs.Common.{none-some, same_Some, slice_get_within, get_or_from_slice_get}
use Rattle.lw_axiomatic.proofs.Common.{slice_get-map, slice_get-slice_set_same, slice_get-slice_set_other}
use Rattle.lw_axiomatic.proofs.Common.{slice_get-in_range, slice_get-map_inv, FinalState, HasOutcomeShape}
use Rattle.lw_axiomatic.proofs.Common.{thread_code, IsFlowSuccessor-in_range, not-Contains-nil, Contains-head}
use Rattle.lw_axiomatic.proofs.Common.{Contains-tail, Contains-cons, IsAscendingFrom}
use Rattle.lw_axiomatic.proofs.Common.{IsAscendingFrom-lower_bound, IsAscendingFrom-flow_path}
use Rattle.lw_axiomatic.proofs.Common.{JumpsForward-thread, Operation, IsFlowSuccessor, location_of, writes}
use Rattle.lw_axiomatic.proofs.Common.{Test, IsWellFormedStatement, ThreadExecutes, IsReadFrom, IsLast}
use Rattle.lw_axiomatic.proofs.Common.{MemoryEvent, Execution, IsEvent, operation_is, location, Reads, Writes}
use Rattle.lw_axiomatic.proofs.Common.{ScOrder, IsScOutcome, ThreadState, first_state, state_after}
use Rattle.lw_axiomatic.proofs.Common.{word_written, AllByRecursion, registers, Language, Interleaved}
use Rattle.lw_axiomatic.proofs.Common.{read_value, words_after, IsStep, InterleavedRunsTo, IsEnd, start}
use Rattle.lw_axiomatic.proofs.Common.{InterleavingOutcome}
use Rattle.lw_axiomatic.proofs.EventLists.{event}
use Rattle.lw_axiomatic.proofs.Decisions.{Decidable, decided_event_equal, decided_exists_location}
use Rattle.lw_axiomatic.proofs.Decisions.{decided_and, decided_number, decided_true}
use Rattle.lw_axiomatic.proofs.Paths.{IsFlowPathFrom-ThreadExecutes, IsSuccessor-state_after}
use Rattle.lw_axiomatic.proofs.Indices.{in_list}
use Rattle.lw_axiomatic.proofs.StepStates.{memory_case, read_value-location_of, state_after-register_count}

-- Picks the first of two if a decided statement holds, and otherwise the second.
abbrev pick : {P X : Type 0} → Decidable P → X → X → X
pick (inl p) a b = a
pick (inr not) a b = b

-- If the decided statement holds, the first of the two is picked.
pick-if_holds : {P X : Type 0} (d : Decidable P) (a b : X) → P → pick d a b ≡ a
pick-if_holds (inl p) a b h = refl
pick-if_holds (inr not) a b h = absurd (not h)

-- If the decided statement does not hold, the second of the two is picked.
pick-if_fails : {P X : Type 0} (d : Decidable P) (a b : X) → (P → ⊥) → pick d a b ≡ b
pick-if_fails (inl p) a b h = absurd (h p)
pick-if_fails (inr not) a b h = refl

-- If all rows have six registers, the row at an index has.
row_length : (rows : List (List ℕ)) (t : ℕ) (row : List ℕ)
    → AllByRecursion (λ (r : List ℕ). length r ≡ registers) rows
    → slice_get rows t ≡ Some row
    → length row ≡ registers
row_length [] t row all found_at = absurd (none-some row found_at)
row_length (r ∷ rows) zero row all found_at = ap length (sym (same_Some r row found_at)) ∙ all.0
row_length (r ∷ rows) (suc t) row all found_at = row_length rows t row all.1 found_at

-- If all threads have all registers, each row of their registers has.
row_lengths-of_threads : (ths : List ThreadState)
    → ((t : ℕ) (th : ThreadState) → slice_get ths t ≡ Some th → length th.regs ≡ registers)
    → AllByRecursion (λ (r : List ℕ). length r ≡ registers) (map (λ (th : ThreadState). th.regs) ths)
row_lengths-of_threads [] each = tt
row_lengths-of_threads (th ∷ ths) each = (each 0 th refl, row_lengths-of_threads ths (λ t u at. each (suc t) u at))

module _ {S : Type 0} (language : Language S) where
  -- Along a path on which two executions read and write the same words, a thread takes the same steps.
  pub ThreadExecutes-same_words : (x y : Execution) (t : ℕ) (code : List S) (path : List ℕ) (s end : ThreadState)
      → ((h : ℕ)
      → Contains path h
      → (y.read (record { thread = t; position = h }) ≡ x.read (record { thread = t; position = h }))
      × (y.written (record { thread = t; position = h }) ≡ x.written (record { thread = t; position = h })))
      → ThreadExecutes language x t code path s end
      → ThreadExecutes language y t code path s end
  ThreadExecutes-same_words x y t code [] s end same executes = executes
  ThreadExecutes-same_words x y t code (h ∷ path) s end same executes =
      let e : MemoryEvent = record { thread = t; position = h } in
      let here = same h (Contains-head h h path refl) in
      record {
        position_is = executes.position_is;
        statement = executes.statement;
        statement_at = executes.statement_at;
        written_is = λ w.
            here.1 ∙ (executes.written_is w ∙ ap (word_written (language.operation_of executes.statement) s.regs) (sym here.0));
        rest =
            subst (λ v. ThreadExecutes language y t code path (state_after (language.operation_of executes.statement) s v) end)
            (sym here.0)
            (ThreadExecutes-same_words x y t code path (state_after (language.operation_of executes.statement) s (x.read e)) end
            (λ k c. same k (Contains-tail h k path c)) executes.rest);
      }

module _ {S : Type 0} {language : Language S} {test : Test S} (well_scoped : IsWellScoped language test) where
  -- The empty path, whatever the code.
  abbrev empty_path : List S → List ℕ
  empty_path code = []

  -- At the end of a run each path is empty.
  empty_paths : (program : List (List S)) (t : ℕ) → thread_code (map empty_path program) t ≡ []
  empty_paths [] t = get_or_past [] t [] (omega arith)
  empty_paths (code ∷ program) zero = refl
  empty_paths (code ∷ program) (suc t) = empty_paths program t

  -- The test with these words at the start.
  abbrev with_words : List ℕ → Test S
  with_words m = record test { head = record test.head { init_words = m } }

  -- What an event writes does not depend on the initial words.
  Writes-of_words : (x : Execution) (m : List ℕ) (w : MemoryEvent) (l : ℕ)
      → Writes language (with_words m) x w l
      → Writes language test x w l
  Writes-of_words x m w l writing =
      record { is_event = writing.is_event; location_is = writing.location_is; is_write = writing.is_write }

  -- What an event writes, it writes with other initial words too.
  Writes-with_words : (x : Execution) (m : List ℕ) (w : MemoryEvent) (l : ℕ)
      → Writes language test x w l
      → Writes language (with_words m) x w l
  Writes-with_words x m w l writing =
      record { is_event = writing.is_event; location_is = writing.location_is; is_write = writing.is_write }

  -- Holds in each state of a run: it has as many threads and words as the test, positions within the codes, and all registers.
  pub record IsGood (s : Interleaved) : Type 0 where
    pub thread_count : length s.threads ≡ length test.threads
    pub size : length s.words ≡ length test.head.locs
    pub positions_in_range : (t : ℕ) (th : ThreadState)
        → slice_get s.threads t ≡ Some th
        → th.position ≤ length (thread_code test.threads t)
    pub register_counts : (t : ℕ) (th : ThreadState) → slice_get s.threads t ≡ Some th → length th.regs ≡ registers

  -- The rest of a run from a state is an execution with this outcome.
  record IsLater (s : Interleaved) (o : FinalState) : Type 0 where
    execution : Execution
    path_count : length execution.paths ≡ length test.threads
    threads : (t : ℕ) (th : ThreadState)
        → slice_get s.threads t ≡ Some th
        → ThreadExecutesTo language execution t (thread_code test.threads t) (thread_code execution.paths t) th o
    rf : (r : MemoryEvent) (l : ℕ)
        → Reads language test execution r l
        → IsReadFrom language (with_words s.words) execution r l (execution.rf r)
    co : (w v : MemoryEvent) (l : ℕ)
        → Writes language test execution w l
        → Writes language test execution v l
        → execution.co w ≡ execution.co v
        → w ≡ v
    words : (l : ℕ) → IsLast language (with_words s.words) execution l (slice_index o.words l)
    rank : MemoryEvent → ℕ
    increases : (a b : MemoryEvent) → ScOrder language test execution a b → rank a < rank b

  -- ---- at the end there is nothing left

  -- The registers and the words of memory that a state ends with.
  abbrev pub outcome_of : Interleaved → FinalState
  outcome_of s = record { regs = map (λ (th : ThreadState). th.regs) s.threads; words = s.words }

  -- A run that has ended is an execution without events.
  IsLater-at_end : (s : Interleaved) → IsEnd language test.threads s → IsGood s → IsLater s (outcome_of s)
  IsLater-at_end s final good = record {
    execution = empty_execution;
    path_count = length-map test.threads empty_path;
    threads = λ t th at. record {
      end = th;
      executes =
          subst (λ path. ThreadExecutes language empty_execution t (thread_code test.threads t) path th th)
          (sym (empty_paths test.threads t)) (position_at_end t th at, refl);
      regs_are = get_or_from_slice_get (map (λ (z : ThreadState). z.regs) s.threads) t th.regs [] (regs_got t th at);
    };
    rf = λ r l reading. absurd (empty_execution-has_no_event r reading.is_event);
    co = λ w v l ww wv same. absurd (empty_execution-has_no_event w ww.is_event);
    words = λ l. inl ((λ e writing. empty_execution-has_no_event e writing.is_event), refl);
    rank = λ e. 0;
    increases = λ a b. elim [
      | inl po ↦ absurd (empty_execution-has_no_event a po.first_event)
      | inr (inl rf) ↦ absurd (empty_execution-has_no_event a rf.write.is_event)
      | inr (inr (inl co)) ↦ absurd (empty_execution-has_no_event a co.first_write.is_event)
      | inr (inr (inr fr)) ↦ absurd (empty_execution-has_no_event a fr.read.is_event)
    ];
  }
    where
      -- The execution of a run that has ended: its paths are empty.
      empty_execution : Execution
      empty_execution =
          record { paths = map empty_path test.threads; read = λ e. 0; written = λ e. 0; rf = λ e. None; co = λ e. 0 }

      -- The execution with empty paths has no events.
      empty_execution-has_no_event : (e : MemoryEvent)
          → Contains (thread_code (map empty_path test.threads) e.thread) e.position
          → ⊥
      empty_execution-has_no_event e on_path =
          not-Contains-nil e.position
          (subst (λ (path : List ℕ). Contains path e.position) (empty_paths test.threads e.thread) on_path)

      -- A thread's registers are in the list of registers.
      regs_got : (t : ℕ) (th : ThreadState)
          → slice_get s.threads t ≡ Some th
          → slice_get (map (λ (z : ThreadState). z.regs) s.threads) t ≡ Some th.regs
      regs_got t th thread_at = slice_get-map _ s.threads t ∙ ap (option_map (λ (z : ThreadState). z.regs)) thread_at

      -- Each thread is at the end of its code.
      position_at_end : (t : ℕ) (th : ThreadState)
          → slice_get s.threads t ≡ Some th
          → th.position ≡ length (thread_code test.threads t)
      position_at_end t th thread_at = omega (arith, final t th thread_at, good.positions_in_range t th thread_at)

  -- ---- one step

  module _ {s mid : Interleaved} {t : ℕ} (step : IsStep language test.threads t s mid) (good : IsGood s) where
    -- The position of the first event.
    abbrev step_position : ℕ
    step_position = step.thread.position

    -- The operation of the first event.
    abbrev op : Operation
    op = language.operation_of step.statement

    -- The first event.
    abbrev step_event : MemoryEvent
    step_event = event t step_position

    -- The state of the first event's thread after the event.
    abbrev next : ThreadState
    next = state_after op step.thread (read_value op s.words)

    -- The word that the first event finds.
    abbrev word_found : ℕ
    word_found = read_value op s.words

    -- The word that the first event leaves, if it writes.
    abbrev word_left : ℕ
    word_left = word_written op step.thread.regs word_found

    -- The kind of the first event is that of its operation.
    pub event_kind : (q : Operation → Bool) → operation_is language test q step_event ≡ q op
    event_kind q = ap (λ o. option_map_or q (option_map language.operation_of o) false) step.statement_at

    -- The location of the first event is that of its operation.
    pub event_location : location language test step_event ≡ location_of op
    event_location = ap (λ o. option_and_then location_of (option_map language.operation_of o)) step.statement_at

    -- The thread of the first event is one of the test.
    thread_in_range : t < length test.threads
    thread_in_range = omega (arith, slice_get_within s.threads t step.thread step.thread_at, good.thread_count)

    -- After the step its thread is the next state of it.
    pub slice_get-next_thread : slice_get mid.threads t ≡ Some next
    slice_get-next_thread =
        ap (λ (z : Interleaved). slice_get z.threads t) step.state_is
        ∙ slice_get-slice_set_same s.threads t next step.thread step.thread_at

    -- The other threads are unchanged.
    pub others_unchanged : (u : ℕ) → t ≢ u → slice_get mid.threads u ≡ slice_get s.threads u
    others_unchanged u ne =
        ap (λ (z : Interleaved). slice_get z.threads u) step.state_is ∙ slice_get-slice_set_other s.threads t u next ne

    -- The thread's next position is later, and in its code.
    pub next_position_later : (step_position < next.position) × (next.position ≤ length (thread_code test.threads t))
    next_position_later =
        IsFlowSuccessor-in_range language (thread_code test.threads t) step_position next.position
        (JumpsForward-thread language test well_scoped t)
        (subst (λ (o : Option S). IsFlowSuccessor language o step_position next.position) (sym step.statement_at)
        (IsSuccessor-state_after op step.thread word_found))

    -- The location of the operation is in range.
    location_in_range : (l : ℕ) → location_of op ≡ Some l → l < length s.words
    location_in_range l location_is =
        let thread : IsWellScopedThread language (length test.head.locs) (thread_code test.threads t) =
        All-get_or (IsWellScopedThread language (length test.head.locs)) test.threads t [] thread_in_range well_scoped.code in
        let statement : IsWellFormedStatement language (length test.head.locs) step.statement =
        subst (IsWellFormedStatement language (length test.head.locs))
        (get_or_from_slice_get (thread_code test.threads t) step_position step.statement step.statement step.statement_at)
        (thread.statements_formed step_position step.statement
        (slice_get_within (thread_code test.threads t) step_position step.statement step.statement_at)) in
        omega (arith, statement.0 l location_is, good.size)

    -- The words after the step are those that the operation leaves.
    words_after_step : mid.words ≡ words_after op step.thread.regs s.words
    words_after_step = ap (λ (z : Interleaved). z.words) step.state_is

    -- The first event writes this location.
    abbrev pub WritesHere : ℕ → Type 0
    WritesHere l = (location language test step_event ≡ Some l) × (operation_is language test writes step_event ≡ true)

    -- If the first event writes a location, its word is there after the step.
    pub word_left-at_written : (l : ℕ) → WritesHere l → slice_index mid.words l ≡ word_left
    word_left-at_written l here = elim (memory_case op step.thread.regs s.words) [
      | inl (w, y, at, is) ↦
          (let same : y ≡ l = same_Some y l (sym at ∙ (sym event_location ∙ here.0)) in
          ap (λ m. slice_index m l) (words_after_step ∙ is)
          ∙ (ap (λ k. slice_index (slice_set s.words y word_left) k) (sym same)
          ∙ get_or-set_same s.words y word_left 0 (location_in_range y at)))
      | inr (none, is) ↦ absurd (true≢false (sym here.1 ∙ (event_kind writes ∙ none)))
    ]

    -- All other words are unchanged.
    pub word_unchanged-elsewhere : (l : ℕ) → (WritesHere l → ⊥) → slice_index mid.words l ≡ slice_index s.words l
    word_unchanged-elsewhere l not = elim (memory_case op step.thread.regs s.words) [
      | inl (w, y, at, is) ↦
          ap (λ m. slice_index m l) (words_after_step ∙ is)
          ∙ get_or-set_other s.words y l word_left 0
          (λ same. not (event_location ∙ (at ∙ ap Some (sym same)), event_kind writes ∙ w))
      | inr (none, is) ↦ ap (λ m. slice_index m l) (words_after_step ∙ is)
    ]

    -- The state after the step is good.
    pub IsGood-next : IsGood mid
    IsGood-next = record {
      thread_count = ap (λ (z : Interleaved). length z.threads) step.state_is ∙ (length-set s.threads t next ∙ good.thread_count);
      size = elim (memory_case op step.thread.regs s.words) [
        | inl (w, y, at, is) ↦ ap length (words_after_step ∙ is) ∙ (length-set s.words y word_left ∙ good.size)
        | inr (none, is) ↦ ap length (words_after_step ∙ is) ∙ good.size
      ];
      positions_in_range = λ u th at. elim (cases_eq t u) [
        | inl same_thread ↦
            (let is_next : next ≡ th =
            same_Some next th (sym slice_get-next_thread ∙ subst (λ k. slice_get mid.threads k ≡ Some th) (sym same_thread) at) in
            subst (λ k. th.position ≤ length (thread_code test.threads k)) same_thread
            (omega (arith, next_position_later.1, ap (λ (z : ThreadState). z.position) is_next)))
        | inr threads_differ ↦ good.positions_in_range u th (sym (others_unchanged u threads_differ) ∙ at)
      ];
      register_counts = λ u th at. elim (cases_eq t u) [
        | inl same_thread ↦
            (let is_next : next ≡ th =
            same_Some next th (sym slice_get-next_thread ∙ subst (λ k. slice_get mid.threads k ≡ Some th) (sym same_thread) at) in
            ap (λ (z : ThreadState). length z.regs) (sym is_next)
            ∙ (state_after-register_count op step.thread word_found ∙ good.register_counts t step.thread step.thread_at))
        | inr threads_differ ↦ good.register_counts u th (sym (others_unchanged u threads_differ) ∙ at)
      ];
    }

    -- ---- the execution with its event

    module _ {o : FinalState} (later : IsLater mid o) where
      -- The execution of the rest of the run.
      abbrev later_execution : Execution
      later_execution = later.execution

      -- Whether the first event writes an optional location is decidable.
      exists_WritesHere-decidable : (l : Option ℕ) → Decidable ((k : ℕ) × ((l ≡ Some k) × WritesHere k))
      exists_WritesHere-decidable l = decided_exists_location l (λ k. (l ≡ Some k) × WritesHere k) (λ k h. h.0) (λ k.
          decided_and (decided_number l k)
          (decided_and (decided_number (location language test step_event) k)
          (decided_true (operation_is language test writes step_event))))

      -- The source of a read: as in the rest, but the first event if the rest has none and it writes the
      -- location.
      abbrev source_with_first : MemoryEvent → Option MemoryEvent → Option MemoryEvent
      source_with_first r (Some v) = Some v
      source_with_first r None = pick (exists_WritesHere-decidable (location language test r)) (Some step_event) None

      -- The execution of the whole run: the first event, and then those of the rest.
      abbrev whole_execution : Execution
      whole_execution = record {
        paths = slice_set later_execution.paths t (step_position ∷ thread_code later_execution.paths t);
        read = λ r. pick (decided_event_equal r step_event) word_found (later_execution.read r);
        written = λ w. pick (decided_event_equal w step_event) word_left (later_execution.written w);
        rf = λ r. pick (decided_event_equal r step_event) None (source_with_first r (later_execution.rf r));
        co = λ w. pick (decided_event_equal w step_event) 0 (suc (later_execution.co w));
      }

      -- Ranks: the first event has 0, and all others one more than in the rest.
      abbrev rank : MemoryEvent → ℕ
      rank a = pick (decided_event_equal a step_event) 0 (suc (later.rank a))

      -- The path of the first event's thread begins with it.
      own_path : thread_code whole_execution.paths t ≡ step_position ∷ thread_code later_execution.paths t
      own_path =
          get_or-set_same later_execution.paths t (step_position ∷ thread_code later_execution.paths t) []
          (omega (arith, thread_in_range, later.path_count))

      -- The paths of the other threads are those of the rest.
      other_path : (u : ℕ) → t ≢ u → thread_code whole_execution.paths u ≡ thread_code later_execution.paths u
      other_path u ne =
          get_or-set_other later_execution.paths t u (step_position ∷ thread_code later_execution.paths t) []
          (λ same. ne (sym same))

      -- The first event is an event of the execution.
      is_event : IsEvent whole_execution step_event
      is_event =
          subst (λ (path : List ℕ). Contains path step_position) (sym own_path)
          (Contains-head step_position step_position (thread_code later_execution.paths t) refl)

      -- An event of the rest is an event of the whole.
      IsEvent-in_whole : (a : MemoryEvent) → IsEvent later_execution a → IsEvent whole_execution a
      IsEvent-in_whole a is_event = elim (cases_eq t a.thread) [
        | inl same_thread ↦
            subst (λ u. Contains (thread_code whole_execution.paths u) a.position) same_thread
            (subst (λ (path : List ℕ). Contains path a.position) (sym own_path)
            (Contains-tail step_position a.position (thread_code later_execution.paths t)
            (subst (λ u. Contains (thread_code later_execution.paths u) a.position) (sym same_thread) is_event)))
        | inr threads_differ ↦
            subst (λ (path : List ℕ). Contains path a.position) (sym (other_path a.thread threads_differ)) is_event
      ]

      -- Each event other than the first is one of the rest.
      IsEvent-in_later : (a : MemoryEvent) → IsEvent whole_execution a → (a ≡ step_event → ⊥) → IsEvent later_execution a
      IsEvent-in_later a is_event differ = elim (cases_eq t a.thread) [
        | inl same_thread ↦
            (let on_path : Contains (step_position ∷ thread_code later_execution.paths t) a.position =
            subst (λ (path : List ℕ). Contains path a.position) own_path
            (subst (λ u. Contains (thread_code whole_execution.paths u) a.position) (sym same_thread) is_event) in
            elim (Contains-cons step_position a.position (thread_code later_execution.paths t) on_path) [
              | inl is_head ↦ absurd (differ (ap₂ event (sym same_thread) (sym is_head)))
              | inr in_tail ↦ subst (λ u. Contains (thread_code later_execution.paths u) a.position) same_thread in_tail
            ])
        | inr threads_differ ↦ subst (λ (path : List ℕ). Contains path a.position) (other_path a.thread threads_differ) is_event
      ]

      -- The rest of its thread is ahead.
      later_in_thread : (a : MemoryEvent) → IsEvent later_execution a → a.thread ≡ t → step_position < a.position
      later_in_thread a is_event same_thread =
          let goes = later.threads t next slice_get-next_thread in
          let up : IsAscendingFrom next.position (thread_code later_execution.paths t) =
          IsAscendingFrom-flow_path language (thread_code test.threads t) next.position (thread_code later_execution.paths t)
          (JumpsForward-thread language test well_scoped t)
          (IsFlowPathFrom-ThreadExecutes language later_execution t (thread_code test.threads t)
          (thread_code later_execution.paths t) next goes.end goes.executes) in
          let low : next.position ≤ a.position =
          IsAscendingFrom-lower_bound next.position a.position (thread_code later_execution.paths t) up
          (in_list (thread_code later_execution.paths t) a.position
          (subst (λ u. Contains (thread_code later_execution.paths u) a.position) same_thread is_event)) in
          omega (arith, low, next_position_later.0)

      -- No event of the rest is the first one: its thread has passed it.
      ne_first_event : (a : MemoryEvent) → IsEvent later_execution a → a ≡ step_event → ⊥
      ne_first_event a is_event same =
          omega (
            arith,
            later_in_thread a is_event (ap (λ (z : MemoryEvent). z.thread) same),
            ap (λ (z : MemoryEvent). z.position) same,
          )

      -- What an event other than the first reads in the whole, it reads in the rest.
      Reads-in_later : (r : MemoryEvent) (l : ℕ)
          → Reads language test whole_execution r l
          → (r ≡ step_event → ⊥)
          → Reads language test later_execution r l
      Reads-in_later r l reading differ = record {
        is_event = IsEvent-in_later r reading.is_event differ;
        location_is = reading.location_is;
        is_read = reading.is_read;
      }

      -- What an event other than the first writes in the whole, it writes in the rest.
      Writes-in_later : (w : MemoryEvent) (l : ℕ)
          → Writes language test whole_execution w l
          → (w ≡ step_event → ⊥)
          → Writes language test later_execution w l
      Writes-in_later w l writing differ = record {
        is_event = IsEvent-in_later w writing.is_event differ;
        location_is = writing.location_is;
        is_write = writing.is_write;
      }

      -- What an event of the rest writes, it writes in the whole.
      Writes-in_whole : (w : MemoryEvent) (l : ℕ)
          → Writes language test later_execution w l
          → Writes language test whole_execution w l
      Writes-in_whole w l writing = record {
        is_event = IsEvent-in_whole w writing.is_event;
        location_is = writing.location_is;
        is_write = writing.is_write;
      }

      -- What an event other than the first writes in the whole, it writes in the rest, each with its own initial words.
      Writes-in_later_with_words : (w : MemoryEvent) (l : ℕ)
          → Writes language (with_words s.words) whole_execution w l
          → (w ≡ step_event → ⊥)
          → Writes language (with_words mid.words) later_execution w l
      Writes-in_later_with_words w l writing differ =
          Writes-with_words later_execution mid.words w l
          (Writes-in_later w l (Writes-of_words whole_execution s.words w l writing) differ)

      -- What an event of the rest writes, it writes in the whole, each with its own initial words.
      Writes-in_whole_with_words : (w : MemoryEvent) (l : ℕ)
          → Writes language (with_words mid.words) later_execution w l
          → Writes language (with_words s.words) whole_execution w l
      Writes-in_whole_with_words w l writing =
          Writes-with_words whole_execution s.words w l
          (Writes-in_whole w l (Writes-of_words later_execution mid.words w l writing))

      -- ---- what it says of its event, and of the others

      -- In coherence order the first event has index 0.
      co_first : (w : MemoryEvent) → w ≡ step_event → whole_execution.co w ≡ 0
      co_first w same = pick-if_holds (decided_event_equal w step_event) 0 (suc (later_execution.co w)) same

      -- In coherence order each event but the first has an index one greater than in the rest.
      co_other : (w : MemoryEvent) → (w ≡ step_event → ⊥) → whole_execution.co w ≡ suc (later_execution.co w)
      co_other w differ = pick-if_fails (decided_event_equal w step_event) 0 (suc (later_execution.co w)) differ

      -- The first event has rank 0.
      rank-of_first : (a : MemoryEvent) → a ≡ step_event → rank a ≡ 0
      rank-of_first a same = pick-if_holds (decided_event_equal a step_event) 0 (suc (later.rank a)) same

      -- Each event but the first has a rank one greater than in the rest.
      rank-of_other : (a : MemoryEvent) → (a ≡ step_event → ⊥) → rank a ≡ suc (later.rank a)
      rank-of_other a differ = pick-if_fails (decided_event_equal a step_event) 0 (suc (later.rank a)) differ

      -- Each event but the first reads the word that it reads in the rest.
      read_other : (r : MemoryEvent) → (r ≡ step_event → ⊥) → whole_execution.read r ≡ later_execution.read r
      read_other r differ = pick-if_fails (decided_event_equal r step_event) word_found (later_execution.read r) differ

      -- Each event but the first writes the word that it writes in the rest.
      written_other : (w : MemoryEvent) → (w ≡ step_event → ⊥) → whole_execution.written w ≡ later_execution.written w
      written_other w differ = pick-if_fails (decided_event_equal w step_event) word_left (later_execution.written w) differ

      -- The first event writes the word that the step leaves.
      written_first : whole_execution.written step_event ≡ word_left
      written_first =
          pick-if_holds (decided_event_equal step_event step_event) word_left (later_execution.written step_event) refl

      -- The first event reads the word that the step finds.
      read_first : whole_execution.read step_event ≡ word_found
      read_first = pick-if_holds (decided_event_equal step_event step_event) word_found (later_execution.read step_event) refl

      -- The first event has no source.
      rf_first : (r : MemoryEvent) → r ≡ step_event → whole_execution.rf r ≡ None
      rf_first r same = pick-if_holds (decided_event_equal r step_event) None (source_with_first r (later_execution.rf r)) same

      -- Each event but the first reads from its source in the rest, or from the first event.
      rf_other : (r : MemoryEvent) → (r ≡ step_event → ⊥) → whole_execution.rf r ≡ source_with_first r (later_execution.rf r)
      rf_other r differ =
          pick-if_fails (decided_event_equal r step_event) None (source_with_first r (later_execution.rf r)) differ

      -- An event other than the first that has a source in the rest has this source in the whole.
      rf_some : (r v : MemoryEvent) → (r ≡ step_event → ⊥) → later_execution.rf r ≡ Some v → whole_execution.rf r ≡ Some v
      rf_some r v differ source_is = rf_other r differ ∙ ap (source_with_first r) source_is

      -- A read without a source in the rest reads from the first event, if that writes its location.
      rf_from_first : (r : MemoryEvent) (l : ℕ)
          → (r ≡ step_event → ⊥)
          → later_execution.rf r ≡ None
          → location language test r ≡ Some l
          → WritesHere l
          → whole_execution.rf r ≡ Some step_event
      rf_from_first r l differ source_is location_is here =
          rf_other r differ
          ∙ (ap (source_with_first r) source_is
          ∙ pick-if_holds (exists_WritesHere-decidable (location language test r)) (Some step_event) None
          (l, (location_is, here)))

      -- A read without a source in the rest reads the initial word, if the first event does not write its location.
      rf_none : (r : MemoryEvent) (l : ℕ)
          → (r ≡ step_event → ⊥)
          → later_execution.rf r ≡ None
          → location language test r ≡ Some l
          → (WritesHere l → ⊥)
          → whole_execution.rf r ≡ None
      rf_none r l differ source_is location_is not =
          rf_other r differ
          ∙ (ap (source_with_first r) source_is
          ∙ pick-if_fails (exists_WritesHere-decidable (location language test r)) (Some step_event) None
          (λ h. not (subst WritesHere (same_Some h.0 l (sym h.1.0 ∙ location_is)) h.1.1)))

      -- Whether the first event writes a location is decidable.
      WritesHere-decidable : (l : ℕ) → Decidable (WritesHere l)
      WritesHere-decidable l =
          decided_and (decided_number (location language test step_event) l)
          (decided_true (operation_is language test writes step_event))

      -- ---- it is one

      -- The thread of the first event executes its path, the first event included.
      ThreadExecutesTo-own_thread : ThreadExecutesTo language whole_execution t (thread_code test.threads t)
          (step_position ∷ thread_code later_execution.paths t) step.thread o
      ThreadExecutesTo-own_thread =
          let rest = later.threads t next slice_get-next_thread in
          record {
            end = rest.end;
            executes = record {
              position_is = refl;
              statement = step.statement;
              statement_at = step.statement_at;
              written_is = (λ w. written_first ∙ ap (word_written op step.thread.regs) (sym read_first));
              rest =
                  subst (λ (z : ThreadState).
                  ThreadExecutes language whole_execution t (thread_code test.threads t) (thread_code later_execution.paths t) z
                  rest.end) (ap (state_after op step.thread) (sym read_first))
                  (ThreadExecutes-same_words language later_execution whole_execution t (thread_code test.threads t)
                  (thread_code later_execution.paths t) next rest.end (λ h c. (
                    read_other (event t h) (ne_first_event (event t h) c),
                    written_other (event t h) (ne_first_event (event t h) c),
                  )) rest.executes);
            };
            regs_are = rest.regs_are;
          }

      -- Each thread executes its path in the execution with the first event before the rest.
      ThreadExecutesTo-each_thread : (u : ℕ) (th : ThreadState)
          → slice_get s.threads u ≡ Some th
          → ThreadExecutesTo language whole_execution u (thread_code test.threads u) (thread_code whole_execution.paths u) th o
      ThreadExecutesTo-each_thread u th thread_at = elim (cases_eq t u) [
        | inl same_thread ↦
            (let is_own : step.thread ≡ th =
            same_Some step.thread th
            (sym step.thread_at ∙ subst (λ k. slice_get s.threads k ≡ Some th) (sym same_thread) thread_at) in
            let own = ThreadExecutesTo-own_thread in
            subst (λ k.
            ThreadExecutesTo language whole_execution k (thread_code test.threads k) (thread_code whole_execution.paths k) th o)
            same_thread (record {
              end = own.end;
              executes =
                  subst
                  (λ (path : List ℕ). ThreadExecutes language whole_execution t (thread_code test.threads t) path th own.end)
                  (sym own_path)
                  (subst (λ (z : ThreadState).
                  ThreadExecutes language whole_execution t (thread_code test.threads t)
                  (step_position ∷ thread_code later_execution.paths t) z own.end) is_own own.executes);
              regs_are = own.regs_are;
            }))
        | inr threads_differ ↦
            (let rest = later.threads u th (others_unchanged u threads_differ ∙ thread_at) in
            record {
              end = rest.end;
              executes =
                  subst
                  (λ (path : List ℕ). ThreadExecutes language whole_execution u (thread_code test.threads u) path th rest.end)
                  (sym (other_path u threads_differ))
                  (ThreadExecutes-same_words language later_execution whole_execution u (thread_code test.threads u)
                  (thread_code later_execution.paths u) th rest.end (λ h c. (
                    read_other (event u h) (λ e_is. threads_differ (sym (ap (λ (z : MemoryEvent). z.thread) e_is))),
                    written_other (event u h) (λ e_is. threads_differ (sym (ap (λ (z : MemoryEvent). z.thread) e_is))),
                  )) rest.executes);
              regs_are = rest.regs_are;
            })
      ]

      -- Each read has the word of the write that it reads from, or the initial word.
      IsReadFrom-with_first : (r : MemoryEvent) (l : ℕ)
          → Reads language test whole_execution r l
          → IsReadFrom language (with_words s.words) whole_execution r l (whole_execution.rf r)
      IsReadFrom-with_first r l reading = elim (decided_event_equal r step_event) [
        | inl same_event ↦
            subst (IsReadFrom language (with_words s.words) whole_execution r l) (sym (rf_first r same_event))
            (ap whole_execution.read same_event
            ∙ (read_first
            ∙ read_value-location_of op l s.words
            (sym event_location ∙ (ap (location language test) (sym same_event) ∙ reading.location_is))))
        | inr events_differ ↦
            IsReadFrom-by_source events_differ (later_execution.rf r) refl
            (later.rf r l (Reads-in_later r l reading events_differ))
      ]
        where
          -- By the source that the read has in the rest of the execution.
          IsReadFrom-by_source : (r ≡ step_event → ⊥)
              → (q : Option MemoryEvent)
              → later_execution.rf r ≡ q
              → IsReadFrom language (with_words mid.words) later_execution r l q
              → IsReadFrom language (with_words s.words) whole_execution r l (whole_execution.rf r)
          IsReadFrom-by_source differ (Some v) source_is is =
              subst (IsReadFrom language (with_words s.words) whole_execution r l) (sym (rf_some r v differ source_is)) (record {
                write = Writes-in_whole_with_words v l is.write;
                word_is = read_other r differ ∙ (is.word_is ∙ sym (written_other v (ne_first_event v is.write.is_event)));
              })
          IsReadFrom-by_source differ None source_is is = elim (WritesHere-decidable l) [
            | inl here ↦
                subst (IsReadFrom language (with_words s.words) whole_execution r l)
                (sym (rf_from_first r l differ source_is reading.location_is here)) (record {
                  write = record { is_event = is_event; location_is = here.0; is_write = here.1 };
                  word_is = read_other r differ ∙ (is ∙ (word_left-at_written l here ∙ sym written_first));
                })
            | inr not ↦
                subst (IsReadFrom language (with_words s.words) whole_execution r l)
                (sym (rf_none r l differ source_is reading.location_is not))
                (read_other r differ ∙ (is ∙ word_unchanged-elsewhere l not))
          ]

      -- Two writes to one location with the same index in coherence order are equal.
      co-injective : (w v : MemoryEvent) (l : ℕ)
          → Writes language test whole_execution w l
          → Writes language test whole_execution v l
          → whole_execution.co w ≡ whole_execution.co v
          → w ≡ v
      co-injective w v l ww wv same = elim (decided_event_equal w step_event) [
        | inl same_event ↦ elim (decided_event_equal v step_event) [
          | inl ve ↦ same_event ∙ sym ve
          | inr events_differ ↦ absurd (omega (arith, same, co_first w same_event, co_other v events_differ))
        ]
        | inr events_differ ↦ elim (decided_event_equal v step_event) [
          | inl same_event ↦ absurd (omega (arith, same, co_other w events_differ, co_first v same_event))
          | inr nv ↦
              later.co w v l (Writes-in_later w l ww events_differ) (Writes-in_later v l wv nv)
              (omega (arith, same, co_other w events_differ, co_other v nv))
        ]
      ]

      -- The last word of each location is that of the outcome.
      IsLast-with_first : (l : ℕ) → IsLast language (with_words s.words) whole_execution l (slice_index o.words l)
      IsLast-with_first l = elim (later.words l) [
        | inl (never, is) ↦ elim (WritesHere-decidable l) [
          | inl here ↦ inr (
            step_event,
            record { is_event = is_event; location_is = here.0; is_write = here.1 },
            (λ f wf. elim (decided_event_equal f step_event) [
              | inl same_event ↦ omega (arith, co_first f same_event, co_first step_event refl)
              | inr events_differ ↦ absurd (never f (Writes-in_later_with_words f l wf events_differ))
            ]),
            is ∙ (word_left-at_written l here ∙ sym written_first),
          )
          | inr not ↦ inl (
            (λ f wf. elim (decided_event_equal f step_event) [
              | inl same_event ↦ not (
                ap (location language test) (sym same_event) ∙ wf.location_is,
                ap (operation_is language test writes) (sym same_event) ∙ wf.is_write,
              )
              | inr events_differ ↦ never f (Writes-in_later_with_words f l wf events_differ)
            ]),
            is ∙ word_unchanged-elsewhere l not,
          )
        ]
        | inr (v, writing, most, is) ↦ inr (
          v,
          Writes-in_whole_with_words v l writing,
          (λ f wf. elim (decided_event_equal f step_event) [
            | inl same_event ↦ omega (arith, co_first f same_event)
            | inr events_differ ↦ omega (
              arith,
              co_other f events_differ,
              co_other v (ne_first_event v writing.is_event),
              most f (Writes-in_later_with_words f l wf events_differ),
            )
          ]),
          is ∙ sym (written_other v (ne_first_event v writing.is_event)),
        )
      ]

      -- No event precedes the first event.
      no_ScOrder-to_first : (a : MemoryEvent) → ScOrder language test whole_execution a step_event → ⊥
      no_ScOrder-to_first a (inl po) = elim (decided_event_equal a step_event) [
        | inl same_event ↦ omega (arith, po.position_lt, ap (λ (z : MemoryEvent). z.position) same_event)
        | inr events_differ ↦
            omega (arith, po.position_lt, later_in_thread a (IsEvent-in_later a po.first_event events_differ) po.same_thread)
      ]
      no_ScOrder-to_first a (inr (inl rf)) = none-some a (sym (rf_first step_event refl) ∙ rf.source_is)
      no_ScOrder-to_first a (inr (inr (inl co))) = omega (arith, co.co_lt, co_first step_event refl)
      no_ScOrder-to_first a (inr (inr (inr fr))) = not-read_before_first (later_execution.rf a) refl
        where
          -- By the source that the event has in the rest of the execution.
          not-read_before_first : (q : Option MemoryEvent) → later_execution.rf a ≡ q → ⊥
          not-read_before_first (Some v) source_is =
              omega (arith, fr.source_before v (rf_some a v fr.events_differ source_is), co_first step_event refl)
          not-read_before_first None source_is = omega (
            arith,
            fr.source_before step_event (rf_from_first a fr.on_location fr.events_differ source_is fr.read.location_is
                (fr.write.location_is, fr.write.is_write)),
            co_first step_event refl,
          )

      -- Of two events that are not the first, one precedes the other only if it does so in the rest.
      ScOrder-in_later : (a b : MemoryEvent)
          → (a ≡ step_event → ⊥)
          → (b ≡ step_event → ⊥)
          → ScOrder language test whole_execution a b
          → ScOrder language test later_execution a b
      ScOrder-in_later a b na nb (inl po) = inl (record {
        first_event = IsEvent-in_later a po.first_event na;
        second_event = IsEvent-in_later b po.second_event nb;
        same_thread = po.same_thread;
        position_lt = po.position_lt;
      })
      ScOrder-in_later a b na nb (inr (inl rf)) = inr (inl (record {
        on_location = rf.on_location;
        write = Writes-in_later a rf.on_location rf.write na;
        read = Reads-in_later b rf.on_location rf.read nb;
        source_is = source_in_later (later_execution.rf b) refl;
      }))
        where
          -- The source in the rest is the source in the whole, since that is not the first event.
          source_in_later : (q : Option MemoryEvent) → later_execution.rf b ≡ q → later_execution.rf b ≡ Some a
          source_in_later (Some v) source_is = source_is ∙ (sym (rf_some b v nb source_is) ∙ rf.source_is)
          source_in_later None source_is = elim (WritesHere-decidable rf.on_location) [
            | inl here ↦
                absurd (na (same_Some a step_event
                (sym rf.source_is ∙ rf_from_first b rf.on_location nb source_is rf.read.location_is here)))
            | inr not ↦ absurd (none-some a (sym (rf_none b rf.on_location nb source_is rf.read.location_is not) ∙ rf.source_is))
          ]
      ScOrder-in_later a b na nb (inr (inr (inl co))) = inr (inr (inl (record {
        on_location = co.on_location;
        first_write = Writes-in_later a co.on_location co.first_write na;
        second_write = Writes-in_later b co.on_location co.second_write nb;
        co_lt = omega (arith, co.co_lt, co_other a na, co_other b nb);
      })))
      ScOrder-in_later a b na nb (inr (inr (inr fr))) = inr (inr (inr (record {
        on_location = fr.on_location;
        read = Reads-in_later a fr.on_location fr.read na;
        write = Writes-in_later b fr.on_location fr.write nb;
        events_differ = fr.events_differ;
        source_before = λ v is_some.
            (let is : IsReadFrom language (with_words mid.words) later_execution a fr.on_location (Some v) =
            subst (IsReadFrom language (with_words mid.words) later_execution a fr.on_location) is_some
            (later.rf a fr.on_location (Reads-in_later a fr.on_location fr.read na)) in
            omega (
              arith,
              fr.source_before v (rf_some a v na is_some),
              co_other v (ne_first_event v is.write.is_event),
              co_other b nb,
            ));
      })))

      -- The ranks increase along the relations of sequential consistency.
      rank_increases-ScOrder : (a b : MemoryEvent) → ScOrder language test whole_execution a b → rank a < rank b
      rank_increases-ScOrder a b r = elim (decided_event_equal b step_event) [
        | inl same_event ↦ absurd (no_ScOrder-to_first a (subst (ScOrder language test whole_execution a) same_event r))
        | inr events_differ ↦ elim (decided_event_equal a step_event) [
          | inl same_event ↦ omega (arith, rank-of_first a same_event, rank-of_other b events_differ)
          | inr na ↦ omega (
            arith,
            rank-of_other a na,
            rank-of_other b events_differ,
            later.increases a b (ScOrder-in_later a b na events_differ r),
          )
        ]
      ]

      -- The rest with the first event before it is an execution from the state before the step to the outcome.
      IsLater-with_first : IsLater s o
      IsLater-with_first = record {
        execution = whole_execution;
        path_count = length-set later_execution.paths t (step_position ∷ thread_code later_execution.paths t) ∙ later.path_count;
        threads = ThreadExecutesTo-each_thread;
        rf = IsReadFrom-with_first;
        co = co-injective;
        words = IsLast-with_first;
        rank = rank;
        increases = rank_increases-ScOrder;
      }

  -- ---- the whole run

  -- By induction along the run: from each good state the rest of the run is a sequentially consistent
  -- execution.
  IsLater-of_run : (order : List ℕ) (s end : Interleaved)
      → InterleavedRunsTo language test.threads order s end
      → IsEnd language test.threads end
      → IsGood s
      → IsLater s (outcome_of end) × IsGood end
  IsLater-of_run [] s end ran final good =
      let same : end ≡ s = ran in (
        subst (λ (z : Interleaved). IsLater s (outcome_of z)) (sym same)
            (IsLater-at_end s (subst (λ (z : Interleaved). IsEnd language test.threads z) same final) good),
        subst IsGood (sym same) good,
      )
  IsLater-of_run (t ∷ order) s end (mid, d, rest) final good =
      let more = IsLater-of_run order mid end rest final (IsGood-next d good) in (IsLater-with_first d good more.0, more.1)

  -- The start of a well-scoped test is a good state.
  pub IsGood-start : IsGood (start language test)
  IsGood-start = record {
    thread_count = length-map test.head.init_regs first_state ∙ (well_scoped.head.regs ∙ sym well_scoped.as_many);
    size = well_scoped.head.words;
    positions_in_range = λ t th at.
        (let mapped = slice_get-map_inv first_state test.head.init_regs t th at in
        omega (arith, ap (λ (z : ThreadState). z.position) mapped.2));
    register_counts = λ t th at.
        (let mapped = slice_get-map_inv first_state test.head.init_regs t th at in
        ap (λ (z : ThreadState). length z.regs) mapped.2
        ∙ row_length test.head.init_regs t mapped.0 well_scoped.head.register_counts mapped.1);
  }

  -- The outcome of a good state has the test's threads and locations.
  HasOutcomeShape-IsGood : (s : Interleaved)
      → IsGood s
      → HasOutcomeShape (length test.threads) (length test.head.locs) (outcome_of s)
  HasOutcomeShape-IsGood s good = record {
    regs_of = length-map s.threads (λ (th : ThreadState). th.regs) ∙ good.thread_count;
    register_counts = row_lengths-of_threads s.threads good.register_counts;
    words_of = good.size;
  }

  -- An outcome of a run by interleaving is one of a sequentially consistent execution.
  pub IsScOutcome-InterleavingOutcome : (o : FinalState) → InterleavingOutcome language test o → IsScOutcome language test o
  IsScOutcome-InterleavingOutcome o (order, run) =
      let both = IsLater-of_run order (start language test) run.end run.ran run.final IsGood-start in
      let later : IsLater (start language test) o = subst (IsLater (start language test)) (sym run.outcome_is) both.0 in
      record {
        execution = later.execution;
        candidate = record {
          as_many = later.path_count;
          threads = λ t l.
              (let found = slice_get-in_range (start language test).threads t (omega (arith, l, IsGood-start.thread_count)) in
              let from = slice_get-map_inv first_state test.head.init_regs t found.0 found.1 in
              let regs : slice_index_or test.head.init_regs t [] ≡ from.0 =
              get_or_from_slice_get test.head.init_regs t from.0 [] from.1 in
              let goes = later.threads t found.0 found.1 in
              record {
                end = goes.end;
                executes =
                    subst (λ (z : ThreadState).
                    ThreadExecutes language later.execution t (thread_code test.threads t) (thread_code later.execution.paths t) z
                    goes.end) (from.2 ∙ ap first_state (sym regs)) goes.executes;
                regs_are = goes.regs_are;
              });
          rf = later.rf;
          co = later.co;
          words = λ l lt. later.words l;
          of_test =
              subst (HasOutcomeShape (length test.threads) (length test.head.locs)) (sym run.outcome_is)
              (HasOutcomeShape-IsGood run.end both.1);
        };
        sequential = record { rank = later.rank; increases = later.increases };
      }
