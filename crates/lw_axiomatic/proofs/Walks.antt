-- Runs by interleaving along an execution: of the events that are ahead, the first by ranks is done, again
-- and again. The fronts of the paths are walked, up to their ends or to any indices in them; in them the
-- ranks increase along the relations of sequential consistency. ToInterleaving walks whole paths, RaceFree
-- walks up to a race.
use Rattle.lw_axiomatic.proofs.Common.{ThreadExecutesTo, IsWellScoped, ◌≡◌, ◌≢◌, ℕ, zero, suc, ◌+◌, ◌<◌, ◌≤◌}
use Rattle.lw_axiomatic.proofs.Common.{◌⊎◌, inl, inr, true, List, [], ◌∷◌, ◌++◌, length, map, Option, Some}
use Rattle.lw_axiomatic.proofs.Common.{None, refl, sym, ap, ap₂, ◌∙◌, subst, arith, slice_get, slice_set}
use Rattle.lw_axiomatic.proofs.Common.{Contains, length-set, slice_index, slice_index_or, cases_Bool}
use Rattle.lw_axiomatic.proofs.Common.{cases_eq, cases_lt, cases_order, get_or_past, get_or-set_same}
use Rattle.lw_axiomatic.proofs.Common.{get_or-set_other, Contains-append_left, none-some, same_Some}
use Rattle.lw_axiomatic.proofs.Common.{slice_get_within, get_or_from_slice_get, slice_get-in_range}
use Rattle.lw_axiomatic.proofs.Common.{slice_get-map_inv, FinalState, thread_code, not-Contains-nil}
use Rattle.lw_axiomatic.proofs.Common.{Contains-head, Contains-tail, Contains-cons, IsAscendingFrom}
use Rattle.lw_axiomatic.proofs.Common.{IsAscendingFrom-lower_bound, IsAscendingFrom-flow_path, Operation}
use Rattle.lw_axiomatic.proofs.Common.{Language, writes, Test, ThreadExecutes, IsReadFrom, IsCandidate}
use Rattle.lw_axiomatic.proofs.Common.{MemoryEvent, Execution, IsEvent, reads, operation_is, location, Reads}
use Rattle.lw_axiomatic.proofs.Common.{Writes, Rf, Fr, Interleaved, read_value, interleaved_after, IsStep}
use Rattle.lw_axiomatic.proofs.Common.{InterleavedRunsTo, start, ScOrder, JumpsForward-thread, ThreadState}
use Rattle.lw_axiomatic.proofs.Common.{first_state, state_after, word_written}
use Rattle.lw_axiomatic.proofs.EventLists.{event, IsFirst, first_of_paths_or_empty}
use Rattle.lw_axiomatic.proofs.Decisions.{decided_event_equal, decided_contains, decided_and, decided_number}
use Rattle.lw_axiomatic.proofs.Decisions.{decided_true}
use Rattle.lw_axiomatic.proofs.FromInterleaving.{IsGood, IsGood-start, IsGood-next, slice_get-next_thread}
use Rattle.lw_axiomatic.proofs.FromInterleaving.{others_unchanged, event_kind, event_location}
use Rattle.lw_axiomatic.proofs.FromInterleaving.{word_left-at_written, word_unchanged-elsewhere}
use Rattle.lw_axiomatic.proofs.Paths.{IsFlowPathFrom-ThreadExecutes, state_after-unread, writes_unread}
use Rattle.lw_axiomatic.proofs.Indices.{in_list}
use Rattle.lw_axiomatic.proofs.Prefixes.{store_writes}
use Rattle.lw_axiomatic.proofs.StepStates.{read_value-location_of}
use Rattle.lw_axiomatic.proofs.EventKinds.{location_of-if_reads}

-- ---- how many events are ahead

-- The number of events ahead, of all threads.
abbrev pub total : List (List ℕ) → ℕ
total [] = 0
total (path ∷ paths) = length path + total paths

-- One step of a thread leaves one event fewer ahead.
total-one_step : (paths : List (List ℕ)) (t j : ℕ) (more : List ℕ)
    → t < length paths
    → thread_code paths t ≡ j ∷ more
    → suc (total (slice_set paths t more)) ≡ total paths
total-one_step [] t j more in_range e = absurd (omega (arith, in_range))
total-one_step (path ∷ paths) zero j more in_range e = omega (arith, ap length e)
total-one_step (path ∷ paths) (suc t) j more in_range e = omega (arith, total-one_step paths t j more (omega (arith, in_range)) e)

-- The fronts of an execution's paths, in which numbers increase along the relations of sequential consistency, and each read has its write.
pub record AreFronts {S : Type 0} (language : Language S) (test : Test S) (x : Execution) (rank : MemoryEvent → ℕ)
    (fronts tails : List (List ℕ)) : Type 0 where
  pub path_count : length fronts ≡ length test.threads
  pub parted : (t : ℕ) → thread_code x.paths t ≡ thread_code fronts t ++ thread_code tails t
  pub increases : (a b : MemoryEvent)
      → Contains (thread_code fronts a.thread) a.position
      → Contains (thread_code fronts b.thread) b.position
      → ScOrder language test x a b
      → rank a < rank b
  pub closed : (w r : MemoryEvent)
      → Contains (thread_code fronts r.thread) r.position
      → Rf language test x w r
      → Contains (thread_code fronts w.thread) w.position

module _ {S : Type 0} {language : Language S} {test : Test S} (well_scoped : IsWellScoped language test) {x : Execution}
    {o : FinalState} (candidate : IsCandidate language test x o) {rank : MemoryEvent → ℕ} {fronts tails : List (List ℕ)}
    (are : AreFronts language test x rank fronts tails) where
  -- The event is ahead in its thread.
  abbrev IsAhead : List (List ℕ) → MemoryEvent → Type 0
  IsAhead rest e = Contains (thread_code rest e.thread) e.position

  -- The event is in the front of its thread's path.
  abbrev IsIn : MemoryEvent → Type 0
  IsIn e = IsAhead fronts e

  -- What is in a front is an event of the execution.
  is_event : (e : MemoryEvent) → IsIn e → IsEvent x e
  is_event e c =
      subst (λ (path : List ℕ). Contains path e.position) (sym (are.parted e.thread))
      (Contains-append_left (thread_code fronts e.thread) (thread_code tails e.thread) e.position c)

  -- ---- what is ahead, and what is done

  -- The event is in the front of its thread's path, and no longer ahead.
  abbrev IsDone : List (List ℕ) → MemoryEvent → Type 0
  IsDone rest e = IsIn e × (IsAhead rest e → ⊥)

  -- Of the writes to a location that are done, the last wrote this word; or none is done, and it is the initial word.
  abbrev pub LastDone : List (List ℕ) → ℕ → ℕ → Type 0
  LastDone rest l w =
      (((e : MemoryEvent) → Writes language test x e l → IsDone rest e → ⊥) × (w ≡ slice_index test.head.init_words l))
      ⊎ ((e : MemoryEvent)
      × Writes language test x e l
      × IsDone rest e
      × ((f : MemoryEvent) → Writes language test x f l → IsDone rest f → x.co f ≤ x.co e)
      × (w ≡ x.written e))

  -- A state of the walk: the events in `rest` are ahead and the others are done, and memory has the last words written.
  pub record IsAt (rest : List (List ℕ)) (s : Interleaved) : Type 0 where
    pub path_count : length rest ≡ length test.threads
    pub good : IsGood well_scoped s
    pub threads : (t : ℕ) (th : ThreadState)
        → slice_get s.threads t ≡ Some th
        → ThreadExecutesTo language x t (thread_code test.threads t) (thread_code rest t ++ thread_code tails t) th o
    pub among : (e : MemoryEvent) → IsAhead rest e → IsIn e
    pub done_before_ahead : (e f : MemoryEvent) → IsDone rest e → IsAhead rest f → rank e ≤ rank f
    pub memory : (l : ℕ) → LastDone rest l (slice_index s.words l)

  -- The event that is done next.
  record NextEvent (rest : List (List ℕ)) (s : Interleaved) : Type 0 where
    thread : ℕ
    state : ThreadState
    thread_at : slice_get s.threads thread ≡ Some state
    more : List ℕ
    path_is : thread_code rest thread ≡ state.position ∷ more
    least : (f : MemoryEvent) → IsAhead rest f → rank (event thread state.position) ≤ rank f
    fewer : suc (total (slice_set rest thread more)) ≡ total rest

  -- ---- one event

  module _ {rest : List (List ℕ)} {s : Interleaved} (at_state : IsAt rest s) (next : NextEvent rest s) where
    -- The thread of the next event.
    abbrev next_thread : ℕ
    next_thread = next.thread

    -- The state of the next event's thread.
    abbrev th : ThreadState
    th = next.state

    -- The path of the next event's thread after this event.
    abbrev more : List ℕ
    more = next.more

    -- The next event.
    abbrev next_event : MemoryEvent
    next_event = event next_thread th.position

    -- The next event is ahead.
    IsAhead-next_event : IsAhead rest next_event
    IsAhead-next_event =
        subst (λ (path : List ℕ). Contains path th.position) (sym next.path_is) (Contains-head th.position th.position more refl)

    -- The next event is in the front of its thread's path.
    IsIn-next_event : IsIn next_event
    IsIn-next_event = at_state.among next_event IsAhead-next_event

    -- The next event is an event of the execution.
    is_event-next : IsEvent x next_event
    is_event-next = is_event next_event IsIn-next_event

    -- The state in which the next event's thread ends.
    abbrev end : ThreadState
    end = (at_state.threads next_thread th next.thread_at).end

    -- The next event's thread executes the next position and the rest.
    next_thread_executes : ThreadExecutes language x next_thread (thread_code test.threads next_thread)
        (th.position ∷ (more ++ thread_code tails next_thread)) th end
    next_thread_executes =
        subst (λ (path : List ℕ).
        ThreadExecutes language x next_thread (thread_code test.threads next_thread) (path ++ thread_code tails next_thread) th
        end) next.path_is (at_state.threads next_thread th next.thread_at).executes

    -- The next statement.
    abbrev next_statement : S
    next_statement = next_thread_executes.statement

    -- The operation of the next statement.
    abbrev op : Operation
    op = language.operation_of next_statement

    -- The state after the next event.
    abbrev mid : Interleaved
    mid = interleaved_after next_thread th op s

    -- The step of the next event leads to that state.
    abbrev next_step : IsStep language test.threads next_thread s mid
    next_step = record {
      thread = th;
      statement = next_statement;
      thread_at = next.thread_at;
      statement_at = next_thread_executes.statement_at;
      state_is = refl;
    }

    -- The paths that are ahead after the next event.
    abbrev rest_after : List (List ℕ)
    rest_after = slice_set rest next_thread more

    -- The thread is one of those with a path.
    thread_in_range : next_thread < length rest
    thread_in_range =
        omega (arith, slice_get_within s.threads next_thread th next.thread_at, at_state.good.thread_count, at_state.path_count)

    -- After the step the next event's thread has one position fewer ahead.
    own_path : thread_code rest_after next_thread ≡ more
    own_path = get_or-set_same rest next_thread more [] thread_in_range

    -- The other threads have the same ahead.
    other_path : (u : ℕ) → next_thread ≢ u → thread_code rest_after u ≡ thread_code rest u
    other_path u ne = get_or-set_other rest next_thread u more [] (λ same. ne (sym same))

    -- The positions ahead in its thread after the next event are greater than the event's.
    position_increases-rest : (h : ℕ) → Contains more h → th.position < h
    position_increases-rest h is_member =
        let up : IsAscendingFrom th.position (th.position ∷ (more ++ thread_code tails next_thread)) =
        IsAscendingFrom-flow_path language (thread_code test.threads next_thread) th.position
        (th.position ∷ (more ++ thread_code tails next_thread)) (JumpsForward-thread language test well_scoped next_thread)
        (IsFlowPathFrom-ThreadExecutes language x next_thread (thread_code test.threads next_thread)
        (th.position ∷ (more ++ thread_code tails next_thread)) th end next_thread_executes) in
        IsAscendingFrom-lower_bound (suc th.position) h (more ++ thread_code tails next_thread) up.1
        (in_list (more ++ thread_code tails next_thread) h
        (Contains-append_left more (thread_code tails next_thread) h is_member))

    -- What is ahead after the next event was ahead before it.
    IsAhead-before_step : (f : MemoryEvent) → IsAhead rest_after f → IsAhead rest f
    IsAhead-before_step f a = elim (cases_eq next_thread f.thread) [
      | inl same_thread ↦
          subst (λ u. Contains (thread_code rest u) f.position) same_thread
          (subst (λ (path : List ℕ). Contains path f.position) (sym next.path_is)
          (Contains-tail th.position f.position more
          (subst (λ (path : List ℕ). Contains path f.position) own_path
          (subst (λ u. Contains (thread_code rest_after u) f.position) (sym same_thread) a))))
      | inr threads_differ ↦ subst (λ (path : List ℕ). Contains path f.position) (other_path f.thread threads_differ) a
    ]

    -- What was ahead before the next event, except this event, is ahead after it.
    IsAhead-after_step : (f : MemoryEvent) → IsAhead rest f → (f ≡ next_event → ⊥) → IsAhead rest_after f
    IsAhead-after_step f a differ = elim (cases_eq next_thread f.thread) [
      | inl same_thread ↦
          elim (Contains-cons th.position f.position more
          (subst (λ (path : List ℕ). Contains path f.position) next.path_is
          (subst (λ u. Contains (thread_code rest u) f.position) (sym same_thread) a))) [
            | inl is_head ↦ absurd (differ (ap₂ event (sym same_thread) (sym is_head)))
            | inr in_tail ↦
                subst (λ u. Contains (thread_code rest_after u) f.position) same_thread
                (subst (λ (path : List ℕ). Contains path f.position) (sym own_path) in_tail)
          ]
      | inr threads_differ ↦ subst (λ (path : List ℕ). Contains path f.position) (sym (other_path f.thread threads_differ)) a
    ]

    -- After the step the next event is no longer ahead.
    not-IsAhead-next_after : IsAhead rest_after next_event → ⊥
    not-IsAhead-next_after a =
        omega (arith, position_increases-rest th.position (subst (λ (path : List ℕ). Contains path th.position) own_path a))

    -- What is done after the step is the next event, or was done before it.
    IsDone-after_step_inv : (f : MemoryEvent) → IsDone rest_after f → (f ≡ next_event) ⊎ IsDone rest f
    IsDone-after_step_inv f done = elim (decided_event_equal f next_event) [
      | inl same_event ↦ inl same_event
      | inr events_differ ↦ inr (done.0, λ a. done.1 (IsAhead-after_step f a events_differ))
    ]

    -- What was done before the step is done after it.
    IsDone-after_step : (f : MemoryEvent) → IsDone rest f → IsDone rest_after f
    IsDone-after_step f done = (done.0, λ a. done.1 (IsAhead-before_step f a))

    -- A read finds the word that the execution says.
    module _ (l : ℕ) (reading : Reads language test x next_event l) where
      -- The next event differs from each event that was done before.
      next_ne_done : (f : MemoryEvent) → IsDone rest f → next_event ≡ f → ⊥
      next_ne_done f done same = done.1 (subst (IsAhead rest) same IsAhead-next_event)

      -- Nothing that is done comes after the next event in from-reads: it would have a greater rank.
      none_newer : (f : MemoryEvent) → IsDone rest f → Fr language test x next_event f → ⊥
      none_newer f done fr = omega (
        arith,
        are.increases next_event f IsIn-next_event done.0 (inr (inr (inr fr))),
        at_state.done_before_ahead f next_event done IsAhead-next_event,
      )

      -- The write that the next event reads from is done.
      source_done : (v : MemoryEvent) → Writes language test x v l → x.rf next_event ≡ Some v → IsDone rest v
      source_done v writing source_is =
          let rf : Rf language test x v next_event =
          record { on_location = l; write = writing; read = reading; source_is = source_is } in
          let v_in : IsIn v = are.closed v next_event IsIn-next_event rf in
          elim (decided_contains (thread_code rest v.thread) v.position) [
            | inl a ↦ absurd (omega (arith, are.increases v next_event v_in IsIn-next_event (inr (inl rf)), next.least v a))
            | inr not ↦ (v_in, not)
          ]

      -- By the source of the read: the word that it reads is the location's word in the state.
      read_word-of_source : (q : Option MemoryEvent)
          → x.rf next_event ≡ q
          → IsReadFrom language test x next_event l q
          → LastDone rest l (slice_index s.words l)
          → x.read next_event ≡ slice_index s.words l
      read_word-of_source None source_is read (inl (never, word)) = read ∙ sym word
      read_word-of_source None source_is read (inr (f, wf, df, most, word)) = absurd (none_newer f df (record {
        on_location = l;
        read = reading;
        write = wf;
        events_differ = next_ne_done f df;
        source_before = λ v is_some. absurd (none-some v (sym source_is ∙ is_some));
      }))
      read_word-of_source (Some v) source_is read (inl (never, word)) =
          absurd (never v read.write (source_done v read.write source_is))
      read_word-of_source (Some v) source_is read (inr (f, wf, df, most, word)) = elim (cases_order (x.co v) (x.co f)) [
        | inl same_co ↦ read.word_is ∙ (ap x.written (candidate.co v f l read.write wf same_co) ∙ sym word)
        | inr (inl co_lt) ↦ absurd (none_newer f df (record {
          on_location = l;
          read = reading;
          write = wf;
          events_differ = next_ne_done f df;
          source_before =
              λ u is_some. subst (λ (z : MemoryEvent). x.co z < x.co f) (same_Some v u (sym source_is ∙ is_some)) co_lt;
        }))
        | inr (inr co_gt) ↦ absurd (omega (arith, co_gt, most v read.write (source_done v read.write source_is)))
      ]

      -- The word that the event reads is the location's word in the state.
      reads_word : x.read next_event ≡ slice_index s.words l
      reads_word = read_word-of_source (x.rf next_event) refl (candidate.rf next_event l reading) (at_state.memory l)

    -- The next event reads the word that the step finds.
    read_value_is_read : reads op ≡ true → x.read next_event ≡ read_value op s.words
    read_value_is_read r =
        let l = location_of-if_reads op r in
        let reading : Reads language test x next_event l.0 = record {
          is_event = is_event-next;
          location_is = event_location well_scoped next_step at_state.good ∙ l.1;
          is_read = event_kind well_scoped next_step at_state.good reads ∙ r;
        } in
        reads_word l.0 reading ∙ sym (read_value-location_of op l.0 s.words l.1)

    -- After the step the thread's state is the one that the execution says.
    state_after_next : state_after op th (x.read next_event) ≡ state_after op th (read_value op s.words)
    state_after_next = elim (cases_Bool (reads op)) [
      | inl r ↦ ap (state_after op th) (read_value_is_read r)
      | inr n ↦ state_after-unread op th (x.read next_event) (read_value op s.words) n
    ]

    -- The next event writes the word that the step writes.
    written_by_next : writes op ≡ true → x.written next_event ≡ word_written op th.regs (read_value op s.words)
    written_by_next w = elim (cases_Bool (reads op)) [
      | inl r ↦ next_thread_executes.written_is w ∙ ap (word_written op th.regs) (read_value_is_read r)
      | inr n ↦
          next_thread_executes.written_is w
          ∙ (store_writes op (writes_unread op n w)).1 th.regs (x.read next_event) (read_value op s.words)
    ]

    -- ---- what holds after it

    -- After the step each thread executes what is ahead of it.
    threads_execute_rest : (u : ℕ) (q : ThreadState)
        → slice_get mid.threads u ≡ Some q
        → ThreadExecutesTo language x u (thread_code test.threads u) (thread_code rest_after u ++ thread_code tails u) q o
    threads_execute_rest u q thread_at = elim (cases_eq next_thread u) [
      | inl same ↦
          (let next_is : state_after op th (read_value op s.words) ≡ q =
          same_Some (state_after op th (read_value op s.words)) q
          (sym (slice_get-next_thread well_scoped next_step at_state.good)
          ∙ subst (λ k. slice_get mid.threads k ≡ Some q) (sym same) thread_at) in
          let own : ThreadExecutes language x next_thread (thread_code test.threads next_thread)
          (thread_code rest_after next_thread ++ thread_code tails next_thread) q end =
          subst (λ (path : List ℕ).
          ThreadExecutes language x next_thread (thread_code test.threads next_thread) (path ++ thread_code tails next_thread) q
          end) (sym own_path)
          (subst (λ (z : ThreadState).
          ThreadExecutes language x next_thread (thread_code test.threads next_thread) (more ++ thread_code tails next_thread) z
          end) (state_after_next ∙ next_is) next_thread_executes.rest) in
          subst
          (λ k. ThreadExecutesTo language x k (thread_code test.threads k) (thread_code rest_after k ++ thread_code tails k) q o)
          same (record { end = end; executes = own; regs_are = (at_state.threads next_thread th next.thread_at).regs_are }))
      | inr ne ↦
          (let old = at_state.threads u q (sym (others_unchanged well_scoped next_step at_state.good u ne) ∙ thread_at) in
          record {
            end = old.end;
            executes =
                subst (λ (path : List ℕ).
                ThreadExecutes language x u (thread_code test.threads u) (path ++ thread_code tails u) q old.end)
                (sym (other_path u ne)) old.executes;
            regs_are = old.regs_are;
          })
    ]

    -- After the step what is done has no greater rank than what is ahead.
    rank_at_most-done_and_ahead : (f g : MemoryEvent) → IsDone rest_after f → IsAhead rest_after g → rank f ≤ rank g
    rank_at_most-done_and_ahead f g done a = elim (IsDone-after_step_inv f done) [
      | inl same ↦ omega (arith, ap rank same, next.least g (IsAhead-before_step g a))
      | inr old ↦ at_state.done_before_ahead f g old (IsAhead-before_step g a)
    ]

    -- After the step each location has the word of the last write that is done.
    LastDone-after_step : (l : ℕ) → LastDone rest_after l (slice_index mid.words l)
    LastDone-after_step l =
        elim (decided_and (decided_number (location language test next_event) l)
        (decided_true (operation_is language test writes next_event))) [
          | inl here ↦
              (let writing : Writes language test x next_event l =
              record { is_event = is_event-next; location_is = here.0; is_write = here.1 } in
              inr (
                next_event,
                writing,
                (IsIn-next_event, not-IsAhead-next_after),
                (λ f wf df. elim (IsDone-after_step_inv f df) [
                  | inl same ↦ omega (arith, ap x.co same)
                  | inr old ↦ elim (cases_lt (x.co next_event) (x.co f)) [
                    | inl less ↦ absurd (omega (
                      arith,
                      are.increases next_event f IsIn-next_event old.0
                          (inr (inr (inl (record { on_location = l; first_write = writing; second_write = wf; co_lt = less })))),
                      at_state.done_before_ahead f next_event old IsAhead-next_event,
                    ))
                    | inr ge ↦ ge
                  ]
                ]),
                word_left-at_written well_scoped next_step at_state.good l here
                    ∙ sym (written_by_next (sym (event_kind well_scoped next_step at_state.good writes) ∙ here.1)),
              ))
          | inr not ↦
              subst (LastDone rest_after l) (sym (word_unchanged-elsewhere well_scoped next_step at_state.good l not))
              (elim (at_state.memory l) [
                | inl (never, word) ↦ inl (
                  (λ f wf df. elim (IsDone-after_step_inv f df) [
                    | inl same ↦ not (
                      ap (location language test) (sym same) ∙ wf.location_is,
                      ap (operation_is language test writes) (sym same) ∙ wf.is_write,
                    )
                    | inr old ↦ never f wf old
                  ]),
                  word,
                )
                | inr (v, writing, done, most, word) ↦ inr (
                  v,
                  writing,
                  IsDone-after_step v done,
                  (λ f wf df. elim (IsDone-after_step_inv f df) [
                    | inl same ↦ absurd (not (
                      ap (location language test) (sym same) ∙ wf.location_is,
                      ap (operation_is language test writes) (sym same) ∙ wf.is_write,
                    ))
                    | inr old ↦ most f wf old
                  ]),
                  word,
                )
              ])
        ]

    -- The invariant holds after the step.
    IsAt-next : IsAt rest_after mid
    IsAt-next = record {
      path_count = length-set rest next_thread more ∙ at_state.path_count;
      good = IsGood-next well_scoped next_step at_state.good;
      threads = threads_execute_rest;
      among = λ f a. at_state.among f (IsAhead-before_step f a);
      done_before_ahead = rank_at_most-done_and_ahead;
      memory = LastDone-after_step;
    }

  -- ---- the first of what is ahead is the next of its thread

  -- The event of lowest rank in a path is the first of the path.
  next_of_thread : (t j : ℕ) (path : List ℕ) (th end : ThreadState)
      → Contains path j
      → ThreadExecutes language x t (thread_code test.threads t) (path ++ thread_code tails t) th end
      → ((h : ℕ) → Contains path h → IsIn (event t h))
      → ((h : ℕ) → Contains path h → rank (event t j) ≤ rank (event t h))
      → (more : List ℕ) × (path ≡ th.position ∷ more) × (th.position ≡ j)
  next_of_thread t j [] th end on_path executes each least = absurd (not-Contains-nil j on_path)
  next_of_thread t j (h ∷ more) th end on_path executes each least = elim (Contains-cons h j more on_path) [
    | inl is_head ↦ (more, ap (λ (k : ℕ). k ∷ more) (sym executes.position_is), executes.position_is ∙ is_head)
    | inr in_tail ↦
        absurd (let up : IsAscendingFrom th.position (h ∷ (more ++ thread_code tails t)) =
        IsAscendingFrom-flow_path language (thread_code test.threads t) th.position (h ∷ (more ++ thread_code tails t))
        (JumpsForward-thread language test well_scoped t)
        (IsFlowPathFrom-ThreadExecutes language x t (thread_code test.threads t) (h ∷ (more ++ thread_code tails t)) th end
        executes) in
        let less : h < j =
        IsAscendingFrom-lower_bound (suc h) j (more ++ thread_code tails t) up.1
        (in_list (more ++ thread_code tails t) j (Contains-append_left more (thread_code tails t) j in_tail)) in
        let is_member : Contains (h ∷ more) h = Contains-head h h more refl in
        omega (
          arith,
          are.increases (event t h) (event t j) (each h is_member) (each j on_path) (inl (record {
            first_event = is_event (event t h) (each h is_member);
            second_event = is_event (event t j) (each j on_path);
            same_thread = refl;
            position_lt = less;
          })),
          least h is_member,
        ))
  ]

  -- ---- all along

  -- A run that does these events in sequence, each of no greater rank than those after it.
  abbrev pub RanBy : List MemoryEvent → Interleaved → Interleaved → Type 0
  RanBy [] s end = end ≡ s
  RanBy (e ∷ events) s end =
      (mid : Interleaved)
      × (step : IsStep language test.threads e.thread s mid)
      × (step.thread.position ≡ e.position)
      × ((f : MemoryEvent) → Contains events f → rank e ≤ rank f)
      × RanBy events mid end

  -- A walk by ranks is a run by interleaving.
  pub InterleavedRunsTo-RanBy : (events : List MemoryEvent) (s end : Interleaved)
      → RanBy events s end
      → InterleavedRunsTo language test.threads (map (λ (e : MemoryEvent). e.thread) events) s end
  InterleavedRunsTo-RanBy [] s last ran = ran
  InterleavedRunsTo-RanBy (e ∷ events) s last (next, step, at, least, ran) =
      (next, step, InterleavedRunsTo-RanBy events next last ran)

  -- A walk that does all events that are ahead, in the sequence of their ranks, to a state with none left.
  pub record CompleteWalk (rest : List (List ℕ)) (s : Interleaved) : Type 0 where
    pub events : List MemoryEvent
    pub end : Interleaved
    pub ran : RanBy events s end
    pub all_ahead : (f : MemoryEvent) → Contains events f → IsAhead rest f
    pub complete : (f : MemoryEvent) → IsAhead rest f → Contains events f
    pub left : List (List ℕ)
    pub none_ahead : (f : MemoryEvent) → IsAhead left f → ⊥
    pub end_is_at : IsAt left end

  -- The first event by ranks is the next of its thread.
  NextEvent-IsFirst : (rest : List (List ℕ)) (s : Interleaved)
      → IsAt rest s
      → (e : MemoryEvent)
      → IsFirst rank rest e
      → NextEvent rest s
  NextEvent-IsFirst rest s is e first =
      let in_rest : e.thread < length rest = elim (cases_lt e.thread (length rest)) [
        | inl l ↦ l
        | inr ge ↦
            absurd (not-Contains-nil e.position
            (subst (λ (path : List ℕ). Contains path e.position) (get_or_past rest e.thread [] ge) first.on_path))
      ] in
      let found = slice_get-in_range s.threads e.thread (omega (arith, in_rest, is.path_count, is.good.thread_count)) in
      let now = is.threads e.thread found.0 found.1 in
      let head =
      next_of_thread e.thread e.position (thread_code rest e.thread) found.0 now.end first.on_path now.executes
      (λ h c. is.among (event e.thread h) c) (λ h c. first.least (event e.thread h) c) in
      record {
        thread = e.thread;
        state = found.0;
        thread_at = found.1;
        more = head.0;
        path_is = head.1;
        least = λ f a. omega (arith, ap (λ j. rank (event e.thread j)) head.2, first.least f a);
        fewer = total-one_step rest e.thread found.0.position head.0 in_rest head.1;
      }

  -- If nothing is ahead, the walk is complete, without events.
  CompleteWalk-none_ahead : (rest : List (List ℕ)) (s : Interleaved)
      → IsAt rest s
      → ((f : MemoryEvent) → IsAhead rest f → ⊥)
      → CompleteWalk rest s
  CompleteWalk-none_ahead rest s is none = record {
    events = [];
    end = s;
    ran = refl;
    all_ahead = λ f c. absurd (not-Contains-nil f c);
    complete = λ f a. absurd (none f a);
    left = rest;
    none_ahead = none;
    end_is_at = is;
  }

  -- If a walk is complete from the state after the next event, it is complete from the state before, with this event at its
  -- front.
  CompleteWalk-one_event_more : (rest : List (List ℕ)) (s : Interleaved) (is : IsAt rest s) (a : NextEvent rest s)
      → CompleteWalk (slice_set rest a.thread a.more) (mid is a)
      → CompleteWalk rest s
  CompleteWalk-one_event_more rest s is a later =
      let now : MemoryEvent = event a.thread a.state.position in
      record {
        events = now ∷ later.events;
        end = later.end;
        ran = (mid is a, next_step is a, refl, (λ f c. a.least f (IsAhead-before_step is a f (later.all_ahead f c))), later.ran);
        all_ahead = λ f c. elim (Contains-cons now f later.events c) [
          | inl is_head ↦ subst (IsAhead rest) is_head (IsAhead-next_event is a)
          | inr in_tail ↦ IsAhead-before_step is a f (later.all_ahead f in_tail)
        ];
        complete = λ f c. elim (decided_event_equal f now) [
          | inl same_event ↦ Contains-head now f later.events (sym same_event)
          | inr events_differ ↦ Contains-tail now f later.events (later.complete f (IsAhead-after_step is a f c events_differ))
        ];
        left = later.left;
        none_ahead = later.none_ahead;
        end_is_at = later.end_is_at;
      }

  -- A state of the walk with at most n events ahead has a complete walk, by induction on n.
  CompleteWalk-by_count : (n : ℕ) (rest : List (List ℕ)) (s : Interleaved) → IsAt rest s → total rest ≤ n → CompleteWalk rest s
  CompleteWalk-by_count zero rest s is le = elim (first_of_paths_or_empty rank rest) [
    | inl none ↦ CompleteWalk-none_ahead rest s is none
    | inr (e, first) ↦ absurd (let next : NextEvent rest s = NextEvent-IsFirst rest s is e first in omega (arith, next.fewer, le))
  ]
  CompleteWalk-by_count (suc n) rest s is le = elim (first_of_paths_or_empty rank rest) [
    | inl none ↦ CompleteWalk-none_ahead rest s is none
    | inr (e, first) ↦
        (let a : NextEvent rest s = NextEvent-IsFirst rest s is e first in
        CompleteWalk-one_event_more rest s is a
        (CompleteWalk-by_count n (slice_set rest a.thread a.more) (mid is a) (IsAt-next is a) (omega (arith, a.fewer, le))))
  ]

  -- ---- from the start

  -- The invariant holds at the start.
  IsAt-start : IsAt fronts (start language test)
  IsAt-start = record {
    path_count = are.path_count;
    good = IsGood-start well_scoped;
    threads = λ t th at.
        (let from = slice_get-map_inv first_state test.head.init_regs t th at in
        let in_range : t < length test.threads =
        omega (arith, slice_get_within test.head.init_regs t from.0 from.1, well_scoped.head.regs, well_scoped.as_many) in
        let regs : slice_index_or test.head.init_regs t [] ≡ from.0 =
        get_or_from_slice_get test.head.init_regs t from.0 [] from.1 in
        let goes = candidate.threads t in_range in
        record {
          end = goes.end;
          executes =
              subst (λ (path : List ℕ). ThreadExecutes language x t (thread_code test.threads t) path th goes.end) (are.parted t)
              (subst
              (λ (z : ThreadState). ThreadExecutes language x t (thread_code test.threads t) (thread_code x.paths t) z goes.end)
              (ap first_state regs ∙ sym from.2) goes.executes);
          regs_are = goes.regs_are;
        });
    among = λ e a. a;
    done_before_ahead = λ e f done a. absurd (done.1 done.0);
    memory = λ l. inl ((λ e writing done. done.1 done.0), refl);
  }

  -- The fronts can be walked from the start to their ends.
  pub CompleteWalk-from_start : CompleteWalk fronts (start language test)
  CompleteWalk-from_start = CompleteWalk-by_count (total fronts) fronts (start language test) IsAt-start (omega arith)
