-- An execution that satisfies the axioms is sequentially consistent, or its test has a triangular race. Of the from-reads along
-- which the ranks do not increase, take one with the first read, and of that read the first write. Up to the write
-- all other threads, and the reading thread up to its read, are a run by interleaving. After it both are next, and the read's
-- thread has a store that no fence followed.
use Rattle.lw_axiomatic.proofs.Common.{IsWellScopedProgram, IsAllowed, InterleavingOutcome, IsScOutcome, ◌↔◌}
use Rattle.lw_axiomatic.proofs.Common.{◌≡◌, ◌≢◌, ℕ, suc, ◌<◌, ◌≤◌, ◌⊎◌, ◌||◌, ◌==◌, inl, inr, Bool, true}
use Rattle.lw_axiomatic.proofs.Common.{false, Option, Some, None, List, [], ◌∷◌, ◌++◌, map, refl, sym, ap}
use Rattle.lw_axiomatic.proofs.Common.{ap₂, ◌∙◌, subst, arith, true≢false, eq-eqb, eqb-true, Contains}
use Rattle.lw_axiomatic.proofs.Common.{slice_get, lt-ltb, ltb-true, ◌&&◌, nat_lt, option_map, option_and_then}
use Rattle.lw_axiomatic.proofs.Common.{option_map_or, cases_Bool, cases_eq, cases_lt, cases_order, or_left}
use Rattle.lw_axiomatic.proofs.Common.{or_right, or_cases, and_from, and_parts, false_from_ne_true}
use Rattle.lw_axiomatic.proofs.Common.{slice_get-in_range, FinalState, thread_code, Contains-head}
use Rattle.lw_axiomatic.proofs.Common.{IsAscendingFrom, IsAscendingFrom-flow_path, JumpsForward-thread}
use Rattle.lw_axiomatic.proofs.Common.{Operation, Store, location_of, is_store, is_load, needs_empty_buffer}
use Rattle.lw_axiomatic.proofs.Common.{writes, x86_language, x86_operation, X86Test, SatisfiesAxioms}
use Rattle.lw_axiomatic.proofs.Common.{ThreadExecutes, IsCandidate, MemoryEvent, Execution, IsEvent, Po}
use Rattle.lw_axiomatic.proofs.Common.{reads, operation_is, location, Writes, Rf, Fr, start, IsNext}
use Rattle.lw_axiomatic.proofs.Common.{HasTriangularRace, IsSequentiallyConsistent}
use Rattle.lw_axiomatic.proofs.EventLists.{event, least_of_paths_or_none}
use Rattle.lw_axiomatic.proofs.Decisions.{Decidable, decided_and, decided_iff, decided_fr}
use Rattle.lw_axiomatic.proofs.EventKinds.{write_or_load, position_below_size, write_stores_or_reads}
use Rattle.lw_axiomatic.proofs.EventKinds.{needs_empty_buffer-false_if_store_event}
use Rattle.lw_axiomatic.proofs.Levels.{level, level-le, level-lt, level-below}
use Rattle.lw_axiomatic.proofs.FencedTests.{event_thread_in_range, IsFlowPathFrom-of_path}
use Rattle.lw_axiomatic.proofs.Fronts.{fronts, tails, length-fronts, fronts_append_tails, Contains-of_fronts}
use Rattle.lw_axiomatic.proofs.Fronts.{Contains-fronts, tails-head}
use Rattle.lw_axiomatic.proofs.RaceRuns.{Split, Split-of_run, RunsToWithoutBarrier-Runs}
use Rattle.lw_axiomatic.proofs.Timing.{anchor_reached}
use Rattle.lw_axiomatic.proofs.Walks.{AreFronts, CompleteWalk, CompleteWalk-from_start}
use Rattle.lw_axiomatic.proofs.Anchored as anchored_by

module _ {test : X86Test} (well_scoped : IsWellScopedProgram test) {x : Execution} {o : FinalState}
    (candidate : IsCandidate x86_language test x o) (axioms : SatisfiesAxioms test x) where
  -- An event's rank, by its anchored number and its position.
  abbrev rank : MemoryEvent → ℕ
  rank = anchored_by.rank axioms

  -- The rank of an event in global happens-before, which the axiom gives.
  abbrev ghb_rank : MemoryEvent → ℕ
  ghb_rank = axioms.happens_before.rank

  -- The ranks increase along program order.
  rank_increases-Po : (a b : MemoryEvent) → Po x a b → rank a < rank b
  rank_increases-Po = anchored_by.rank_increases-Po axioms

  -- From-reads along which the ranks do not increase.
  record IsLate (b c : MemoryEvent) : Type 0 where
    fr : Fr x86_language test x b c
    rank_at_most : rank c ≤ rank b

  -- Whether the ranks do not increase along a from-reads is decidable.
  IsLate-decidable : (b c : MemoryEvent) → Decidable (IsLate b c)
  IsLate-decidable b c =
      decided_iff (λ h. record { fr = h.0; rank_at_most = h.1 }) (λ h. (h.fr, h.rank_at_most))
      (decided_and (decided_fr x86_language test x b c)
      (elim (cases_lt (rank b) (rank c)) [ inl less ↦ inr (λ le. omega (arith, less, le)) | inr le ↦ inl le ]))

  -- The first write of a read that is late.
  record FirstWrite (b : MemoryEvent) : Type 0 where
    write : MemoryEvent
    is_late : IsLate b write
    least : (w : MemoryEvent) → IsLate b w → rank write ≤ rank w

  -- Whether a read has such a write, and then the first one, is decidable.
  FirstWrite-decidable : (b : MemoryEvent) → Decidable (FirstWrite b)
  FirstWrite-decidable b = elim (least_of_paths_or_none rank (IsLate b) (IsLate-decidable b) x.paths) [
    | inl none ↦ inr (λ f. none f.write f.is_late.fr.write.is_event f.is_late)
    | inr (c, is, least) ↦ inl (record { write = c; is_late = is; least = λ w l. least w l.fr.write.is_event l })
  ]

  -- ---- the first read that is late, and its first write

  module _ (late_read : MemoryEvent) (first_write : FirstWrite late_read)
      (least : (r : MemoryEvent) → IsEvent x r → FirstWrite r → rank late_read ≤ rank r) where
    -- The write.
    abbrev late_write : MemoryEvent
    late_write = first_write.write

    -- The read is before it in from-reads.
    abbrev first_fr : Fr x86_language test x late_read late_write
    first_fr = first_write.is_late.fr

    -- The location of the read and the write.
    abbrev raced_location : ℕ
    raced_location = first_fr.on_location

    -- No read with such a from-reads has a lower rank.
    first_read_is_least : (r w : MemoryEvent) → IsLate r w → rank late_read ≤ rank r
    first_read_is_least r w is = elim (FirstWrite-decidable r) [
      | inl some ↦ least r is.fr.read.is_event some
      | inr none ↦ absurd (elim (least_of_paths_or_none rank (IsLate r) (IsLate-decidable r) x.paths) [
        | inl never ↦ never w is.fr.write.is_event is
        | inr (v, late_v, first) ↦ none (record { write = v; is_late = late_v; least = λ u lu. first u lu.fr.write.is_event lu })
      ])
    ]

    -- The read and the write are of two threads.
    threads_differ : late_read.thread ≢ late_write.thread
    threads_differ one =
        let up : rank late_read < rank late_write =
        anchored_by.rank_increases-Fr_in_thread axioms late_read late_write first_fr one in
        omega (arith, up, first_write.is_late.rank_at_most)

    -- Global happens-before has the read before the write.
    ghb_rank_increases-Fr : ghb_rank late_read < ghb_rank late_write
    ghb_rank_increases-Fr = axioms.happens_before.increases late_read late_write (inr (inr (inr first_fr)))

    -- A number above all positions.
    abbrev width : ℕ
    width = anchored_by.width axioms

    -- The write's rank is at least the level of one more than its rank in global happens-before.
    write_rank_at_least : level width (suc (ghb_rank late_write)) ≤ rank late_write
    write_rank_at_least =
        let up =
        anchored_by.anchored_at_least_top axioms late_write first_fr.write.is_event
        (anchored_by.is_access-of_write axioms late_write first_fr.write.is_write) in
        omega (arith, level-le width (suc (ghb_rank late_write)) (anchored_by.anchored axioms late_write) up)

    -- The anchored number of the read is above the write's rank in global happens-before.
    read_anchored_at_least_write : suc (ghb_rank late_write) ≤ anchored_by.anchored axioms late_read
    read_anchored_at_least_write =
        level-below width (suc (ghb_rank late_write)) (anchored_by.anchored axioms late_read) late_read.position
        (position_below_size test late_read raced_location first_fr.read.location_is)
        (omega (arith, write_rank_at_least, first_write.is_late.rank_at_most))

    -- The read is a load: a locked instruction's rank would increase.
    is_load-of_read : operation_is x86_language test is_load late_read ≡ true
    is_load-of_read = elim (write_or_load test late_read raced_location first_fr.read.location_is) [
      | inl late_read_writes ↦
          absurd (let up : rank late_read < rank late_write =
          anchored_by.rank_increases-Fr_of_low_anchor axioms late_read late_write first_fr
          (anchored_by.anchored_at_most_top-of_write axioms late_read first_fr.read.is_event late_read_writes) in
          omega (arith, up, first_write.is_late.rank_at_most))
      | inr late_read_loads ↦ late_read_loads
    ]

    -- ---- the store

    -- A store precedes the late read in program order, and its rank in global happens-before is at least that of the late write.
    record Stored : Type 0 where
      position : ℕ
      po : Po x (event late_read.thread position) late_read
      store : operation_is x86_language test is_store (event late_read.thread position) ≡ true
      high : ghb_rank late_write ≤ ghb_rank (event late_read.thread position)

    -- The read is anchored by a store before it.
    Stored-of_read : Stored
    Stored-of_read =
        elim (anchor_reached (anchored_by.top axioms late_read.thread) (thread_code x.paths late_read.thread)
        late_read.position) [
          | inr none ↦ absurd (omega (arith, none, read_anchored_at_least_write))
          | inl (k, on, le, is) ↦
              Stored-of_access k on le is (cases_Bool (anchored_by.accesses axioms (event late_read.thread k)))
        ]
      where
        -- By whether the event at the anchoring position is an access.
        Stored-of_access : (k : ℕ)
            → Contains (thread_code x.paths late_read.thread) k
            → k ≤ late_read.position
            → anchored_by.top axioms late_read.thread k ≡ anchored_by.anchored axioms late_read
            → (anchored_by.accesses axioms (event late_read.thread k) ≡ true)
            ⊎ (anchored_by.accesses axioms (event late_read.thread k) ≡ false)
            → Stored
        Stored-of_access k on_path le is (inr none) =
            absurd (omega (arith, is, anchored_by.top_other axioms (event late_read.thread k) none, read_anchored_at_least_write))
        Stored-of_access k on_path le is (inl a) =
            let own : anchored_by.top axioms late_read.thread k ≡ suc (ghb_rank (event late_read.thread k)) =
            anchored_by.top_access axioms (event late_read.thread k) a in
            let high : ghb_rank late_write ≤ ghb_rank (event late_read.thread k) =
            omega (arith, is, own, read_anchored_at_least_write) in
            elim (cases_eq k late_read.position) [
              | inl same_position ↦
                  absurd (let same_event : event late_read.thread k ≡ late_read = ap (event late_read.thread) same_position in
                  omega (arith, ap ghb_rank same_event, high, ghb_rank_increases-Fr))
              | inr positions_differ ↦
                  (let po : Po x (event late_read.thread k) late_read = record {
                    first_event = on_path;
                    second_event = first_fr.read.is_event;
                    same_thread = refl;
                    position_lt = omega (arith, le, positions_differ);
                  } in
                  record {
                    position = k;
                    po = po;
                    store = elim (or_cases (operation_is x86_language test reads (event late_read.thread k)) _ a) [
                      | inl r ↦ absurd (omega (
                        arith,
                        anchored_by.ghb_rank_increases-Po_from_read axioms (event late_read.thread k) late_read po r,
                        high,
                        ghb_rank_increases-Fr,
                      ))
                      | inr w ↦ elim (write_stores_or_reads test (event late_read.thread k) w) [
                        | inl s ↦ s
                        | inr r ↦ absurd (omega (
                          arith,
                          anchored_by.ghb_rank_increases-Po_from_read axioms (event late_read.thread k) late_read po r,
                          high,
                          ghb_rank_increases-Fr,
                        ))
                      ]
                    ];
                    high = high;
                  })
            ]

    -- The store that anchors the read.
    abbrev earlier_store : MemoryEvent
    earlier_store = event late_read.thread Stored-of_read.position

    -- No event between the store and the read waits for an empty buffer.
    no_wait-between : (h : MemoryEvent)
        → Po x earlier_store h
        → Po x h late_read
        → operation_is x86_language test needs_empty_buffer h ≡ true
        → ⊥
    no_wait-between h first second w = omega (
      arith,
      anchored_by.ghb_rank_increases-Po_to_waiting axioms earlier_store h first w,
      anchored_by.ghb_rank_increases-Po_from_waiting axioms h late_read second w,
      Stored-of_read.high,
      ghb_rank_increases-Fr,
    )

    -- The store is to another location.
    location_ne : location x86_language test earlier_store ≡ Some raced_location → ⊥
    location_ne location_is =
        let writing : Writes x86_language test x earlier_store raced_location = record {
          is_event = Stored-of_read.po.first_event;
          location_is = location_is;
          is_write = store_kind earlier_store Stored-of_read.store;
        } in
        let up : axioms.coherence.rank earlier_store < axioms.coherence.rank late_read =
        axioms.coherence.increases earlier_store late_read (inl (record {
          po = Stored-of_read.po;
          on_location = raced_location;
          first_location_is = location_is;
          second_location_is = first_fr.read.location_is;
        })) in
        let more : axioms.coherence.rank late_read < axioms.coherence.rank late_write =
        axioms.coherence.increases late_read late_write (inr (inr (inr first_fr))) in
        elim (cases_order (x.co earlier_store) (x.co late_write)) [
          | inl same_co ↦
              (let one : earlier_store ≡ late_write =
              candidate.co earlier_store late_write raced_location writing first_fr.write same_co in
              threads_differ (ap (λ (z : MemoryEvent). z.thread) one))
          | inr (inl co_lt) ↦ omega (
            arith,
            axioms.happens_before.increases earlier_store late_write (inr (inr (inl (record {
              on_location = raced_location;
              first_write = writing;
              second_write = first_fr.write;
              co_lt = co_lt;
            })))),
            Stored-of_read.high,
          )
          | inr (inr co_gt) ↦ omega (
            arith,
            axioms.coherence.increases late_write earlier_store (inr (inr (inl (record {
              on_location = raced_location;
              first_write = first_fr.write;
              second_write = writing;
              co_lt = co_gt;
            })))),
            up,
            more,
          )
        ]
      where
        -- A store writes.
        store_writes : (q : Option Operation) → option_map_or is_store q false ≡ true → option_map_or writes q false ≡ true
        store_writes None e = absurd (true≢false (sym e))
        store_writes (Some (Store y v)) e = refl
        store_writes (Some _) e = absurd (true≢false (sym e))

        -- An event that is a store writes.
        store_kind : (e : MemoryEvent)
            → operation_is x86_language test is_store e ≡ true
            → operation_is x86_language test writes e ≡ true
        store_kind e s = store_writes _ s

    -- ---- the fronts: what comes before the write, and the reading thread up to its read

    -- Tests whether an event is executed before the race: it has a lower rank than the write, or precedes the
    -- read in its thread.
    abbrev passes : ℕ → ℕ → Bool
    passes t j = nat_lt (rank (event t j)) (rank late_write) || ((t == late_read.thread) && nat_lt j late_read.position)

    -- An event with a lower rank than the write passes.
    passes-of_lower_rank : (t j : ℕ) → rank (event t j) < rank late_write → passes t j ≡ true
    passes-of_lower_rank t j less =
        or_left (nat_lt (rank (event t j)) (rank late_write)) _ (lt-ltb (rank (event t j)) (rank late_write) less)

    -- What precedes the read in its thread passes.
    passes-of_thread : (t j : ℕ) → t ≡ late_read.thread → j < late_read.position → passes t j ≡ true
    passes-of_thread t j same_thread less =
        or_right (nat_lt (rank (event t j)) (rank late_write)) _
        (and_from (t == late_read.thread) _ (eq-eqb t late_read.thread same_thread) (lt-ltb j late_read.position less))

    -- An event that passes has a lower rank than the write, or precedes the read in its thread.
    passes-inv : (t j : ℕ)
        → passes t j ≡ true
        → (rank (event t j) < rank late_write) ⊎ ((t ≡ late_read.thread) × (j < late_read.position))
    passes-inv t j p = elim (or_cases (nat_lt (rank (event t j)) (rank late_write)) _ p) [
      | inl less ↦ inl (ltb-true (rank (event t j)) (rank late_write) less)
      | inr own ↦
          (let both = and_parts (t == late_read.thread) (nat_lt j late_read.position) own in
          inr (eqb-true t late_read.thread both.0, ltb-true j late_read.position both.1))
    ]

    -- If an event of a path passes, each earlier event of the path passes.
    passes-downward_closed : (t h j : ℕ)
        → Contains (thread_code x.paths t) h
        → Contains (thread_code x.paths t) j
        → h < j
        → passes t j ≡ true
        → passes t h ≡ true
    passes-downward_closed t h j ch cj less p = elim (passes-inv t j p) [
      | inl early ↦ passes-of_lower_rank t h (omega (
        arith,
        rank_increases-Po (event t h) (event t j)
            (record { first_event = ch; second_event = cj; same_thread = refl; position_lt = less }),
        early,
      ))
      | inr (one, before) ↦ passes-of_thread t h one (omega (arith, less, before))
    ]

    -- A path's positions increase.
    IsAscendingFrom-of_path : (t j : ℕ) → Contains (thread_code x.paths t) j → IsAscendingFrom 0 (thread_code x.paths t)
    IsAscendingFrom-of_path t j on_path =
        IsAscendingFrom-flow_path x86_language (thread_code test.threads t) 0 (thread_code x.paths t)
        (JumpsForward-thread x86_language test well_scoped t)
        (IsFlowPathFrom-of_path candidate t (event_thread_in_range candidate (event t j) on_path))

    -- The event is in the front of its thread's path.
    abbrev IsIn : MemoryEvent → Type 0
    IsIn e = Contains (thread_code (fronts passes 0 x.paths) e.thread) e.position

    -- An event that passes is in the front.
    IsIn-passes : (e : MemoryEvent) → IsEvent x e → passes e.thread e.position ≡ true → IsIn e
    IsIn-passes e is_event p =
        Contains-fronts passes e.thread e.position x.paths (IsAscendingFrom-of_path e.thread e.position is_event)
        (passes-downward_closed e.thread) is_event p

    -- What is in the front is an event that passes.
    IsIn-inv : (e : MemoryEvent) → IsIn e → IsEvent x e × (passes e.thread e.position ≡ true)
    IsIn-inv e c = Contains-of_fronts passes e.thread e.position x.paths c

    -- The ranks increase along from-reads of what is in front.
    rank_increases-Fr : (r w : MemoryEvent) → IsIn r → Fr x86_language test x r w → rank r < rank w
    rank_increases-Fr r w ir from = elim (cases_lt (rank r) (rank w)) [
      | inl less ↦ less
      | inr le ↦
          absurd (let first : rank late_read ≤ rank r = first_read_is_least r w (record { fr = from; rank_at_most = le }) in
          let is = IsIn-inv r ir in
          elim (passes-inv r.thread r.position is.1) [
            | inl early ↦ omega (arith, early, first, first_write.is_late.rank_at_most)
            | inr (one, before) ↦ omega (
              arith,
              rank_increases-Po r late_read
                  (record { first_event = is.0; second_event = first_fr.read.is_event; same_thread = one; position_lt = before }),
              first,
            )
          ])
    ]

    -- What is read in front was written in front.
    IsIn-Rf_closed : (w r : MemoryEvent) → IsIn r → Rf x86_language test x w r → IsIn w
    IsIn-Rf_closed w r ir rf =
        let is = IsIn-inv r ir in
        IsIn-passes w rf.write.is_event (elim (passes-inv r.thread r.position is.1) [
          | inl early ↦
              passes-of_lower_rank w.thread w.position (omega (arith, anchored_by.rank_increases-Rf axioms w r rf, early))
          | inr (one, before) ↦ elim (cases_eq w.thread r.thread) [
            | inl same_thread ↦
                (let po : Po x w r = anchored_by.Po-Rf_in_thread axioms w r rf same_thread in
                passes-of_thread w.thread w.position (same_thread ∙ one) (omega (arith, po.position_lt, before)))
            | inr threads_differ ↦
                (let lower : anchored_by.anchored axioms w < suc (ghb_rank late_write) = omega (
                  arith,
                  axioms.happens_before.increases w r (inr (inl (record { rf = rf; threads_differ = threads_differ }))),
                  anchored_by.ghb_rank_increases-Po_from_read axioms r late_read (record {
                    first_event = is.0;
                    second_event = first_fr.read.is_event;
                    same_thread = one;
                    position_lt = before;
                  }) rf.read.is_read,
                  ghb_rank_increases-Fr,
                  anchored_by.anchored_at_most_top-of_write axioms w rf.write.is_event rf.write.is_write,
                ) in
                passes-of_lower_rank w.thread w.position (omega (
                  arith,
                  level-lt width (anchored_by.anchored axioms w) (suc (ghb_rank late_write)) lower,
                  write_rank_at_least,
                  position_below_size test w rf.on_location rf.write.location_is,
                )))
          ]
        ])

    -- The fronts of the paths can be walked.
    AreFronts-of_passes : AreFronts x86_language test x rank (fronts passes 0 x.paths) (tails passes 0 x.paths)
    AreFronts-of_passes = record {
      path_count = length-fronts passes 0 x.paths ∙ candidate.as_many;
      parted = λ t. fronts_append_tails passes t x.paths;
      increases = λ r w ir iw. elim [
        | inl po ↦ rank_increases-Po r w po
        | inr (inl rf) ↦ anchored_by.rank_increases-Rf axioms r w rf
        | inr (inr (inl co)) ↦ anchored_by.rank_increases-Co axioms r w co
        | inr (inr (inr from)) ↦ rank_increases-Fr r w ir from
      ];
      closed = IsIn-Rf_closed;
    }

    -- The fronts are a run by interleaving.
    abbrev walk_of_fronts :
        CompleteWalk well_scoped candidate AreFronts-of_passes (fronts passes 0 x.paths) (start x86_language test)
    walk_of_fronts = CompleteWalk-from_start well_scoped candidate AreFronts-of_passes

    -- ---- after the fronts both are next

    -- The first event of a thread that does not pass is next after this run.
    IsNext-first_not_passing : (kind : Operation → Bool) (e : MemoryEvent)
        → IsEvent x e
        → operation_is x86_language test kind e ≡ true
        → location x86_language test e ≡ Some raced_location
        → passes e.thread e.position ≡ false
        → ((h : ℕ) → Contains (thread_code x.paths e.thread) h → h < e.position → passes e.thread h ≡ true)
        → IsNext test kind raced_location e.thread walk_of_fronts.end
    IsNext-first_not_passing kind e is_event is location_is not before =
        let th =
        slice_get-in_range walk_of_fronts.end.threads e.thread
        (omega (arith, event_thread_in_range candidate e is_event, walk_of_fronts.end_is_at.good.thread_count)) in
        let now = walk_of_fronts.end_is_at.threads e.thread th.0 th.1 in
        let tail =
        tails-head passes e.thread e.position x.paths (IsAscendingFrom-of_path e.thread e.position is_event) is_event not
        before in
        let is_nil : thread_code walk_of_fronts.left e.thread ≡ [] =
        no_path_left (thread_code walk_of_fronts.left e.thread) refl in
        let executes : ThreadExecutes x86_language x e.thread (thread_code test.threads e.thread) (e.position ∷ tail.0) th.0
        now.end =
        subst (λ (path : List ℕ). ThreadExecutes x86_language x e.thread (thread_code test.threads e.thread) path th.0 now.end)
        (ap₂ (λ (p q : List ℕ). p ++ q) is_nil tail.1) now.executes in
        record {
          thread = th.0;
          instruction = executes.statement;
          thread_at = th.1;
          instruction_at = ap (slice_get (thread_code test.threads e.thread)) executes.position_is ∙ executes.statement_at;
          has_kind = sym (ap (λ o. option_map_or kind (option_map x86_operation o) false) executes.statement_at) ∙ is;
          location_is =
              sym (ap (λ o. option_and_then location_of (option_map x86_operation o)) executes.statement_at) ∙ location_is;
        }
      where
        -- At the end of the run nothing is left of the fronts.
        no_path_left : (path : List ℕ) → thread_code walk_of_fronts.left e.thread ≡ path → path ≡ []
        no_path_left [] same = refl
        no_path_left (h ∷ more) same =
            absurd (walk_of_fronts.none_ahead (event e.thread h)
            (subst (λ (path : List ℕ). Contains path h) (sym same) (Contains-head h h more refl)))

    -- An event that has no lower rank than the write, and does not precede the read in its thread, does not pass.
    passes-false : (e : MemoryEvent)
        → ((rank e < rank late_write) → ⊥)
        → ((e.thread ≡ late_read.thread) × (e.position < late_read.position) → ⊥)
        → passes e.thread e.position ≡ false
    passes-false e late_e other =
        false_from_ne_true (passes e.thread e.position)
        (λ p. elim (passes-inv e.thread e.position p) [ inl early ↦ late_e early | inr own ↦ other own ])

    -- After the run of the fronts the read is next in its thread.
    IsNext-load : IsNext test is_load raced_location late_read.thread walk_of_fronts.end
    IsNext-load =
        IsNext-first_not_passing is_load late_read first_fr.read.is_event is_load-of_read first_fr.read.location_is
        (passes-false late_read (λ early. omega (arith, early, first_write.is_late.rank_at_most)) (λ own. omega (arith, own.1)))
        (λ h on less. passes-of_thread late_read.thread h refl less)

    -- After the run of the fronts the write is next in its thread.
    IsNext-write : IsNext test writes raced_location late_write.thread walk_of_fronts.end
    IsNext-write =
        IsNext-first_not_passing writes late_write first_fr.write.is_event first_fr.write.is_write first_fr.write.location_is
        (passes-false late_write (λ early. omega (arith, early)) (λ own. threads_differ (sym own.0)))
        (λ h on less. passes-of_lower_rank late_write.thread h (rank_increases-Po (event late_write.thread h) late_write
        (record { first_event = on; second_event = first_fr.write.is_event; same_thread = refl; position_lt = less })))

    -- ---- the run from the store on

    -- The store is in the front of its thread's path.
    IsIn-earlier_store : IsIn earlier_store
    IsIn-earlier_store =
        IsIn-passes earlier_store Stored-of_read.po.first_event
        (passes-of_thread late_read.thread Stored-of_read.position refl Stored-of_read.po.position_lt)

    -- The run can be split at the store.
    Split-of_walk : Split well_scoped candidate AreFronts-of_passes walk_of_fronts.events (start x86_language test)
        walk_of_fronts.end earlier_store
    Split-of_walk =
        Split-of_run well_scoped candidate AreFronts-of_passes walk_of_fronts.events (start x86_language test) walk_of_fronts.end
        earlier_store walk_of_fronts.ran (walk_of_fronts.complete earlier_store IsIn-earlier_store)

    -- Since then the read's thread has done nothing that waits for an empty buffer.
    quiet_since : (h : MemoryEvent)
        → Contains Split-of_walk.events_since h
        → h.thread ≡ late_read.thread
        → operation_is x86_language test needs_empty_buffer h ≡ false
    quiet_since h c_h same_thread =
        let is = IsIn-inv h (walk_of_fronts.all_ahead h (Split-of_walk.since_among_events h c_h)) in
        let later : rank earlier_store ≤ rank h = Split-of_walk.since_rank_at_least h c_h in
        let before : h.position < late_read.position = elim (passes-inv h.thread h.position is.1) [
          | inr own_h ↦ own_h.1
          | inl early ↦ elim (cases_order h.position late_read.position) [
            | inl same_position ↦
                absurd (let same_event : h ≡ late_read = ap₂ event same_thread same_position in
                omega (arith, ap rank same_event, early, first_write.is_late.rank_at_most))
            | inr (inl position_lt) ↦ position_lt
            | inr (inr position_gt) ↦ absurd (omega (
              arith,
              rank_increases-Po late_read h (record {
                first_event = first_fr.read.is_event;
                second_event = is.0;
                same_thread = sym same_thread;
                position_lt = position_gt;
              }),
              early,
              first_write.is_late.rank_at_most,
            ))
          ]
        ] in
        elim (cases_order h.position Stored-of_read.position) [
          | inl same_position ↦
              (let same_event : h ≡ earlier_store = ap₂ event same_thread same_position in
              ap (operation_is x86_language test needs_empty_buffer) same_event
              ∙ needs_empty_buffer-false_if_store_event test earlier_store Stored-of_read.store)
          | inr (inl position_lt) ↦ absurd (omega (
            arith,
            rank_increases-Po h earlier_store (record {
              first_event = is.0;
              second_event = Stored-of_read.po.first_event;
              same_thread = same_thread;
              position_lt = position_lt;
            }),
            later,
          ))
          | inr (inr position_gt) ↦
              false_from_ne_true (operation_is x86_language test needs_empty_buffer h)
              (no_wait-between h (record {
                first_event = Stored-of_read.po.first_event;
                second_event = is.0;
                same_thread = sym same_thread;
                position_lt = position_gt;
              }) (record {
                first_event = is.0;
                second_event = first_fr.read.is_event;
                same_thread = same_thread;
                position_lt = before;
              }))
        ]

    -- The instruction at the store's position is the store.
    statement_at_store : slice_get (thread_code test.threads late_read.thread) Stored-of_read.position
        ≡ Some Split-of_walk.step.statement
    statement_at_store =
        ap (slice_get (thread_code test.threads late_read.thread)) (sym Split-of_walk.position_is)
        ∙ Split-of_walk.step.statement_at

    -- The test has a triangular race.
    HasTriangularRace-of_late_read : HasTriangularRace test
    HasTriangularRace-of_late_read = record {
      q = late_read.thread;
      p = late_write.thread;
      threads_differ = λ one. threads_differ (sym one);
      order_before = Split-of_walk.order_before;
      state_before = Split-of_walk.state_before;
      run_before = Split-of_walk.run_before;
      state_after_store = Split-of_walk.state_after_step;
      store = Split-of_walk.step;
      stores =
          sym (ap (λ o. option_map_or is_store (option_map x86_operation o) false) statement_at_store) ∙ Stored-of_read.store;
      order_since = map (λ (e : MemoryEvent). e.thread) Split-of_walk.events_since;
      state_now = walk_of_fronts.end;
      run_since =
          RunsToWithoutBarrier-Runs well_scoped candidate AreFronts-of_passes late_read.thread Split-of_walk.events_since
          Split-of_walk.state_after_step walk_of_fronts.end Split-of_walk.run_since quiet_since;
      l = raced_location;
      locations_differ =
          λ same. location_ne (ap (λ o. option_and_then location_of (option_map x86_operation o)) statement_at_store ∙ same);
      load_is_next = IsNext-load;
      write_is_next = IsNext-write;
    }

  -- ---- one or the other

  -- An execution that satisfies the axioms is sequentially consistent, or its test has a triangular race.
  pub IsSequentiallyConsistent-or_race : IsSequentiallyConsistent x86_language test x ⊎ HasTriangularRace test
  IsSequentiallyConsistent-or_race = elim (least_of_paths_or_none rank FirstWrite FirstWrite-decidable x.paths) [
    | inl none ↦ inl (anchored_by.IsSequentiallyConsistent-rank_increases axioms (λ r w from. elim (cases_lt (rank r) (rank w)) [
      | inl less ↦ less
      | inr le ↦ absurd (elim (FirstWrite-decidable r) [
        | inl some ↦ none r from.read.is_event some
        | inr never ↦ elim (least_of_paths_or_none rank (IsLate r) (IsLate-decidable r) x.paths) [
          | inl nothing ↦ nothing w from.write.is_event (record { fr = from; rank_at_most = le })
          | inr (v, late_v, first) ↦
              never (record { write = v; is_late = late_v; least = λ u lu. first u lu.fr.write.is_event lu })
        ]
      ])
    ]))
    | inr (b, f, least) ↦ inr (HasTriangularRace-of_late_read b f least)
  ]

-- ---- of tests

module _
    (same : (test : X86Test) (o : FinalState)
    → IsWellScopedProgram test
    → InterleavingOutcome x86_language test o ↔ IsScOutcome x86_language test o) where
  -- An outcome that the axioms allow is one by interleaving, or the test has a triangular race.
  pub InterleavingOutcome-or_race : (test : X86Test) (o : FinalState)
      → IsWellScopedProgram test
      → IsAllowed test o
      → InterleavingOutcome x86_language test o ⊎ HasTriangularRace test
  InterleavingOutcome-or_race test o well_scoped a = elim (IsSequentiallyConsistent-or_race well_scoped a.candidate a.axioms) [
    | inl sequential ↦
        inl ((same test o well_scoped).1 (record { execution = a.execution; candidate = a.candidate; sequential = sequential }))
    | inr race ↦ inr race
  ]

  -- The axioms allow a test without triangular races exactly its outcomes by interleaving.
  pub IsAllowed-iff_InterleavingOutcome : ((test : X86Test) (o : FinalState) → IsScOutcome x86_language test o → IsAllowed test o)
      → (test : X86Test) (o : FinalState)
      → IsWellScopedProgram test
      → (HasTriangularRace test → ⊥)
      → IsAllowed test o ↔ InterleavingOutcome x86_language test o
  IsAllowed-iff_InterleavingOutcome allowed test o well_scoped raceless = (
    λ a. elim (InterleavingOutcome-or_race test o well_scoped a) [ inl run ↦ run | inr race ↦ absurd (raceless race) ],
    λ run. allowed test o ((same test o well_scoped).0 run),
  )
