-- Spare MFENCEs can be inserted and no outcome is lost: an execution of the shorter test, without them, that
-- satisfies the axioms satisfies them in the longer test too. An event's rank there is made from the greatest
-- rank, in global happens-before of the shorter test, of the events that it comes after: by preserved
-- program order, and because they are before an inserted MFENCE. The law of spare fences cites it; the other
-- direction is proved on the machine.
use Rattle.lw_axiomatic.proofs.Common.{IsWellScopedProgram, max, X86Test, HasInsertedFences, Execution}
use Rattle.lw_axiomatic.proofs.Common.{FinalState, IsCandidate, x86_language, MemoryEvent, Po, subst, ◌<◌}
use Rattle.lw_axiomatic.proofs.Common.{arith, ap, length, thread_code, PoLoc, sym, ◌∙◌, Co, ℕ, Reads, ◌≡◌}
use Rattle.lw_axiomatic.proofs.Common.{Some, IsReadFrom, Rf, refl, Option, option_map, None, none-some}
use Rattle.lw_axiomatic.proofs.Common.{same_Some, Fr, Coherence, inl, inr, if◌then◌else◌, ◌≤◌}
use Rattle.lw_axiomatic.proofs.Common.{SatisfiesAxioms, Operation, Bool, operation_is, ◌+◌, ◌==◌, not, ◌&&◌}
use Rattle.lw_axiomatic.proofs.Common.{reads, ◌||◌, writes, suc, true, cond-true, false, cond-false}
use Rattle.lw_axiomatic.proofs.Common.{cases_Bool, true≢false, and_parts, and_from, IsEvent, eq-eqb, eqb-true}
use Rattle.lw_axiomatic.proofs.Common.{ap₂, or_right, or_left, or_cases, cases_lt, location, Writes, Ppo}
use Rattle.lw_axiomatic.proofs.Common.{AreSpare, List, Instr, AreOnPath, Contains, IsInsertedAt, ◌⊎◌}
use Rattle.lw_axiomatic.proofs.Common.{IsLocationOnlyWrittenBy, [], get_or_past, slice_get, AreStoreAndLoad}
use Rattle.lw_axiomatic.proofs.Common.{needs_empty_buffer, option_map_or, x86_operation, cases_order}
use Rattle.lw_axiomatic.proofs.Common.{is_store, HappensBefore, IsAllowed, HasOtherFence}
use Rattle.lw_axiomatic.proofs.Levels.{size, level, level-le, level-lt, level-suc}
use Rattle.lw_axiomatic.proofs.Anchored.{ghb_rank, ghb_rank_increases-Po_to_waiting}
use Rattle.lw_axiomatic.proofs.Anchored.{ghb_rank_increases-Po_from_waiting}
use Rattle.lw_axiomatic.proofs.EventKinds.{position_below_size, write_or_load, write_stores_or_reads}
use Rattle.lw_axiomatic.proofs.EventLists.{event}
use Rattle.lw_axiomatic.proofs.FencedTests.{AreOnPath-AreStoreAndLoad, IsOfOneThread-IsLocationOnlyWrittenBy}
use Rattle.lw_axiomatic.proofs.Inserted.{IsKeptAt, IsInsertedFence-or_kept, block-later}
use Rattle.lw_axiomatic.proofs.Inserted.{not-IsKeptAt-if_inserted}
use Rattle.lw_axiomatic.proofs.Timing.{anchor, anchor_above, anchor_least}
use Rattle.lw_axiomatic.proofs.WithFences.{IsCandidate-with_fences, code_at, code_at-by_range}
use Rattle.lw_axiomatic.proofs.WithFences.{IsEvent-event_without, IsKeptAt-of_event, kind-event_without}
use Rattle.lw_axiomatic.proofs.WithFences.{position-in_code, location-event_without, position-in_range}
use Rattle.lw_axiomatic.proofs.WithFences.{Reads-event_without, with_fences, event_with}
use Rattle.lw_axiomatic.proofs.WithFences.{event_with-event_without, event_without, event_without-event_with}
use Rattle.lw_axiomatic.proofs.WithFences.{Writes-event_without}
use Rattle.lw_litmus.specs.Operations as operations

-- ---- Relations of the longer test's execution are relations of the shorter test's.

module _ {test fenced : X86Test} (fencing : HasInsertedFences test fenced) (well_scoped : IsWellScopedProgram fenced)
    {x : Execution} {o : FinalState} (candidate : IsCandidate x86_language test x o) where
  -- The execution of the longer test.
  abbrev fenced_execution : Execution
  fenced_execution = with_fences fencing well_scoped candidate

  -- Program order of events at instructions of both codes is program order in the shorter test.
  Po-event_without : (a b : MemoryEvent)
      → Po fenced_execution a b
      → IsKeptAt (code_at fencing a.thread) a.position
      → IsKeptAt (code_at fencing b.thread) b.position
      → Po x (event_without fencing a) (event_without fencing b)
  Po-event_without a b po kept last = record {
    first_event = IsEvent-event_without fencing well_scoped candidate a po.first_event kept;
    second_event = IsEvent-event_without fencing well_scoped candidate b po.second_event last;
    same_thread = po.same_thread;
    position_lt =
        subst (λ t. (code_at fencing a.thread).block a.position < (code_at fencing t).block b.position) po.same_thread
        (block-later (code_at fencing a.thread) a.position b.position kept po.position_lt (omega (
          arith,
          position-in_range fencing well_scoped candidate b po.second_event,
          ap (λ t. length (thread_code fenced.threads t)) po.same_thread,
        )));
  }

  -- Program order of two events on one location is that in the shorter test too.
  PoLoc-event_without : (a b : MemoryEvent)
      → PoLoc x86_language fenced fenced_execution a b
      → PoLoc x86_language test x (event_without fencing a) (event_without fencing b)
  PoLoc-event_without a b poloc =
      let kept =
      IsKeptAt-of_event fencing well_scoped candidate a poloc.on_location poloc.po.first_event poloc.first_location_is in
      let last =
      IsKeptAt-of_event fencing well_scoped candidate b poloc.on_location poloc.po.second_event poloc.second_location_is in
      record {
        po = Po-event_without a b poloc.po kept last;
        on_location = poloc.on_location;
        first_location_is = sym (location-event_without fencing a kept) ∙ poloc.first_location_is;
        second_location_is = sym (location-event_without fencing b last) ∙ poloc.second_location_is;
      }

  -- Coherence order is coherence order in the shorter test.
  Co-event_without : (w v : MemoryEvent)
      → Co x86_language fenced fenced_execution w v
      → Co x86_language test x (event_without fencing w) (event_without fencing v)
  Co-event_without w v co = record {
    on_location = co.on_location;
    first_write = Writes-event_without fencing well_scoped candidate w co.on_location co.first_write;
    second_write = Writes-event_without fencing well_scoped candidate v co.on_location co.second_write;
    co_lt = co.co_lt;
  }

  -- From the event that a read of the shorter test reads from, to the longer test and back is the same event.
  source-event_without : (r u : MemoryEvent) (l : ℕ)
      → Reads x86_language test x r l
      → x.rf r ≡ Some u
      → event_without fencing (event_with fencing u) ≡ u
  source-event_without r u l reading source_is =
      let source = subst (IsReadFrom x86_language test x r l) source_is (candidate.rf r l reading) in
      event_without-event_with fencing u (position-in_code test u l source.write.location_is)

  -- Reads-from is reads-from in the shorter test.
  Rf-event_without : (w r : MemoryEvent)
      → Rf x86_language fenced fenced_execution w r
      → Rf x86_language test x (event_without fencing w) (event_without fencing r)
  Rf-event_without w r rf = record {
    on_location = rf.on_location;
    write = Writes-event_without fencing well_scoped candidate w rf.on_location rf.write;
    read = Reads-event_without fencing well_scoped candidate r rf.on_location rf.read;
    source_is = Rf_without-of_source (x.rf (event_without fencing r)) refl rf.source_is;
  }
    where
      -- By the source that the read has in the shorter test.
      Rf_without-of_source : (q : Option MemoryEvent)
          → x.rf (event_without fencing r) ≡ q
          → option_map (event_with fencing) q ≡ Some w
          → x.rf (event_without fencing r) ≡ Some (event_without fencing w)
      Rf_without-of_source None is mapped = absurd (none-some w mapped)
      Rf_without-of_source (Some u) is mapped =
          let back : event_without fencing (event_with fencing u) ≡ u =
          source-event_without (event_without fencing r) u rf.on_location
          (Reads-event_without fencing well_scoped candidate r rf.on_location rf.read) is in
          is ∙ ap Some (sym back ∙ ap (event_without fencing) (same_Some (event_with fencing u) w mapped))

  -- From-reads are from-reads in the shorter test.
  Fr-event_without : (r w : MemoryEvent)
      → Fr x86_language fenced fenced_execution r w
      → Fr x86_language test x (event_without fencing r) (event_without fencing w)
  Fr-event_without r w fr = record {
    on_location = fr.on_location;
    read = Reads-event_without fencing well_scoped candidate r fr.on_location fr.read;
    write = Writes-event_without fencing well_scoped candidate w fr.on_location fr.write;
    events_differ = λ same.
        fr.events_differ (sym (event_with-event_without fencing r
        (IsKeptAt-of_event fencing well_scoped candidate r fr.on_location fr.read.is_event fr.read.location_is))
        ∙ ap (event_with fencing) same
        ∙ event_with-event_without fencing w
        (IsKeptAt-of_event fencing well_scoped candidate w fr.on_location fr.write.is_event fr.write.location_is));
    source_before = λ u is_some.
        (let back : event_without fencing (event_with fencing u) ≡ u =
        source-event_without (event_without fencing r) u fr.on_location
        (Reads-event_without fencing well_scoped candidate r fr.on_location fr.read) is_some in
        subst (λ (z : MemoryEvent). x.co z < x.co (event_without fencing w)) back
        (fr.source_before (event_with fencing u) (ap (option_map (event_with fencing)) is_some)));
  }

  -- The longer test's execution keeps the axiom of coherence if the shorter test's does.
  pub Coherence-with_fences : Coherence test x → Coherence fenced fenced_execution
  Coherence-with_fences acyclic = record {
    rank = λ e. acyclic.rank (event_without fencing e);
    increases = λ a b. elim [
      | inl po ↦ acyclic.increases (event_without fencing a) (event_without fencing b) (inl (PoLoc-event_without a b po))
      | inr (inl rf) ↦ acyclic.increases (event_without fencing a) (event_without fencing b) (inr (inl (Rf-event_without a b rf)))
      | inr (inr (inl co)) ↦
          acyclic.increases (event_without fencing a) (event_without fencing b) (inr (inr (inl (Co-event_without a b co))))
      | inr (inr (inr fr)) ↦
          acyclic.increases (event_without fencing a) (event_without fencing b) (inr (inr (inr (Fr-event_without a b fr))))
    ];
  }

-- ---- Ranks of the longer test's events.

module _ {test fenced : X86Test} (fencing : HasInsertedFences test fenced) (well_scoped : IsWellScopedProgram fenced)
    {x : Execution} {o : FinalState} (candidate : IsCandidate x86_language test x o) (axioms : SatisfiesAxioms test x) where
  -- The execution of the longer test.
  abbrev longer_execution : Execution
  longer_execution = with_fences fencing well_scoped candidate

  -- Tests the kind of an event's operation in the longer test.
  abbrev has_kind : (Operation → Bool) → MemoryEvent → Bool
  has_kind = operation_is x86_language fenced

  -- Returns an event's rank in the shorter test: the rank, in its global happens-before, of the event without the inserted MFENCEs.
  abbrev ghb_rank_without : MemoryEvent → ℕ
  ghb_rank_without e = ghb_rank axioms (event_without fencing e)

  -- Tests whether an event is at an inserted MFENCE.
  abbrev is_inserted : MemoryEvent → Bool
  is_inserted e = (code_at fencing e.thread).block (e.position + 1) == (code_at fencing e.thread).block e.position

  -- Tests whether an event is at a fence or accesses a location, and is not at an inserted MFENCE.
  abbrev counts : MemoryEvent → Bool
  counts e = not (is_inserted e) && (has_kind reads e || (has_kind writes e || has_kind operations.is_fence e))

  -- Tests whether all later events of its thread come after an event by preserved program order: it reads, or it is a fence.
  abbrev blocks : MemoryEvent → Bool
  blocks e = has_kind reads e || has_kind operations.is_fence e

  -- Returns one more than the event's rank in the shorter test if the event counts, and 0 otherwise.
  abbrev own : MemoryEvent → ℕ
  own e = if counts e then suc (ghb_rank_without e) else 0

  -- Returns what the event of thread t at position j requires of the bases of the later ones: an inserted MFENCE requires the greatest
  -- `own` of the events up to it; another event that blocks, one more than its rank in the shorter test; and any other event 0.
  abbrev top : ℕ → ℕ → ℕ
  top t j =
      if is_inserted (event t j)
      then anchor (λ k. own (event t k)) (thread_code longer_execution.paths t) j
      else (if blocks (event t j) then suc (ghb_rank_without (event t j)) else 0)

  -- Returns the greatest `top` of the events of an event's thread up to the event.
  abbrev base : MemoryEvent → ℕ
  base e = anchor (top e.thread) (thread_code longer_execution.paths e.thread) e.position

  -- Returns the greater of an event's base and its `own`.
  abbrev height : MemoryEvent → ℕ
  height e = max (base e) (own e)

  -- No position is as high as the number of all instructions.
  abbrev width : ℕ
  width = size fenced.threads

  -- Returns the event's rank in the longer test: by its height, and then by its position.
  abbrev rank : MemoryEvent → ℕ
  rank e = level width (height e) + e.position

  -- The `own` of an event that counts is one more than its rank in the shorter test.
  own-counting : (e : MemoryEvent) → counts e ≡ true → own e ≡ suc (ghb_rank_without e)
  own-counting e h = cond-true (counts e) (suc (ghb_rank_without e)) 0 h

  -- The `own` of any other event is 0.
  own-other : (e : MemoryEvent) → counts e ≡ false → own e ≡ 0
  own-other e h = cond-false (counts e) (suc (ghb_rank_without e)) 0 h

  -- An event that counts is not at an inserted MFENCE.
  is_inserted-false_if_counts : (e : MemoryEvent) → counts e ≡ true → is_inserted e ≡ false
  is_inserted-false_if_counts e h = elim (cases_Bool (is_inserted e)) [
    | inr not_at_fence ↦ not_at_fence
    | inl at_fence ↦ absurd (true≢false (sym (and_parts (not (is_inserted e)) _ h).0 ∙ ap not at_fence))
  ]

  -- An access or another fence, if it is not inserted, counts.
  counts-from_kind : (e : MemoryEvent)
      → is_inserted e ≡ false
      → (has_kind reads e || (has_kind writes e || has_kind operations.is_fence e)) ≡ true
      → counts e ≡ true
  counts-from_kind e not_at_fence kind = and_from (not (is_inserted e)) _ (ap not not_at_fence) kind

  -- The `top` of an inserted MFENCE is the greatest `own` of the events up to it.
  top-inserted : (t j : ℕ)
      → is_inserted (event t j) ≡ true
      → top t j ≡ anchor (λ k. own (event t k)) (thread_code longer_execution.paths t) j
  top-inserted t j h = cond-true (is_inserted (event t j)) _ _ h

  -- The `top` of any other event is one more than its rank in the shorter test if it blocks, and 0 otherwise.
  top-kept : (t j : ℕ)
      → is_inserted (event t j) ≡ false
      → top t j ≡ (if blocks (event t j) then suc (ghb_rank_without (event t j)) else 0)
  top-kept t j h = cond-false (is_inserted (event t j)) _ _ h

  -- The `top` of an event that blocks is one more than its rank in the shorter test, if the event is not at an inserted MFENCE.
  top-blocking : (t j : ℕ)
      → is_inserted (event t j) ≡ false
      → blocks (event t j) ≡ true
      → top t j ≡ suc (ghb_rank_without (event t j))
  top-blocking t j h blocking = top-kept t j h ∙ cond-true (blocks (event t j)) _ 0 blocking

  -- The `top` of an event that does not block is 0, if the event is not at an inserted MFENCE.
  top-other : (t j : ℕ) → is_inserted (event t j) ≡ false → blocks (event t j) ≡ false → top t j ≡ 0
  top-other t j h not_blocking = top-kept t j h ∙ cond-false (blocks (event t j)) _ 0 not_blocking

  -- An event that is not at an inserted MFENCE is at an instruction of both codes.
  IsKeptAt-if_not_inserted : (e : MemoryEvent)
      → IsEvent longer_execution e
      → is_inserted e ≡ false
      → IsKeptAt (code_at fencing e.thread) e.position
  IsKeptAt-if_not_inserted e among not_at_fence =
      elim (IsInsertedFence-or_kept (code_at fencing e.thread) e.position
      (position-in_range fencing well_scoped candidate e among)) [
        | inr kept ↦ kept
        | inl inserted ↦ absurd (true≢false (sym (eq-eqb _ _ inserted.inserted) ∙ not_at_fence))
      ]

  -- An event at an instruction of both codes is not at an inserted MFENCE.
  is_inserted-false_if_kept : (e : MemoryEvent) → IsKeptAt (code_at fencing e.thread) e.position → is_inserted e ≡ false
  is_inserted-false_if_kept e kept = elim (cases_Bool (is_inserted e)) [
    | inr not_at_fence ↦ not_at_fence
    | inl at_fence ↦ absurd (not-IsKeptAt-if_inserted (code_at fencing e.thread) e.position (eqb-true _ _ at_fence) kept)
  ]

  -- ---- Ranks in the shorter test increase along preserved program order.

  -- Take two events in program order, neither at an inserted MFENCE. If the first reads, the second writes, or one is a fence, the
  -- second has the greater rank in the shorter test.
  ghb_rank_without-increasing : (a b : MemoryEvent)
      → Po longer_execution a b
      → is_inserted a ≡ false
      → is_inserted b ≡ false
      → (has_kind reads a || (has_kind writes b || (has_kind operations.is_fence a || has_kind operations.is_fence b))) ≡ true
      → ghb_rank_without a < ghb_rank_without b
  ghb_rank_without-increasing a b po not_a not_b kind =
      let kept = IsKeptAt-if_not_inserted a po.first_event not_a in
      let last = IsKeptAt-if_not_inserted b po.second_event not_b in
      let reading = kind-event_without fencing reads (λ c to other. refl) a kept in
      let writing = kind-event_without fencing writes (λ c to other. refl) b last in
      let fence = kind-event_without fencing operations.is_fence (λ c to other. refl) a kept in
      let also = kind-event_without fencing operations.is_fence (λ c to other. refl) b last in
      axioms.happens_before.increases (event_without fencing a) (event_without fencing b) (inl (record {
        po = Po-event_without fencing well_scoped candidate a b po kept last;
        is_preserved =
            ap₂ (λ p q. p || q) (sym reading) (ap₂ (λ p q. p || q) (sym writing) (ap₂ (λ p q. p || q) (sym fence) (sym also)))
            ∙ kind;
      }))

  -- An event before a write has a lower rank in the shorter test than the write.
  ghb_rank_without-before_write : (a w : MemoryEvent)
      → Po longer_execution a w
      → is_inserted a ≡ false
      → is_inserted w ≡ false
      → has_kind writes w ≡ true
      → ghb_rank_without a < ghb_rank_without w
  ghb_rank_without-before_write a w po not_a not_w writing =
      ghb_rank_without-increasing a w po not_a not_w (or_right (has_kind reads a) _ (or_left (has_kind writes w) _ writing))

  -- An event after one that blocks has a greater rank in the shorter test.
  ghb_rank_without-after_blocking : (a b : MemoryEvent)
      → Po longer_execution a b
      → is_inserted a ≡ false
      → is_inserted b ≡ false
      → blocks a ≡ true
      → ghb_rank_without a < ghb_rank_without b
  ghb_rank_without-after_blocking a b po not_a not_b blocking =
      ghb_rank_without-increasing a b po not_a not_b (elim (or_cases (has_kind reads a) _ blocking) [
        | inl reading ↦ or_left (has_kind reads a) _ reading
        | inr fence ↦
            or_right (has_kind reads a) _ (or_right (has_kind writes b) _ (or_left (has_kind operations.is_fence a) _ fence))
      ])

  -- An event's base is at most n, if these events have ranks below n in the shorter test: those up to it that block, and those that count
  -- and are before an inserted MFENCE up to it.
  base-least : (e : MemoryEvent) (n : ℕ)
      → ((k : ℕ)
      → IsEvent longer_execution (event e.thread k)
      → k ≤ e.position
      → is_inserted (event e.thread k) ≡ false
      → blocks (event e.thread k) ≡ true
      → ghb_rank_without (event e.thread k) < n)
      → ((k m : ℕ)
      → IsEvent longer_execution (event e.thread k)
      → k ≤ e.position
      → is_inserted (event e.thread k) ≡ true
      → IsEvent longer_execution (event e.thread m)
      → m < k
      → counts (event e.thread m) ≡ true
      → ghb_rank_without (event e.thread m) < n)
      → base e ≤ n
  base-least e n blocking fencing =
      anchor_least (top e.thread) (thread_code longer_execution.paths e.thread) e.position n
      (λ k among le. elim (cases_Bool (is_inserted (event e.thread k))) [
        | inl at_fence ↦
            (let each : anchor (λ m. own (event e.thread m)) (thread_code longer_execution.paths e.thread) k ≤ n =
            anchor_least (λ m. own (event e.thread m)) (thread_code longer_execution.paths e.thread) k n
            (λ m on up. elim (cases_Bool (counts (event e.thread m))) [
              | inr not_counting ↦ omega (arith, own-other (event e.thread m) not_counting)
              | inl counting ↦ elim (cases_lt m k) [
                | inl before ↦
                    omega (arith, own-counting (event e.thread m) counting, fencing k m among le at_fence on before counting)
                | inr same ↦
                    (let one : m ≡ k = omega (arith, same, up) in
                    absurd (true≢false (sym at_fence
                    ∙ ap (λ j. is_inserted (event e.thread j)) (sym one)
                    ∙ is_inserted-false_if_counts (event e.thread m) counting)))
              ]
            ]) in
            omega (arith, each, top-inserted e.thread k at_fence))
        | inr not_at_fence ↦ elim (cases_Bool (blocks (event e.thread k))) [
          | inl blocks_there ↦
              omega (arith, top-blocking e.thread k not_at_fence blocks_there, blocking k among le not_at_fence blocks_there)
          | inr not_blocking ↦ omega (arith, top-other e.thread k not_at_fence not_blocking)
        ]
      ])

  -- The rank of an event that counts is at least the level of one more than its rank in the shorter test.
  rank-at_least : (e : MemoryEvent) → counts e ≡ true → level width (suc (ghb_rank_without e)) ≤ rank e
  rank-at_least e counting =
      omega (arith, level-le width (suc (ghb_rank_without e)) (height e) (omega (arith, own-counting e counting)))

  -- The rank of an event is at most the level of n with its position, if its base and its `own` are at most n.
  rank-at_most : (e : MemoryEvent) (n : ℕ) → base e ≤ n → own e ≤ n → rank e ≤ level width n + e.position
  rank-at_most e n by_base by_own = omega (arith, level-le width (height e) n (omega (arith, by_base, by_own)))

  -- An event that reads or writes a location counts.
  counts-from_access : (e : MemoryEvent) (l : ℕ)
      → IsEvent longer_execution e
      → location x86_language fenced e ≡ Some l
      → (has_kind reads e || has_kind writes e) ≡ true
      → (is_inserted e ≡ false) × (counts e ≡ true)
  counts-from_access e l among located access =
      let not_at_fence : is_inserted e ≡ false =
      is_inserted-false_if_kept e (IsKeptAt-of_event fencing well_scoped candidate e l among located) in (
        not_at_fence,
        counts-from_kind e not_at_fence (elim (or_cases (has_kind reads e) _ access) [
          | inl reading ↦ or_left (has_kind reads e) _ reading
          | inr writing ↦ or_right (has_kind reads e) _ (or_left (has_kind writes e) _ writing)
        ]),
      )

  -- A write has a lower rank than an event that counts and has a greater rank in the shorter test.
  rank-after_write : (w e : MemoryEvent) (l : ℕ)
      → Writes x86_language fenced longer_execution w l
      → counts e ≡ true
      → ghb_rank_without w < ghb_rank_without e
      → rank w < rank e
  rank-after_write w e l writing counting less =
      let facts = counts-from_access w l writing.is_event writing.location_is (or_right (has_kind reads w) _ writing.is_write) in
      let by_base : base w ≤ suc (ghb_rank_without w) =
      base-least w (suc (ghb_rank_without w)) (λ k among le not_at_fence blocking. elim (cases_lt k w.position) [
        | inl before ↦
            (let order : ghb_rank_without (event w.thread k) < ghb_rank_without w =
            ghb_rank_without-before_write (event w.thread k) w
            (record { first_event = among; second_event = writing.is_event; same_thread = refl; position_lt = before })
            not_at_fence facts.0 writing.is_write in
            omega (arith, order))
        | inr same ↦
            (let one : k ≡ w.position = omega (arith, same, le) in
            omega (arith, ap (λ j. ghb_rank_without (event w.thread j)) one))
      ]) (λ k m among le at_fence on before counting_m.
      (let order : ghb_rank_without (event w.thread m) < ghb_rank_without w =
      ghb_rank_without-before_write (event w.thread m) w
      (record { first_event = on; second_event = writing.is_event; same_thread = refl; position_lt = omega (arith, before, le) })
      (is_inserted-false_if_counts (event w.thread m) counting_m) facts.0 writing.is_write in
      omega (arith, order))) in
      let below : rank w ≤ level width (suc (ghb_rank_without w)) + w.position =
      rank-at_most w (suc (ghb_rank_without w)) by_base (omega (arith, own-counting w facts.1)) in
      let next = level-lt width (suc (ghb_rank_without w)) (suc (ghb_rank_without e)) (omega (arith, less)) in
      omega (arith, below, rank-at_least e counting, next, position_below_size fenced w l writing.location_is)

  -- ---- Ranks increase along preserved program order.

  -- The base of a later event of a thread is no less.
  base-increasing : (t i j : ℕ) → i ≤ j → base (event t i) ≤ base (event t j)
  base-increasing t i j le =
      anchor_least (top t) (thread_code longer_execution.paths t) i (base (event t j))
      (λ k among up. anchor_above (top t) (thread_code longer_execution.paths t) j k among (omega (arith, le, up)))

  -- Along preserved program order the `own` of the earlier event is at most the height of the later one.
  own-increasing : (t i j : ℕ)
      → Ppo x86_language fenced longer_execution (event t i) (event t j)
      → own (event t i) ≤ max (base (event t j)) (own (event t j))
  own-increasing t i j ppo = elim (cases_Bool (counts (event t i))) [
    | inr not_counting ↦ omega (arith, own-other (event t i) not_counting)
    | inl counting ↦ elim (cases_Bool (is_inserted (event t j))) [
      | inl at_fence ↦ omega (
        arith,
        anchor_above (λ k. own (event t k)) (thread_code longer_execution.paths t) j i ppo.po.first_event
            (omega (arith, ppo.po.position_lt)),
        top-inserted t j at_fence,
        anchor_above (top t) (thread_code longer_execution.paths t) j j ppo.po.second_event (omega arith),
      )
      | inr not_at_fence ↦ elim (cases_Bool (blocks (event t i))) [
        | inl blocking ↦ omega (
          arith,
          own-counting (event t i) counting,
          top-blocking t i (is_inserted-false_if_counts (event t i) counting) blocking,
          anchor_above (top t) (thread_code longer_execution.paths t) j i ppo.po.first_event (omega (arith, ppo.po.position_lt)),
        )
        | inr not_blocking ↦
            (let less : ghb_rank_without (event t i) < ghb_rank_without (event t j) =
            ghb_rank_without-increasing (event t i) (event t j) ppo.po (is_inserted-false_if_counts (event t i) counting)
            not_at_fence ppo.is_preserved in
            omega (
              arith,
              own-counting (event t i) counting,
              less,
              own-counting (event t j) (counts-from_kind (event t j) not_at_fence (kind-of_last not_blocking)),
            ))
      ]
    ]
  ]
    where
      -- If the earlier event does not block, the later one is an access or a fence.
      kind-of_last : blocks (event t i) ≡ false
          → (has_kind reads (event t j) || (has_kind writes (event t j) || has_kind operations.is_fence (event t j))) ≡ true
      kind-of_last not_blocking = elim (or_cases (has_kind reads (event t i)) _ ppo.is_preserved) [
        | inl reading ↦ absurd (true≢false (sym (or_left (has_kind reads (event t i)) _ reading) ∙ not_blocking))
        | inr rest ↦ elim (or_cases (has_kind writes (event t j)) _ rest) [
          | inl writing ↦ or_right (has_kind reads (event t j)) _ (or_left (has_kind writes (event t j)) _ writing)
          | inr fences ↦ elim (or_cases (has_kind operations.is_fence (event t i)) _ fences) [
            | inl fence ↦ absurd (true≢false (sym (or_right (has_kind reads (event t i)) _ fence) ∙ not_blocking))
            | inr fence ↦ or_right (has_kind reads (event t j)) _ (or_right (has_kind writes (event t j)) _ fence)
          ]
        ]
      ]

  -- The ranks increase along preserved program order.
  rank-Ppo : (a b : MemoryEvent) → Ppo x86_language fenced longer_execution a b → rank a < rank b
  rank-Ppo a b ppo =
      subst (λ t. Ppo x86_language fenced longer_execution a (event t b.position) → rank a < rank (event t b.position))
      ppo.po.same_thread (λ there.
      let c : MemoryEvent = event a.thread b.position in
      let le : height a ≤ height c = omega (
        arith,
        base-increasing a.thread a.position b.position (omega (arith, there.po.position_lt)),
        own-increasing a.thread a.position b.position there,
      ) in
      omega (arith, there.po.position_lt, level-le width (height a) (height c) le)) ppo

  -- ---- Ranks increase along from-reads, if the MFENCEs are spare.

  module _ (spare : AreSpare test fenced fencing) where
    -- A store and a load that an inserted MFENCE separates are separated by an instruction of both codes that waits, or the load is of
    -- what no other thread has an instruction to write.
    spare-of_thread : (t : ℕ) (path : List ℕ) (i index j : ℕ) (load : Instr)
        → AreOnPath (thread_code fenced.threads t) path i j load
        → Contains path index
        → i < index
        → index < j
        → IsInsertedAt (code_at fencing t) index
        → HasOtherFence (code_at fencing t) path i j ⊎ IsLocationOnlyWrittenBy fenced t load
    spare-of_thread t path i index j load on among after_store before_load inserted =
        HasOtherFence-in_range (cases_lt t (length test.threads)) inserted
      where
        -- By whether the thread is one of the test.
        HasOtherFence-in_range : (d : (t < length test.threads) ⊎ (length test.threads ≤ t))
            → IsInsertedAt (code_at-by_range fencing t d) index
            → HasOtherFence (code_at-by_range fencing t d) path i j ⊎ IsLocationOnlyWrittenBy fenced t load
        HasOtherFence-in_range (inl within) at = spare t within path i index j load on among after_store before_load at
        HasOtherFence-in_range (inr past) at =
            let is_nil : thread_code fenced.threads t ≡ [] =
            get_or_past fenced.threads t [] (omega (arith, past, fencing.as_many)) in
            absurd (none-some load (sym (ap (λ (code : List Instr). slice_get code j) is_nil) ∙ on.load_at))

    -- A store before an inserted MFENCE has a lower rank in the shorter test than each write that comes in from-reads after a load that
    -- follows the MFENCE.
    ghb_rank_without-store : (m r w : MemoryEvent) (index l : ℕ)
        → AreStoreAndLoad fenced longer_execution m r
        → is_inserted m ≡ false
        → is_inserted r ≡ false
        → IsEvent longer_execution (event m.thread index)
        → m.position < index
        → index < r.position
        → is_inserted (event m.thread index) ≡ true
        → location x86_language fenced r ≡ Some l
        → Writes x86_language fenced longer_execution w l
        → Fr x86_language fenced longer_execution r w
        → ghb_rank_without r < ghb_rank_without w
        → ghb_rank_without m < ghb_rank_without w
    ghb_rank_without-store m r w index l pair not_m not_r among after_store before_load at_fence located writing fr less =
        let candidate_z = IsCandidate-with_fences fencing well_scoped candidate in
        let on = AreOnPath-AreStoreAndLoad candidate_z m r pair in
        elim (spare-of_thread m.thread (thread_code longer_execution.paths m.thread) m.position index r.position on.0 on.1 among
        after_store before_load (eqb-true _ _ at_fence)) [
          | inl (fence, other) ↦
              (let e : MemoryEvent = event m.thread fence.fence_index in
              let waiting : has_kind needs_empty_buffer e ≡ true =
              ap (λ i. option_map_or needs_empty_buffer (option_map x86_operation i) false) fence.fence_at ∙ fence.fence_waits in
              let not_at_fence : is_inserted e ≡ false = elim (cases_Bool (is_inserted e)) [
                | inr not_at_fence ↦ not_at_fence
                | inl also ↦ absurd (other (eqb-true _ _ also))
              ] in
              let to : Po longer_execution m e = record {
                first_event = pair.po.first_event;
                second_event = fence.on_path;
                same_thread = refl;
                position_lt = fence.after_first;
              } in
              let from : Po longer_execution e r = record {
                first_event = fence.on_path;
                second_event = pair.po.second_event;
                same_thread = pair.po.same_thread;
                position_lt = fence.before_second;
              } in
              let kept = IsKeptAt-if_not_inserted e fence.on_path not_at_fence in
              let waiting_there : operation_is x86_language test needs_empty_buffer (event_without fencing e) ≡ true =
              sym (kind-event_without fencing needs_empty_buffer (λ c k other. refl) e kept) ∙ waiting in
              omega (
                arith,
                less,
                ghb_rank_increases-Po_to_waiting axioms (event_without fencing m) (event_without fencing e)
                    (Po-event_without fencing well_scoped candidate m e to (IsKeptAt-if_not_inserted m pair.po.first_event not_m)
                    kept) waiting_there,
                ghb_rank_increases-Po_from_waiting axioms (event_without fencing e) (event_without fencing r)
                    (Po-event_without fencing well_scoped candidate e r from kept
                    (IsKeptAt-if_not_inserted r pair.po.second_event not_r)) waiting_there,
              ))
          | inr is_own ↦
              (let same_thread : w.thread ≡ r.thread =
              IsOfOneThread-IsLocationOnlyWrittenBy candidate_z m r pair is_own w l located writing in
              let later : r.position < w.position = elim (cases_order r.position w.position) [
                | inl same_position ↦ absurd (fr.events_differ (ap₂ event (sym same_thread) same_position))
                | inr (inl position_lt) ↦ position_lt
                | inr (inr position_gt) ↦
                    (let back = PoLoc-event_without fencing well_scoped candidate w r (record {
                      po = record {
                        first_event = writing.is_event;
                        second_event = pair.po.second_event;
                        same_thread = same_thread;
                        position_lt = position_gt;
                      };
                      on_location = l;
                      first_location_is = writing.location_is;
                      second_location_is = located;
                    }) in
                    absurd (omega (
                      arith,
                      axioms.coherence.increases (event_without fencing w) (event_without fencing r) (inl back),
                      axioms.coherence.increases (event_without fencing r) (event_without fencing w)
                          (inr (inr (inr (Fr-event_without fencing well_scoped candidate r w fr)))),
                    )))
              ] in
              ghb_rank_without-before_write m w (record {
                first_event = pair.po.first_event;
                second_event = writing.is_event;
                same_thread = pair.po.same_thread ∙ sym same_thread;
                position_lt = omega (arith, pair.po.position_lt, later);
              }) not_m
              (counts-from_access w l writing.is_event writing.location_is (or_right (has_kind reads w) _ writing.is_write)).0
              writing.is_write)
        ]

    -- The ranks increase along from-reads.
    rank-Fr : (r w : MemoryEvent) → Fr x86_language fenced longer_execution r w → rank r < rank w
    rank-Fr r w fr =
        let l : ℕ = fr.on_location in
        let reading : Reads x86_language fenced longer_execution r l = fr.read in
        let writing : Writes x86_language fenced longer_execution w l = fr.write in
        let facts = counts-from_access r l reading.is_event reading.location_is (or_left (has_kind reads r) _ reading.is_read) in
        let also = counts-from_access w l writing.is_event writing.location_is (or_right (has_kind reads w) _ writing.is_write) in
        let less : ghb_rank_without r < ghb_rank_without w =
        axioms.happens_before.increases (event_without fencing r) (event_without fencing w)
        (inr (inr (inr (Fr-event_without fencing well_scoped candidate r w fr)))) in
        let by_base : base r ≤ ghb_rank_without w =
        base-least r (ghb_rank_without w) (λ k among le not_at_fence blocking. elim (cases_lt k r.position) [
          | inl before ↦
              (let order : ghb_rank_without (event r.thread k) < ghb_rank_without r =
              ghb_rank_without-after_blocking (event r.thread k) r
              (record { first_event = among; second_event = reading.is_event; same_thread = refl; position_lt = before })
              not_at_fence facts.0 blocking in
              omega (arith, order, less))
          | inr same ↦
              (let one : k ≡ r.position = omega (arith, same, le) in
              omega (arith, less, ap (λ j. ghb_rank_without (event r.thread j)) one))
        ]) (λ k m among le at_fence on before counting.
        (let e : MemoryEvent = event r.thread m in
        let not_at_fence : is_inserted e ≡ false = is_inserted-false_if_counts e counting in
        let apart : k < r.position = elim (cases_lt k r.position) [
          | inl before ↦ before
          | inr same ↦
              (let one : k ≡ r.position = omega (arith, same, le) in
              absurd (true≢false (sym at_fence ∙ ap (λ j. is_inserted (event r.thread j)) one ∙ facts.0)))
        ] in
        let po : Po longer_execution e r = record {
          first_event = on;
          second_event = reading.is_event;
          same_thread = refl;
          position_lt = omega (arith, before, apart);
        } in
        elim (cases_Bool (blocks e)) [
          | inl blocking ↦
              (let order : ghb_rank_without e < ghb_rank_without r =
              ghb_rank_without-after_blocking e r po not_at_fence facts.0 blocking in
              omega (arith, order, less))
          | inr not_blocking ↦ elim (write_or_load fenced r l reading.location_is) [
            | inl r_writes ↦
                (let order : ghb_rank_without e < ghb_rank_without r =
                ghb_rank_without-before_write e r po not_at_fence facts.0 r_writes in
                omega (arith, order, less))
            | inr r_loads ↦
                ghb_rank_without-store e r w k l
                (record { po = po; store = is_store-from_counts e counting not_blocking; load = r_loads }) not_at_fence facts.0
                among before apart at_fence reading.location_is writing fr less
          ]
        ])) in
        let below : rank r ≤ level width (ghb_rank_without w) + r.position =
        rank-at_most r (ghb_rank_without w) by_base (omega (arith, less, own-counting r facts.1)) in
        omega (
          arith,
          below,
          rank-at_least w also.1,
          level-suc width (ghb_rank_without w),
          position_below_size fenced r l reading.location_is,
        )
      where
        -- An event that counts and does not block is a store.
        is_store-from_counts : (e : MemoryEvent) → counts e ≡ true → blocks e ≡ false → has_kind is_store e ≡ true
        is_store-from_counts e counting not_blocking =
            elim (or_cases (has_kind reads e) _ (and_parts (not (is_inserted e)) _ counting).1) [
              | inl reading ↦ absurd (true≢false (sym (or_left (has_kind reads e) _ reading) ∙ not_blocking))
              | inr rest ↦ elim (or_cases (has_kind writes e) _ rest) [
                | inr fence ↦ absurd (true≢false (sym (or_right (has_kind reads e) _ fence) ∙ not_blocking))
                | inl writing ↦ elim (write_stores_or_reads fenced e writing) [
                  | inl store ↦ store
                  | inr reading ↦ absurd (true≢false (sym (or_left (has_kind reads e) _ reading) ∙ not_blocking))
                ]
              ]
            ]

    -- Ranks increase along global happens-before.
    rank-HappensBefore : (a b : MemoryEvent) → HappensBefore fenced longer_execution a b → rank a < rank b
    rank-HappensBefore a b (inl ppo) = rank-Ppo a b ppo
    rank-HappensBefore a b (inr (inl rfe)) =
        let reading = rfe.rf.read in
        let less : ghb_rank_without a < ghb_rank_without b =
        axioms.happens_before.increases (event_without fencing a) (event_without fencing b) (inr (inl (record {
          rf = Rf-event_without fencing well_scoped candidate a b rfe.rf;
          threads_differ = rfe.threads_differ;
        }))) in
        rank-after_write a b rfe.rf.on_location rfe.rf.write
        (counts-from_access b rfe.rf.on_location reading.is_event reading.location_is
        (or_left (has_kind reads b) _ reading.is_read)).1 less
    rank-HappensBefore a b (inr (inr (inl co))) =
        let less : ghb_rank_without a < ghb_rank_without b =
        axioms.happens_before.increases (event_without fencing a) (event_without fencing b)
        (inr (inr (inl (Co-event_without fencing well_scoped candidate a b co)))) in
        rank-after_write a b co.on_location co.first_write
        (counts-from_access b co.on_location co.second_write.is_event co.second_write.location_is
        (or_right (has_kind reads b) _ co.second_write.is_write)).1 less
    rank-HappensBefore a b (inr (inr (inr fr))) = rank-Fr a b fr

    -- The longer test's execution satisfies the axioms.
    SatisfiesAxioms-with_fences : SatisfiesAxioms fenced longer_execution
    SatisfiesAxioms-with_fences = record {
      coherence = Coherence-with_fences fencing well_scoped candidate axioms.coherence;
      happens_before = record { rank = rank; increases = rank-HappensBefore };
    }

-- An outcome that the axioms allow a test is one that they allow it with spare MFENCEs inserted.
pub IsAllowed-with_fences : {test fenced : X86Test} (f : HasInsertedFences test fenced)
    → IsWellScopedProgram fenced
    → AreSpare test fenced f
    → {o : FinalState}
    → IsAllowed test o
    → IsAllowed fenced o
IsAllowed-with_fences f well_scoped spare a = record {
  execution = with_fences f well_scoped a.candidate;
  candidate = IsCandidate-with_fences f well_scoped a.candidate;
  axioms = SatisfiesAxioms-with_fences f well_scoped a.candidate a.axioms spare;
}
