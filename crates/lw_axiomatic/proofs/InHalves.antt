-- The axioms with one event for a locked instruction are equivalent to those with two and the axiom of
-- atomicity. One of the laws that relate the definitions to herd's.
use Rattle.lw_axiomatic.proofs.Common.{HalvesPo, ◌≡◌, ◌≢◌, ◌↔◌, ℕ, ◌+◌, ◌*◌, ◌<◌, ◌≤◌, ◌⊎◌, ◌||◌, inl, inr}
use Rattle.lw_axiomatic.proofs.Common.{Bool, true, false, refl, sym, ap, ap₂, ◌∙◌, subst, arith, true≢false}
use Rattle.lw_axiomatic.proofs.Common.{if◌then◌else◌, not, option_map_or, Option, Some, None, cases_Bool}
use Rattle.lw_axiomatic.proofs.Common.{cases_eq, cases_order, or_left, or_right, or_cases, and_from}
use Rattle.lw_axiomatic.proofs.Common.{and_parts, FinalState, Operation, is_load, is_store, is_locked, writes}
use Rattle.lw_axiomatic.proofs.Common.{x86_language, X86Test, SatisfiesAxioms, IsAllowed, IsCandidate}
use Rattle.lw_axiomatic.proofs.Common.{MemoryEvent, Execution, IsEvent, Po, reads, operation_is, location, Rf}
use Rattle.lw_axiomatic.proofs.Common.{Co, Reads, Writes, Fr, Ppo, Half, IsHalf, HalfReads, HalfWrites}
use Rattle.lw_axiomatic.proofs.Common.{AreHalves, HalvesRf, HalvesCo, HalvesFr, HalvesPoLoc, HalvesPpo}
use Rattle.lw_axiomatic.proofs.Common.{reads_first, writes_last, is_ordered_with_all, AreOfTwoThreads}
use Rattle.lw_axiomatic.proofs.Common.{SatisfiesSplitAxioms, IsAllowedBySplitAxioms}
use Rattle.lw_axiomatic.proofs.Decisions.{decided_event_equal}
use Rattle.lw_axiomatic.proofs.EventKinds.{writes-false_if_load}
use Rattle.lw_litmus.specs.Operations as operations

-- A locked instruction reads and writes.
reads_and_writes-is_locked : (q : Option Operation)
    → option_map_or is_locked q false ≡ true
    → (option_map_or reads q false ≡ true) × (option_map_or writes q false ≡ true)
reads_and_writes-is_locked None e = absurd (true≢false (sym e))
reads_and_writes-is_locked (Some o) e = (or_right (is_load o) _ e, or_right (is_store o) _ e)

-- Only a locked instruction both reads and writes.
is_locked-reads_and_writes : (q : Option Operation)
    → option_map_or reads q false ≡ true
    → option_map_or writes q false ≡ true
    → option_map_or is_locked q false ≡ true
is_locked-reads_and_writes None a b = absurd (true≢false (sym a))
is_locked-reads_and_writes (Some o) a b =
    elim (or_cases (is_load o) _ a) [ inl load ↦ absurd (true≢false (sym b ∙ writes-false_if_load o load)) | inr locked ↦ locked ]

-- The negation of a test that fails passes.
not-of_false : (b : Bool) → b ≡ false → not b ≡ true
not-of_false true e = absurd (true≢false e)
not-of_false false e = refl

module _ (test : X86Test) (x : Execution) where
  -- Tests the kind of an event's operation.
  abbrev has_kind : (Operation → Bool) → MemoryEvent → Bool
  has_kind = operation_is x86_language test

  -- An event, or a locked instruction's read.
  abbrev first_half : MemoryEvent → Half
  first_half e = record { event = e; is_second = false }

  -- An event, or a locked instruction's write.
  abbrev last_half : MemoryEvent → Half
  last_half e = record { event = e; is_second = has_kind is_locked e }

  -- The first half of an event is one of the execution's halves.
  IsHalf-first : (e : MemoryEvent) → IsEvent x e → IsHalf test x (first_half e)
  IsHalf-first e there = record { is_event = there; locked_if_second = λ f. absurd (true≢false (sym f)) }

  -- The last half of an event is one of the execution's halves.
  IsHalf-last : (e : MemoryEvent) → IsEvent x e → IsHalf test x (last_half e)
  IsHalf-last e there = record { is_event = there; locked_if_second = λ f. f }

  -- An event's read is that of its first half.
  HalfReads-Reads : (e : MemoryEvent) (l : ℕ) → Reads x86_language test x e l → HalfReads test x (first_half e) l
  HalfReads-Reads e l r = record { event_reads = r; is_first = refl }

  -- An event's write is that of its last half.
  HalfWrites-Writes : (e : MemoryEvent) (l : ℕ) → Writes x86_language test x e l → HalfWrites test x (last_half e) l
  HalfWrites-Writes e l w = record { event_writes = w; is_last = refl }

  -- Reads-from of events is reads-from of the last half of the write and the first half of the read.
  HalvesRf-of_events : (w r : MemoryEvent) → Rf x86_language test x w r → HalvesRf test x (last_half w) (first_half r)
  HalvesRf-of_events w r rf = record {
    on_location = rf.on_location;
    write = HalfWrites-Writes w rf.on_location rf.write;
    read = HalfReads-Reads r rf.on_location rf.read;
    source_is = rf.source_is;
  }

  -- Coherence order of events is that of their last halves.
  HalvesCo-of_events : (w v : MemoryEvent) → Co x86_language test x w v → HalvesCo test x (last_half w) (last_half v)
  HalvesCo-of_events w v co = record {
    on_location = co.on_location;
    first_write = HalfWrites-Writes w co.on_location co.first_write;
    second_write = HalfWrites-Writes v co.on_location co.second_write;
    co_lt = co.co_lt;
  }

  -- From-reads of events is from-reads of the first half of the read and the last half of the write.
  HalvesFr-of_events : (r w : MemoryEvent) → Fr x86_language test x r w → HalvesFr test x (first_half r) (last_half w)
  HalvesFr-of_events r w fr = record {
    on_location = fr.on_location;
    read = HalfReads-Reads r fr.on_location fr.read;
    write = HalfWrites-Writes w fr.on_location fr.write;
    source_before = fr.source_before;
  }

  -- Reads-from of halves is reads-from of their events.
  Rf-of_halves : (w r : Half) → HalvesRf test x w r → Rf x86_language test x w.event r.event
  Rf-of_halves w r rf =
      record { on_location = rf.on_location; write = rf.write.event_writes; read = rf.read.event_reads; source_is = rf.source_is }

  -- Coherence order of halves is coherence order of their events.
  Co-of_halves : (w v : Half) → HalvesCo test x w v → Co x86_language test x w.event v.event
  Co-of_halves w v co = record {
    on_location = co.on_location;
    first_write = co.first_write.event_writes;
    second_write = co.second_write.event_writes;
    co_lt = co.co_lt;
  }

  -- From-reads of halves of two events is from-reads of the events.
  Fr-of_halves : (r w : Half) → r.event ≢ w.event → HalvesFr test x r w → Fr x86_language test x r.event w.event
  Fr-of_halves r w differ fr = record {
    on_location = fr.on_location;
    read = fr.read.event_reads;
    write = fr.write.event_writes;
    events_differ = differ;
    source_before = fr.source_before;
  }

  -- ---- from one event to two

  module _ (axioms : SatisfiesAxioms test x) where
    -- 1 for a second half, and 0 otherwise.
    abbrev bit : Bool → ℕ
    bit b = if b then 1 else 0

    -- The number of a second half is 1.
    bit-true : (b : Bool) → b ≡ true → bit b ≡ 1
    bit-true true e = refl
    bit-true false e = absurd (true≢false (sym e))

    -- The number of a half that is not a second half is 0.
    bit-false : (b : Bool) → b ≡ false → bit b ≡ 0
    bit-false true e = absurd (true≢false e)
    bit-false false e = refl

    -- The number of a half is at most 1.
    bit-at_most_one : (b : Bool) → bit b ≤ 1
    bit-at_most_one true = omega arith
    bit-at_most_one false = omega arith

    -- The ranks of events, doubled: a locked instruction's write comes immediately after its read.
    module _ (rank : MemoryEvent → ℕ) where
      -- The rank of a half: twice its event's, and 1 more for a second half.
      abbrev doubled : Half → ℕ
      doubled h = 2 * rank h.event + bit h.is_second

      -- Doubling preserves the order of different ranks.
      doubled_increases-rank : (a b : Half) → rank a.event < rank b.event → doubled a < doubled b
      doubled_increases-rank a b less = omega (arith, less, bit-at_most_one a.is_second)

      -- A locked instruction's read comes before its write.
      doubled_increases-AreHalves : (a b : Half) → AreHalves test x a b → doubled a < doubled b
      doubled_increases-AreHalves a b halves = omega (
        arith,
        ap rank halves.same_event,
        bit-false a.is_second halves.first_is_first,
        bit-true b.is_second halves.second_is_second,
      )

      -- If ranks increase along from-reads of events, doubled ranks increase along from-reads of halves.
      doubled_increases-HalvesFr : ((r w : MemoryEvent) → Fr x86_language test x r w → rank r < rank w)
          → (r w : Half)
          → HalvesFr test x r w
          → doubled r < doubled w
      doubled_increases-HalvesFr each r w fr = elim (decided_event_equal r.event w.event) [
        | inr events_differ ↦ doubled_increases-rank r w (each r.event w.event (Fr-of_halves r w events_differ fr))
        | inl same_event ↦ elim (cases_Bool w.is_second) [
          | inl s ↦ omega (arith, ap rank same_event, bit-false r.is_second fr.read.is_first, bit-true w.is_second s)
          | inr f ↦
              absurd (true_ne_false
              (event_is_locked-reads_and_writes w.event
              (subst (λ (z : MemoryEvent). has_kind reads z ≡ true) same_event fr.read.event_reads.is_read)
              fr.write.event_writes.is_write) (sym fr.write.is_last ∙ f))
        ]
      ]
        where
          -- An event that reads and writes is a locked instruction.
          event_is_locked-reads_and_writes : (e : MemoryEvent)
              → has_kind reads e ≡ true
              → has_kind writes e ≡ true
              → has_kind is_locked e ≡ true
          event_is_locked-reads_and_writes e a b = is_locked-reads_and_writes _ a b

          -- No test is both true and false.
          true_ne_false : {b : Bool} → b ≡ true → b ≡ false → ⊥
          true_ne_false t f = true≢false (sym t ∙ f)

    -- The doubled ranks increase along the halves' relations on one location.
    coherence_in_halves : (a b : Half)
        → HalvesPoLoc test x a b ⊎ (HalvesRf test x a b ⊎ (HalvesCo test x a b ⊎ HalvesFr test x a b))
        → doubled axioms.coherence.rank a < doubled axioms.coherence.rank b
    coherence_in_halves a b = elim [
      | inl poloc ↦ doubled_increases-HalvesPoLoc poloc poloc.po
      | inr (inl rf) ↦
          doubled_increases-rank axioms.coherence.rank a b
          (axioms.coherence.increases a.event b.event (inr (inl (Rf-of_halves a b rf))))
      | inr (inr (inl co)) ↦
          doubled_increases-rank axioms.coherence.rank a b
          (axioms.coherence.increases a.event b.event (inr (inr (inl (Co-of_halves a b co)))))
      | inr (inr (inr fr)) ↦
          doubled_increases-HalvesFr axioms.coherence.rank (λ r w f. axioms.coherence.increases r w (inr (inr (inr f)))) a b fr
    ]
      where
        -- By whether they are halves of two events, or of one.
        doubled_increases-HalvesPoLoc : HalvesPoLoc test x a b
            → HalvesPo test x a b
            → doubled axioms.coherence.rank a < doubled axioms.coherence.rank b
        doubled_increases-HalvesPoLoc poloc (inl (first, second, po)) =
            doubled_increases-rank axioms.coherence.rank a b (axioms.coherence.increases a.event b.event (inl (record {
              po = po;
              on_location = poloc.on_location;
              first_location_is = poloc.first_location_is;
              second_location_is = poloc.second_location_is;
            })))
        doubled_increases-HalvesPoLoc poloc (inr halves) = doubled_increases-AreHalves axioms.coherence.rank a b halves

    -- Preserved program order of halves is that of their events.
    Ppo-of_halves : (a b : Half)
        → Po x a.event b.event
        → (reads_first test x a || (writes_last test x b || (is_ordered_with_all test x a || is_ordered_with_all test x b)))
        ≡ true
        → Ppo x86_language test x a.event b.event
    Ppo-of_halves a b po k = record {
      po = po;
      is_preserved = elim (or_cases (reads_first test x a) _ k) [
        | inl r ↦ or_left (has_kind reads a.event) _ (and_parts (has_kind reads a.event) _ r).0
        | inr rest ↦ elim (or_cases (writes_last test x b) _ rest) [
          | inl w ↦
              or_right (has_kind reads a.event) _
              (or_left (has_kind writes b.event) _ (and_parts (has_kind writes b.event) _ w).0)
          | inr all ↦ elim (or_cases (is_ordered_with_all test x a) _ all) [
            | inl f ↦ elim (or_cases (has_kind operations.is_fence a.event) _ f) [
              | inl fence ↦
                  or_right (has_kind reads a.event) _
                  (or_right (has_kind writes b.event) _ (or_left (has_kind operations.is_fence a.event) _ fence))
              | inr locked ↦ or_left (has_kind reads a.event) _ (reads_and_writes-is_locked _ locked).0
            ]
            | inr f ↦ elim (or_cases (has_kind operations.is_fence b.event) _ f) [
              | inl fence ↦
                  or_right (has_kind reads a.event) _
                  (or_right (has_kind writes b.event) _ (or_right (has_kind operations.is_fence a.event) _ fence))
              | inr locked ↦
                  or_right (has_kind reads a.event) _
                  (or_left (has_kind writes b.event) _ (reads_and_writes-is_locked _ locked).1)
            ]
          ]
        ]
      ];
    }

    -- The doubled ranks increase along the halves' global happens-before.
    happens_before_in_halves : (a b : Half)
        → HalvesPpo test x a b
        ⊎ ((HalvesRf test x a b × AreOfTwoThreads test x a b) ⊎ (HalvesCo test x a b ⊎ HalvesFr test x a b))
        → doubled axioms.happens_before.rank a < doubled axioms.happens_before.rank b
    happens_before_in_halves a b = elim [
      | inl ppo ↦ doubled_increases-HalvesPpo ppo ppo.po
      | inr (inl (rf, two)) ↦
          doubled_increases-rank axioms.happens_before.rank a b
          (axioms.happens_before.increases a.event b.event
          (inr (inl (record { rf = Rf-of_halves a b rf; threads_differ = two }))))
      | inr (inr (inl co)) ↦
          doubled_increases-rank axioms.happens_before.rank a b
          (axioms.happens_before.increases a.event b.event (inr (inr (inl (Co-of_halves a b co)))))
      | inr (inr (inr fr)) ↦
          doubled_increases-HalvesFr axioms.happens_before.rank (λ r w f. axioms.happens_before.increases r w (inr (inr (inr f))))
          a b fr
    ]
      where
        -- By whether they are halves of two events, or of one.
        doubled_increases-HalvesPpo : HalvesPpo test x a b
            → HalvesPo test x a b
            → doubled axioms.happens_before.rank a < doubled axioms.happens_before.rank b
        doubled_increases-HalvesPpo ppo (inl (first, second, po)) =
            doubled_increases-rank axioms.happens_before.rank a b
            (axioms.happens_before.increases a.event b.event (inl (Ppo-of_halves a b po ppo.is_preserved)))
        doubled_increases-HalvesPpo ppo (inr halves) = doubled_increases-AreHalves axioms.happens_before.rank a b halves

    -- No write of another thread comes between the halves of a locked instruction.
    no_write-between_halves : (r w v : Half)
        → AreHalves test x r w
        → HalvesFr test x r v
        → AreOfTwoThreads test x r v
        → HalvesCo test x v w
        → AreOfTwoThreads test x v w
        → ⊥
    no_write-between_halves r w v halves fr two co apart =
        let differ : r.event ≢ v.event = λ e. two (ap (λ (z : MemoryEvent). z.thread) e) in
        omega (
          arith,
          axioms.coherence.increases r.event v.event (inr (inr (inr (Fr-of_halves r v differ fr)))),
          axioms.coherence.increases v.event w.event (inr (inr (inl (Co-of_halves v w co)))),
          ap axioms.coherence.rank halves.same_event,
        )

    -- If the axioms hold of the events, they hold of the halves.
    pub SatisfiesSplitAxioms-SatisfiesAxioms : SatisfiesSplitAxioms test x
    SatisfiesSplitAxioms-SatisfiesAxioms = record {
      coherence = record { rank = doubled axioms.coherence.rank; increases = coherence_in_halves };
      atomic = no_write-between_halves;
      happens_before = record { rank = doubled axioms.happens_before.rank; increases = happens_before_in_halves };
    }

  -- ---- back: an event has the rank of its last half

  module _ {o : FinalState} (candidate : IsCandidate x86_language test x o) (axioms : SatisfiesSplitAxioms test x) where
    -- The rank of a half by coherence.
    abbrev coherence_rank : Half → ℕ
    coherence_rank = axioms.coherence.rank

    -- The rank of a half in global happens-before.
    abbrev ghb_rank : Half → ℕ
    ghb_rank = axioms.happens_before.rank

    -- The first half and the last half of a locked instruction are its two halves.
    AreHalves-locked : (e : MemoryEvent)
        → IsEvent x e
        → has_kind is_locked e ≡ true
        → AreHalves test x (first_half e) (last_half e)
    AreHalves-locked e is_event locked = record {
      first_half = IsHalf-first e is_event;
      second_half = IsHalf-last e is_event;
      same_event = refl;
      first_is_first = refl;
      second_is_second = locked;
    }

    -- By the ranks of coherence the first half of an event with a location is no later than its last half.
    coherence_rank_first_at_most_last : (e : MemoryEvent) (l : ℕ)
        → IsEvent x e
        → location x86_language test e ≡ Some l
        → coherence_rank (first_half e) ≤ coherence_rank (last_half e)
    coherence_rank_first_at_most_last e l is_event location_is = elim (cases_Bool (has_kind is_locked e)) [
      | inl e_locked ↦
          (let less : coherence_rank (first_half e) < coherence_rank (last_half e) =
          axioms.coherence.increases (first_half e) (last_half e) (inl (record {
            po = inr (AreHalves-locked e is_event e_locked);
            on_location = l;
            first_location_is = location_is;
            second_location_is = location_is;
          })) in
          omega (arith, less))
      | inr e_not_locked ↦ omega (arith, ap (λ b. coherence_rank (record { event = e; is_second = b })) e_not_locked)
    ]

    -- By the ranks of global happens-before the first half of an event that reads is no later than its last half.
    ghb_rank_first_at_most_last : (e : MemoryEvent) (l : ℕ)
        → Reads x86_language test x e l
        → ghb_rank (first_half e) ≤ ghb_rank (last_half e)
    ghb_rank_first_at_most_last e l r = elim (cases_Bool (has_kind is_locked e)) [
      | inl e_locked ↦
          (let less : ghb_rank (first_half e) < ghb_rank (last_half e) =
          axioms.happens_before.increases (first_half e) (last_half e) (inl (record {
            po = inr (AreHalves-locked e r.is_event e_locked);
            is_preserved = or_left (reads_first test x (first_half e)) _ (and_from (has_kind reads e) true r.is_read refl);
          })) in
          omega (arith, less))
      | inr e_not_locked ↦ omega (arith, ap (λ b. ghb_rank (record { event = e; is_second = b })) e_not_locked)
    ]

    -- A locked instruction precedes a write in coherence order, if its read does so in from-reads.
    HalvesCo-Fr_of_locked : (r w : MemoryEvent)
        → Fr x86_language test x r w
        → has_kind is_locked r ≡ true
        → HalvesCo test x (last_half r) (last_half w)
    HalvesCo-Fr_of_locked r w fr locked =
        let own : Writes x86_language test x r fr.on_location = record {
          is_event = fr.read.is_event;
          location_is = fr.read.location_is;
          is_write = (reads_and_writes-is_locked _ locked).1;
        } in
        let halves_fr : HalvesFr test x (first_half r) (last_half w) = HalvesFr-of_events r w fr in
        elim (cases_order (x.co r) (x.co w)) [
          | inl same_co ↦ absurd (fr.events_differ (candidate.co r w fr.on_location own fr.write same_co))
          | inr (inl co_lt) ↦
              HalvesCo-of_events r w
              (record { on_location = fr.on_location; first_write = own; second_write = fr.write; co_lt = co_lt })
          | inr (inr co_gt) ↦
              absurd (let back : HalvesCo test x (last_half w) (last_half r) =
              HalvesCo-of_events w r
              (record { on_location = fr.on_location; first_write = fr.write; second_write = own; co_lt = co_gt }) in
              elim (cases_eq r.thread w.thread) [
                | inr threads_differ ↦
                    axioms.atomic (first_half r) (last_half r) (last_half w) (AreHalves-locked r fr.read.is_event locked)
                    halves_fr threads_differ back (λ e. threads_differ (sym e))
                | inl same_thread ↦ elim (cases_order r.position w.position) [
                  | inl same_position ↦
                      fr.events_differ (ap₂ (λ t j. record { thread = t; position = j }) same_thread same_position)
                  | inr (inl position_lt) ↦ omega (
                    arith,
                    axioms.coherence.increases (last_half r) (last_half w) (inl (record {
                      po = inl (
                        IsHalf-last r fr.read.is_event,
                        IsHalf-last w fr.write.is_event,
                        record {
                          first_event = fr.read.is_event;
                          second_event = fr.write.is_event;
                          same_thread = same_thread;
                          position_lt = position_lt;
                        },
                      );
                      on_location = fr.on_location;
                      first_location_is = fr.read.location_is;
                      second_location_is = fr.write.location_is;
                    })),
                    axioms.coherence.increases (last_half w) (last_half r) (inr (inr (inl back))),
                  )
                  | inr (inr position_gt) ↦ omega (
                    arith,
                    axioms.coherence.increases (last_half w) (first_half r) (inl (record {
                      po = inl (
                        IsHalf-last w fr.write.is_event,
                        IsHalf-first r fr.read.is_event,
                        record {
                          first_event = fr.write.is_event;
                          second_event = fr.read.is_event;
                          same_thread = sym same_thread;
                          position_lt = position_gt;
                        },
                      );
                      on_location = fr.on_location;
                      first_location_is = fr.write.location_is;
                      second_location_is = fr.read.location_is;
                    })),
                    axioms.coherence.increases (first_half r) (last_half w) (inr (inr (inr halves_fr))),
                  )
                ]
              ])
        ]

    -- The ranks of last halves by coherence increase along from-reads.
    coherence_rank_last_increases-Fr : (r w : MemoryEvent)
        → Fr x86_language test x r w
        → coherence_rank (last_half r) < coherence_rank (last_half w)
    coherence_rank_last_increases-Fr r w fr = elim (cases_Bool (has_kind is_locked r)) [
      | inl r_locked ↦
          axioms.coherence.increases (last_half r) (last_half w) (inr (inr (inl (HalvesCo-Fr_of_locked r w fr r_locked))))
      | inr r_not_locked ↦ omega (
        arith,
        ap (λ b. coherence_rank (record { event = r; is_second = b })) r_not_locked,
        axioms.coherence.increases (first_half r) (last_half w) (inr (inr (inr (HalvesFr-of_events r w fr)))),
      )
    ]

    -- The ranks of the last halves in global happens-before increase along from-reads.
    ghb_rank_last_increases-Fr : (r w : MemoryEvent)
        → Fr x86_language test x r w
        → ghb_rank (last_half r) < ghb_rank (last_half w)
    ghb_rank_last_increases-Fr r w fr = elim (cases_Bool (has_kind is_locked r)) [
      | inl r_locked ↦
          axioms.happens_before.increases (last_half r) (last_half w) (inr (inr (inl (HalvesCo-Fr_of_locked r w fr r_locked))))
      | inr r_not_locked ↦ omega (
        arith,
        ap (λ b. ghb_rank (record { event = r; is_second = b })) r_not_locked,
        axioms.happens_before.increases (first_half r) (last_half w) (inr (inr (inr (HalvesFr-of_events r w fr)))),
      )
    ]

    -- The ranks of the last halves in global happens-before increase along preserved program order.
    ghb_rank_last_increases-Ppo : (a b : MemoryEvent)
        → Ppo x86_language test x a b
        → ghb_rank (last_half a) < ghb_rank (last_half b)
    ghb_rank_last_increases-Ppo a b ppo = axioms.happens_before.increases (last_half a) (last_half b) (inl (record {
      po = inl (IsHalf-last a ppo.po.first_event, IsHalf-last b ppo.po.second_event, ppo.po);
      is_preserved = elim (or_cases (has_kind reads a) _ ppo.is_preserved) [
        | inl r ↦ half_reads_first r
        | inr rest ↦ elim (or_cases (has_kind writes b) _ rest) [
          | inl w ↦
              or_right (reads_first test x (last_half a)) _
              (or_left (writes_last test x (last_half b)) _
              (and_from (has_kind writes b) _ w (or_not-true (has_kind is_locked b))))
          | inr fences ↦
              or_right (reads_first test x (last_half a)) _
              (or_right (writes_last test x (last_half b)) _ (elim (or_cases (has_kind operations.is_fence a) _ fences) [
                | inl f ↦ or_left (is_ordered_with_all test x (last_half a)) _ (or_left (has_kind operations.is_fence a) _ f)
                | inr f ↦ or_right (is_ordered_with_all test x (last_half a)) _ (or_left (has_kind operations.is_fence b) _ f)
              ]))
        ]
      ];
    }))
      where
        -- A test is false or true.
        or_not-true : (d : Bool) → (not d || d) ≡ true
        or_not-true true = refl
        or_not-true false = refl

        -- A read's half orders what follows it.
        half_reads_first : has_kind reads a ≡ true
            → (reads_first test x (last_half a)
            || (writes_last test x (last_half b)
            || (is_ordered_with_all test x (last_half a) || is_ordered_with_all test x (last_half b))))
            ≡ true
        half_reads_first r = elim (cases_Bool (has_kind is_locked a)) [
          | inl a_locked ↦
              or_right (reads_first test x (last_half a)) _
              (or_right (writes_last test x (last_half b)) _
              (or_left (is_ordered_with_all test x (last_half a)) _ (or_right (has_kind operations.is_fence a) _ a_locked)))
          | inr a_not_locked ↦
              or_left (reads_first test x (last_half a)) _
              (and_from (has_kind reads a) _ r (not-of_false (has_kind is_locked a) a_not_locked))
        ]

    -- If the axioms hold of the halves, they hold of the events.
    pub SatisfiesAxioms-SatisfiesSplitAxioms : SatisfiesAxioms test x
    SatisfiesAxioms-SatisfiesSplitAxioms = record {
      coherence = record {
        rank = λ e. coherence_rank (last_half e);
        increases = λ a b. elim [
          | inl poloc ↦ axioms.coherence.increases (last_half a) (last_half b) (inl (record {
            po = inl (IsHalf-last a poloc.po.first_event, IsHalf-last b poloc.po.second_event, poloc.po);
            on_location = poloc.on_location;
            first_location_is = poloc.first_location_is;
            second_location_is = poloc.second_location_is;
          }))
          | inr (inl rf) ↦ omega (
            arith,
            axioms.coherence.increases (last_half a) (first_half b) (inr (inl (HalvesRf-of_events a b rf))),
            coherence_rank_first_at_most_last b rf.on_location rf.read.is_event rf.read.location_is,
          )
          | inr (inr (inl co)) ↦
              axioms.coherence.increases (last_half a) (last_half b) (inr (inr (inl (HalvesCo-of_events a b co))))
          | inr (inr (inr fr)) ↦ coherence_rank_last_increases-Fr a b fr
        ];
      };
      happens_before = record {
        rank = λ e. ghb_rank (last_half e);
        increases = λ a b. elim [
          | inl ppo ↦ ghb_rank_last_increases-Ppo a b ppo
          | inr (inl rfe) ↦ omega (
            arith,
            axioms.happens_before.increases (last_half a) (first_half b)
                (inr (inl (HalvesRf-of_events a b rfe.rf, rfe.threads_differ))),
            ghb_rank_first_at_most_last b rfe.rf.on_location rfe.rf.read,
          )
          | inr (inr (inl co)) ↦
              axioms.happens_before.increases (last_half a) (last_half b) (inr (inr (inl (HalvesCo-of_events a b co))))
          | inr (inr (inr fr)) ↦ ghb_rank_last_increases-Fr a b fr
        ];
      };
    }

-- A candidate satisfies the axioms with one event for a locked instruction if and only if it satisfies those with two.
pub SatisfiesAxioms-iff_split : (test : X86Test) (x : Execution) (o : FinalState)
    → IsCandidate x86_language test x o
    → SatisfiesAxioms test x ↔ SatisfiesSplitAxioms test x
SatisfiesAxioms-iff_split test x o candidate =
    (SatisfiesSplitAxioms-SatisfiesAxioms test x, SatisfiesAxioms-SatisfiesSplitAxioms test x candidate)

-- Both forms of the axioms allow the same outcomes.
pub IsAllowed-iff_split : (test : X86Test) (o : FinalState) → IsAllowed test o ↔ IsAllowedBySplitAxioms test o
IsAllowed-iff_split test o = (
  λ a. record {
    execution = a.execution;
    candidate = a.candidate;
    axioms = SatisfiesSplitAxioms-SatisfiesAxioms test a.execution a.axioms;
  },
  λ a. record {
    execution = a.execution;
    candidate = a.candidate;
    axioms = SatisfiesAxioms-SatisfiesSplitAxioms test a.execution a.candidate a.axioms;
  },
)
