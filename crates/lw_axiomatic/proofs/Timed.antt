-- An execution with times satisfies the axioms. The time of reaching memory is the rank for global
-- happens-before; for coherence a load is ranked right after the write that it reads. The last step from the
-- machine to the axioms.
use Rattle.lw_axiomatic.proofs.Common.{◌≡◌, ℕ, suc, ◌+◌, ◌<◌, ◌≤◌, inl, inr, ⊎_elim, Bool, true, Option, Some}
use Rattle.lw_axiomatic.proofs.Common.{None, refl, ap, ◌∙◌, subst, arith, if◌then◌else◌, ForSome, cases_Bool}
use Rattle.lw_axiomatic.proofs.Common.{cases_order, cond-true, cond-false, or_left, or_right, Operation}
use Rattle.lw_axiomatic.proofs.Common.{is_store, is_load, writes, x86_language, X86Test, MemoryEvent}
use Rattle.lw_axiomatic.proofs.Common.{Execution, reads, operation_is, IsEvent, Reads, Writes, Po, Rf, Co, Fr}
use Rattle.lw_axiomatic.proofs.Common.{PoLoc, Rfe, Coherence, GlobalHappensBefore, SatisfiesAxioms, IsBefore}
use Rattle.lw_axiomatic.proofs.Common.{IsNewest, HasConsistentTimes}
use Rattle.lw_axiomatic.proofs.EventKinds.{is_store-false_if_reads_event, reads-if_load_event}
use Rattle.lw_axiomatic.proofs.EventKinds.{writes-false_if_load_event, write_or_load, position_below_size}
use Rattle.lw_axiomatic.proofs.Levels.{level, level-suc, level-le, level-lt, size}

module _ {test : X86Test} {x : Execution} {done reached : MemoryEvent → ℕ} (timed : HasConsistentTimes test x done reached) where
  -- Tests the kind of an event's operation.
  abbrev has_kind : (Operation → Bool) → MemoryEvent → Bool
  has_kind = operation_is x86_language test

  -- What reads reaches memory when it is done.
  read_reached_is_done : (r : MemoryEvent) → has_kind reads r ≡ true → reached r ≡ done r
  read_reached_is_done r e = timed.at_once r (is_store-false_if_reads_event test r e)

  -- No event reaches memory before it is done.
  done_at_most_reached : (e : MemoryEvent) → IsEvent x e → done e ≤ reached e
  done_at_most_reached e is_event = elim (cases_Bool (has_kind is_store e)) [
    | inl e_stores ↦ omega (arith, timed.later e is_event e_stores)
    | inr e_not_store ↦ omega (arith, timed.at_once e e_not_store)
  ]

  -- Of two events in program order of which the second writes, the first reaches memory first.
  reached_increases-Po_to_write : (a b : MemoryEvent) → Po x a b → has_kind writes b ≡ true → reached a < reached b
  reached_increases-Po_to_write a b po w =
      timed.ppo a b (record { po = po; is_preserved = or_right (has_kind reads a) _ (or_left (has_kind writes b) _ w) })

  -- ---- from-reads: what reaches memory before a read is done is no newer than what that reads

  -- A write that is later in coherence order than the newest write before a read is not before the read.
  not-newer_than_source : (r w : MemoryEvent) (l : ℕ) (q : Option MemoryEvent)
      → Writes x86_language test x w l
      → IsNewest test x done reached r l q
      → ForSome q (λ v. x.co v < x.co w)
      → IsBefore x done reached w r
      → ⊥
  not-newer_than_source r w l None there newest source_before before = newest w there before
  not-newer_than_source r w l (Some v) there newest source_before before =
      let up : reached v < reached w =
      timed.co v w (record { on_location = l; first_write = newest.write; second_write = there; co_lt = source_before v refl }) in
      omega (arith, up, newest.latest w there before)

  -- Along from-reads events reach memory later and later.
  reached_increases-Fr : (r w : MemoryEvent) → Fr x86_language test x r w → reached r < reached w
  reached_increases-Fr r w fr = elim (cases_order (reached r) (reached w)) [
    | inl same ↦ absurd (fr.events_differ (timed.reached_injective r w fr.read.is_event fr.write.is_event same))
    | inr (inl less) ↦ less
    | inr (inr more) ↦
        absurd (not-newer_than_source r w fr.on_location (x.rf r) fr.write (timed.newest r fr.on_location fr.read)
        fr.source_before (inl (omega (arith, more, read_reached_is_done r fr.read.is_read))))
  ]

  -- If a read reads from a write, this write is the newest before the read, by the times.
  IsNewest-of_source : (r w : MemoryEvent) (l : ℕ)
      → Reads x86_language test x r l
      → x.rf r ≡ Some w
      → IsNewest test x done reached r l (Some w)
  IsNewest-of_source r w l reading source_is = subst (IsNewest test x done reached r l) source_is (timed.newest r l reading)

  -- The times of reaching memory increase along reads-from between threads.
  reached_increases-Rfe : (w r : MemoryEvent) → Rfe x86_language test x w r → reached w < reached r
  reached_increases-Rfe w r rfe =
      ⊎_elim (λ less. omega (arith, less, read_reached_is_done r rfe.rf.read.is_read))
      (λ po. absurd (rfe.threads_differ po.same_thread))
      (IsNewest-of_source r w rfe.rf.on_location rfe.rf.read rfe.rf.source_is).is_before

  -- By the times at which events reach memory, global happens-before has no cycle.
  pub happens_before : GlobalHappensBefore test x
  happens_before = record {
    rank = reached;
    increases = λ a b. elim [
      | inl ppo ↦ timed.ppo a b ppo
      | inr (inl rfe) ↦ reached_increases-Rfe a b rfe
      | inr (inr (inl co)) ↦ timed.co a b co
      | inr (inr (inr fr)) ↦ reached_increases-Fr a b fr
    ];
  }

  -- ---- coherence: each load comes right after what it reads, those of one write by their positions

  -- A number above all positions.
  abbrev width : ℕ
  width = suc (size test.threads)

  -- The level of the write that is read from, and 0 for the initial word.
  abbrev source : Option MemoryEvent → ℕ
  source None = 0
  source (Some v) = level width (suc (reached v))

  -- The rank by coherence: a write has its own level, and a load follows the write that it reads from.
  abbrev rank : MemoryEvent → ℕ
  rank e = if has_kind writes e then level width (suc (reached e)) else suc (e.position + source (x.rf e))

  -- The rank of a write is its level.
  rank-of_write : (e : MemoryEvent) → has_kind writes e ≡ true → rank e ≡ level width (suc (reached e))
  rank-of_write e w = cond-true (has_kind writes e) _ _ w

  -- The rank of a load is one more than its position and the level of its source.
  rank-of_load : (e : MemoryEvent) → has_kind is_load e ≡ true → rank e ≡ suc (e.position + source (x.rf e))
  rank-of_load e l = cond-false (has_kind writes e) _ _ (writes-false_if_load_event test e l)

  -- The level of a write that is before a read is at most that of the read's source.
  source_at_least-write_before : (r w : MemoryEvent) (l : ℕ) (q : Option MemoryEvent)
      → IsNewest test x done reached r l q
      → Writes x86_language test x w l
      → IsBefore x done reached w r
      → level width (suc (reached w)) ≤ source q
  source_at_least-write_before r w l None newest writing before = absurd (newest w writing before)
  source_at_least-write_before r w l (Some v) newest writing before =
      level-le width (suc (reached w)) (suc (reached v)) (omega (arith, newest.latest w writing before))

  -- The level of a read's source is at most that at which a later write of the thread reaches memory.
  source_at_most-later_write : (r w : MemoryEvent) (l : ℕ) (q : Option MemoryEvent)
      → IsNewest test x done reached r l q
      → Po x r w
      → has_kind writes w ≡ true
      → source q ≤ level width (reached w)
  source_at_most-later_write r w l None newest po writing = omega arith
  source_at_most-later_write r w l (Some v) newest po writing =
      let less : reached v < reached w =
      ⊎_elim (λ early. omega (arith, early, timed.po r w po, done_at_most_reached w po.second_event)) (λ own.
      reached_increases-Po_to_write v w (record {
        first_event = own.first_event;
        second_event = po.second_event;
        same_thread = own.same_thread ∙ po.same_thread;
        position_lt = omega (arith, own.position_lt, po.position_lt);
      }) writing) newest.is_before in
      level-le width (suc (reached v)) (reached w) (omega (arith, less))

  -- Of two reads of a thread, of which the second is of the location l, the first has no later source for l than the second.
  source_increases-Po : (r s : MemoryEvent) (l : ℕ) (q : Option MemoryEvent)
      → IsNewest test x done reached r l q
      → Reads x86_language test x s l
      → Po x r s
      → source q ≤ source (x.rf s)
  source_increases-Po r s l None newest reading po = omega arith
  source_increases-Po r s l (Some v) newest reading po =
      source_at_least-write_before s v l (x.rf s) (timed.newest s l reading) newest.write
      (⊎_elim (λ early. inl (omega (arith, early, timed.po r s po))) (λ own. inr (record {
        first_event = own.first_event;
        second_event = po.second_event;
        same_thread = own.same_thread ∙ po.same_thread;
        position_lt = omega (arith, own.position_lt, po.position_lt);
      })) newest.is_before)

  -- Of two writes the one that reaches memory later has the greater rank.
  rank_increases-reached : (a b : MemoryEvent)
      → has_kind writes a ≡ true
      → has_kind writes b ≡ true
      → reached a < reached b
      → rank a < rank b
  rank_increases-reached a b wa wb less =
      omega (
        arith,
        rank-of_write a wa,
        rank-of_write b wb,
        level-lt width (suc (reached a)) (suc (reached b)) (omega (arith, less)),
      )

  -- The ranks increase along program order on one location.
  rank_increases-PoLoc : (a b : MemoryEvent) → PoLoc x86_language test x a b → rank a < rank b
  rank_increases-PoLoc a b poloc = elim (write_or_load test a poloc.on_location poloc.first_location_is) [
    | inl a_writes ↦ elim (write_or_load test b poloc.on_location poloc.second_location_is) [
      | inl b_writes ↦ rank_increases-reached a b a_writes b_writes (reached_increases-Po_to_write a b poloc.po b_writes)
      | inr b_loads ↦ omega (
        arith,
        rank-of_write a a_writes,
        rank-of_load b b_loads,
        source_at_least-write_before b a poloc.on_location (x.rf b) (timed.newest b poloc.on_location (record {
          is_event = poloc.po.second_event;
          location_is = poloc.second_location_is;
          is_read = reads-if_load_event test b b_loads;
        })) (record { is_event = poloc.po.first_event; location_is = poloc.first_location_is; is_write = a_writes })
            (inr poloc.po),
      )
    ]
    | inr a_loads ↦ elim (write_or_load test b poloc.on_location poloc.second_location_is) [
      | inl b_writes ↦ omega (
        arith,
        rank-of_load a a_loads,
        rank-of_write b b_writes,
        position_below_size test a poloc.on_location poloc.first_location_is,
        level-suc width (reached b),
        source_at_most-later_write a b poloc.on_location (x.rf a) (timed.newest a poloc.on_location (record {
          is_event = poloc.po.first_event;
          location_is = poloc.first_location_is;
          is_read = reads-if_load_event test a a_loads;
        })) poloc.po b_writes,
      )
      | inr b_loads ↦ omega (
        arith,
        rank-of_load a a_loads,
        rank-of_load b b_loads,
        poloc.po.position_lt,
        source_increases-Po a b poloc.on_location (x.rf a) (timed.newest a poloc.on_location (record {
          is_event = poloc.po.first_event;
          location_is = poloc.first_location_is;
          is_read = reads-if_load_event test a a_loads;
        })) (record {
          is_event = poloc.po.second_event;
          location_is = poloc.second_location_is;
          is_read = reads-if_load_event test b b_loads;
        }) poloc.po,
      )
    ]
  ]

  -- The ranks increase along reads-from.
  rank_increases-Rf : (w r : MemoryEvent) → Rf x86_language test x w r → rank w < rank r
  rank_increases-Rf w r rf = elim (write_or_load test r rf.on_location rf.read.location_is) [
    | inl r_writes ↦
        (let up : reached w < reached r =
        ⊎_elim (λ less. omega (arith, less, read_reached_is_done r rf.read.is_read))
        (λ po. reached_increases-Po_to_write w r po r_writes)
        (IsNewest-of_source r w rf.on_location rf.read rf.source_is).is_before in
        rank_increases-reached w r rf.write.is_write r_writes up)
    | inr r_loads ↦ omega (arith, rank-of_write w rf.write.is_write, rank-of_load r r_loads, ap source rf.source_is)
  ]

  -- The ranks increase along coherence order.
  rank_increases-Co : (w v : MemoryEvent) → Co x86_language test x w v → rank w < rank v
  rank_increases-Co w v co = rank_increases-reached w v co.first_write.is_write co.second_write.is_write (timed.co w v co)

  -- The ranks increase along from-reads.
  rank_increases-Fr : (r w : MemoryEvent) → Fr x86_language test x r w → rank r < rank w
  rank_increases-Fr r w fr = elim (write_or_load test r fr.on_location fr.read.location_is) [
    | inl r_writes ↦ rank_increases-reached r w r_writes fr.write.is_write (reached_increases-Fr r w fr)
    | inr r_loads ↦ omega (
      arith,
      rank-of_load r r_loads,
      rank-of_write w fr.write.is_write,
      position_below_size test r fr.on_location fr.read.location_is,
      level-suc width (reached w),
      source_at_most-newer_in_co (x.rf r) (timed.newest r fr.on_location fr.read) fr.source_before,
    )
  ]
    where
      -- The level of a read's source is at most that at which a write that the read precedes in from-reads reaches memory.
      source_at_most-newer_in_co : (q : Option MemoryEvent)
          → IsNewest test x done reached r fr.on_location q
          → ForSome q (λ v. x.co v < x.co w)
          → source q ≤ level width (reached w)
      source_at_most-newer_in_co None newest source_before = omega arith
      source_at_most-newer_in_co (Some v) newest source_before =
          let up : reached v < reached w = timed.co v w (record {
            on_location = fr.on_location;
            first_write = newest.write;
            second_write = fr.write;
            co_lt = source_before v refl;
          }) in
          level-le width (suc (reached v)) (reached w) (omega (arith, up))

  -- The axiom of coherence holds.
  pub coherence : Coherence test x
  coherence = record {
    rank = rank;
    increases = λ a b. elim [
      | inl poloc ↦ rank_increases-PoLoc a b poloc
      | inr (inl rf) ↦ rank_increases-Rf a b rf
      | inr (inr (inl co)) ↦ rank_increases-Co a b co
      | inr (inr (inr fr)) ↦ rank_increases-Fr a b fr
    ];
  }

-- An execution with times satisfies the axioms.
pub SatisfiesAxioms-HasConsistentTimes : {test : X86Test} {x : Execution} {done reached : MemoryEvent → ℕ}
    → HasConsistentTimes test x done reached
    → SatisfiesAxioms test x
SatisfiesAxioms-HasConsistentTimes timed = record { coherence = coherence timed; happens_before = happens_before timed }
