-- Ranks of the events of an execution that satisfies the axioms, along which all relations of sequential
-- consistency increase, except from-reads of a load to another thread's write. A rank begins with the
-- greatest rank, in global happens-before, of the accesses up to the event in its thread: that rank
-- anchors the event. The laws of fenced executions (Sequenced), of one fence (SpareFences) and of triangular
-- races (RaceFree) begin here.
use Rattle.lw_axiomatic.proofs.Common.{Co, ◌≡◌, ℕ, suc, ◌+◌, ◌<◌, ◌≤◌, ◌⊎◌, ◌||◌, inl, inr, Bool, true, false}
use Rattle.lw_axiomatic.proofs.Common.{Option, Some, None, refl, sym, ap, ap₂, subst, arith, if◌then◌else◌}
use Rattle.lw_axiomatic.proofs.Common.{true≢false, option_map_or, cases_Bool, cases_eq, cases_order}
use Rattle.lw_axiomatic.proofs.Common.{cond-true, cond-false, or_left, or_right, thread_code, Contains}
use Rattle.lw_axiomatic.proofs.Common.{Operation, or_cases, needs_empty_buffer, writes, x86_language, X86Test}
use Rattle.lw_axiomatic.proofs.Common.{SatisfiesAxioms, MemoryEvent, Execution, reads, operation_is, IsEvent}
use Rattle.lw_axiomatic.proofs.Common.{Writes, Po, Rf, Fr, Ppo, IsSequentiallyConsistent}
use Rattle.lw_axiomatic.proofs.EventKinds.{position_below_size}
use Rattle.lw_axiomatic.proofs.Levels.{level, level-le, level-lt, size}
use Rattle.lw_axiomatic.proofs.Timing.{anchor, anchor_above, anchor_least}
use Rattle.lw_axiomatic.proofs.EventLists.{event}
use Rattle.lw_litmus.specs.Operations as operations

-- What waits for an empty store buffer is a fence, or reads and writes.
fence_or_locked-needs_empty_buffer : (q : Option Operation)
    → option_map_or needs_empty_buffer q false ≡ true
    → (option_map_or operations.is_fence q false ≡ true)
    ⊎ ((option_map_or reads q false ≡ true) × (option_map_or writes q false ≡ true))
fence_or_locked-needs_empty_buffer None w = absurd (true≢false (sym w))
fence_or_locked-needs_empty_buffer (Some o) w = elim (or_cases (operations.is_fence o) _ w) [
  | inl fence ↦ inl fence
  | inr locked ↦ inr (or_right (operations.is_load o) _ locked, or_right (operations.is_store o) _ locked)
]

module _ {test : X86Test} {x : Execution} (axioms : SatisfiesAxioms test x) where
  -- Tests the kind of an event's operation.
  abbrev has_kind : (Operation → Bool) → MemoryEvent → Bool
  has_kind = operation_is x86_language test

  -- The rank of an event in global happens-before, which the axiom gives.
  abbrev pub ghb_rank : MemoryEvent → ℕ
  ghb_rank = axioms.happens_before.rank

  -- Of two events in preserved program order the second has the greater rank in global happens-before.
  ghb_rank_increases-Ppo : (a b : MemoryEvent) → Ppo x86_language test x a b → ghb_rank a < ghb_rank b
  ghb_rank_increases-Ppo a b p = axioms.happens_before.increases a b (inl p)

  -- What follows an event that reads, in its thread, has a greater rank in global happens-before.
  pub ghb_rank_increases-Po_from_read : (a b : MemoryEvent) → Po x a b → has_kind reads a ≡ true → ghb_rank a < ghb_rank b
  ghb_rank_increases-Po_from_read a b po r =
      ghb_rank_increases-Ppo a b (record { po = po; is_preserved = or_left (has_kind reads a) _ r })

  -- An event that writes has a greater rank in global happens-before than what precedes it in its thread.
  ghb_rank_increases-Po_to_write : (a b : MemoryEvent) → Po x a b → has_kind writes b ≡ true → ghb_rank a < ghb_rank b
  ghb_rank_increases-Po_to_write a b po w =
      ghb_rank_increases-Ppo a b
      (record { po = po; is_preserved = or_right (has_kind reads a) _ (or_left (has_kind writes b) _ w) })

  -- If two events are in program order and one is a fence, the second has the greater rank in global happens-before.
  ghb_rank_increases-Po_of_fence : (a b : MemoryEvent)
      → Po x a b
      → (has_kind operations.is_fence a || has_kind operations.is_fence b) ≡ true
      → ghb_rank a < ghb_rank b
  ghb_rank_increases-Po_of_fence a b po f =
      ghb_rank_increases-Ppo a b
      (record { po = po; is_preserved = or_right (has_kind reads a) _ (or_right (has_kind writes b) _ f) })

  -- An event that waits for an empty store buffer has a greater rank in global happens-before than all before it in its thread.
  pub ghb_rank_increases-Po_to_waiting : (a f : MemoryEvent)
      → Po x a f
      → has_kind needs_empty_buffer f ≡ true
      → ghb_rank a < ghb_rank f
  ghb_rank_increases-Po_to_waiting a f po w = elim (fence_or_locked-needs_empty_buffer _ w) [
    | inl fence ↦ ghb_rank_increases-Po_of_fence a f po (or_right (has_kind operations.is_fence a) _ fence)
    | inr locked ↦ ghb_rank_increases-Po_to_write a f po locked.1
  ]

  -- An event that waits for an empty store buffer has a lower rank in global happens-before than all after it in its thread.
  pub ghb_rank_increases-Po_from_waiting : (f b : MemoryEvent)
      → Po x f b
      → has_kind needs_empty_buffer f ≡ true
      → ghb_rank f < ghb_rank b
  ghb_rank_increases-Po_from_waiting f b po w = elim (fence_or_locked-needs_empty_buffer _ w) [
    | inl fence ↦ ghb_rank_increases-Po_of_fence f b po (or_left (has_kind operations.is_fence f) _ fence)
    | inr locked ↦ ghb_rank_increases-Po_from_read f b po locked.0
  ]

  -- ---- the ranks: each event follows the accesses before it in its thread

  -- The event reads or writes.
  abbrev pub accesses : MemoryEvent → Bool
  accesses e = has_kind reads e || has_kind writes e

  -- One more than the rank in global happens-before of the event of thread t at position j if that is an access, and otherwise 0.
  abbrev pub top : ℕ → ℕ → ℕ
  top t j = if accesses (event t j) then suc (ghb_rank (event t j)) else 0

  -- The top of an access is one more than its rank in global happens-before.
  pub top_access : (e : MemoryEvent) → accesses e ≡ true → top e.thread e.position ≡ suc (ghb_rank e)
  top_access e a = cond-true (accesses e) (suc (ghb_rank e)) 0 a

  -- The top of an event that is no access is 0.
  pub top_other : (e : MemoryEvent) → accesses e ≡ false → top e.thread e.position ≡ 0
  top_other e a = cond-false (accesses e) (suc (ghb_rank e)) 0 a

  -- An event's anchored number: the greatest top of the events of its thread up to itself.
  abbrev pub anchored : MemoryEvent → ℕ
  anchored e = anchor (top e.thread) (thread_code x.paths e.thread) e.position

  -- No position is as high as the number of all instructions.
  abbrev pub width : ℕ
  width = size test.threads

  -- An event's rank: by its anchored number, and among equal ones by its position.
  abbrev pub rank : MemoryEvent → ℕ
  rank e = level width (anchored e) + e.position

  -- The ranks increase along program order.
  pub rank_increases-Po : (a b : MemoryEvent) → Po x a b → rank a < rank b
  rank_increases-Po a b po =
      let le : anchored a ≤ anchored b =
      anchor_least (top a.thread) (thread_code x.paths a.thread) a.position (anchored b) (λ k c le.
      subst (λ t. Contains (thread_code x.paths t) k → top t k ≤ anchored b) (sym po.same_thread)
      (λ d. anchor_above (top b.thread) (thread_code x.paths b.thread) b.position k d (omega (arith, le, po.position_lt))) c) in
      omega (arith, level-le width (anchored a) (anchored b) le, po.position_lt)

  -- The anchored number of an access is at least its own top.
  pub anchored_at_least_top : (e : MemoryEvent) → IsEvent x e → accesses e ≡ true → suc (ghb_rank e) ≤ anchored e
  anchored_at_least_top e is_event a = omega (
    arith,
    top_access e a,
    anchor_above (top e.thread) (thread_code x.paths e.thread) e.position e.position is_event (omega arith),
  )

  -- If all accesses before an access in its thread have lower ranks in global happens-before, its anchored number is at most its own top.
  pub anchored_at_most_top : (e : MemoryEvent)
      → IsEvent x e
      → accesses e ≡ true
      → ((k : MemoryEvent) → Po x k e → accesses k ≡ true → ghb_rank k < ghb_rank e)
      → anchored e ≤ suc (ghb_rank e)
  anchored_at_most_top e is_event a each =
      anchor_least (top e.thread) (thread_code x.paths e.thread) e.position (suc (ghb_rank e))
      (λ k c le. elim (cases_Bool (accesses (event e.thread k))) [
        | inl h ↦ elim (cases_eq k e.position) [
          | inl same_position ↦
              (let same_event : event e.thread k ≡ e = ap (event e.thread) same_position in
              omega (arith, top_access (event e.thread k) h, ap ghb_rank same_event))
          | inr positions_differ ↦ omega (
            arith,
            top_access (event e.thread k) h,
            each (event e.thread k) (record {
              first_event = c;
              second_event = is_event;
              same_thread = refl;
              position_lt = omega (arith, le, positions_differ);
            }) h,
          )
        ]
        | inr h ↦ omega (arith, top_other (event e.thread k) h)
      ])

  -- The anchored number of a write is at most its own top, since all before it in its thread have lower ranks.
  pub anchored_at_most_top-of_write : (w : MemoryEvent) → IsEvent x w → has_kind writes w ≡ true → anchored w ≤ suc (ghb_rank w)
  anchored_at_most_top-of_write w is_event writing =
      anchored_at_most_top w is_event (or_right (has_kind reads w) _ writing)
      (λ k po a. ghb_rank_increases-Po_to_write k w po writing)

  -- What reads is an access.
  pub is_access-of_read : (e : MemoryEvent) → has_kind reads e ≡ true → accesses e ≡ true
  is_access-of_read e r = or_left (has_kind reads e) _ r

  -- What writes is an access.
  pub is_access-of_write : (e : MemoryEvent) → has_kind writes e ≡ true → accesses e ≡ true
  is_access-of_write e w = or_right (has_kind reads e) _ w

  -- An access with a greater rank in global happens-before than a write has also a greater `rank`.
  rank_increases-write_then_access : (w e : MemoryEvent) (l : ℕ)
      → Writes x86_language test x w l
      → IsEvent x e
      → accesses e ≡ true
      → ghb_rank w < ghb_rank e
      → rank w < rank e
  rank_increases-write_then_access w e l writing is_event a less =
      let lower : anchored w < anchored e =
      omega (
        arith,
        anchored_at_most_top-of_write w writing.is_event writing.is_write,
        anchored_at_least_top e is_event a,
        less,
      ) in
      omega (arith, level-lt width (anchored w) (anchored e) lower, position_below_size test w l writing.location_is)

  -- The ranks increase along reads-from.
  pub rank_increases-Rf : (w r : MemoryEvent) → Rf x86_language test x w r → rank w < rank r
  rank_increases-Rf w r rf = elim (cases_eq w.thread r.thread) [
    | inr threads_differ ↦
        rank_increases-write_then_access w r rf.on_location rf.write rf.read.is_event (is_access-of_read r rf.read.is_read)
        (axioms.happens_before.increases w r (inr (inl (record { rf = rf; threads_differ = threads_differ }))))
    | inl same_thread ↦ elim (cases_order w.position r.position) [
      | inl same_position ↦
          absurd (let same_event : w ≡ r = ap₂ event same_thread same_position in
          omega (arith, axioms.coherence.increases w r (inr (inl rf)), ap axioms.coherence.rank same_event))
      | inr (inl position_lt) ↦ rank_increases-Po w r (record {
        first_event = rf.write.is_event;
        second_event = rf.read.is_event;
        same_thread = same_thread;
        position_lt = position_lt;
      })
      | inr (inr position_gt) ↦ absurd (omega (
        arith,
        axioms.coherence.increases w r (inr (inl rf)),
        axioms.coherence.increases r w (inl (record {
          po = record {
            first_event = rf.read.is_event;
            second_event = rf.write.is_event;
            same_thread = sym same_thread;
            position_lt = position_gt;
          };
          on_location = rf.on_location;
          first_location_is = rf.read.location_is;
          second_location_is = rf.write.location_is;
        })),
      ))
    ]
  ]

  -- A read from the same thread reads what precedes it.
  pub Po-Rf_in_thread : (w r : MemoryEvent) → Rf x86_language test x w r → w.thread ≡ r.thread → Po x w r
  Po-Rf_in_thread w r rf same_thread = elim (cases_order w.position r.position) [
    | inl same_position ↦
        absurd (let same_event : w ≡ r = ap₂ event same_thread same_position in
        omega (arith, axioms.coherence.increases w r (inr (inl rf)), ap axioms.coherence.rank same_event))
    | inr (inl position_lt) ↦ record {
      first_event = rf.write.is_event;
      second_event = rf.read.is_event;
      same_thread = same_thread;
      position_lt = position_lt;
    }
    | inr (inr position_gt) ↦ absurd (omega (
      arith,
      axioms.coherence.increases w r (inr (inl rf)),
      axioms.coherence.increases r w (inl (record {
        po = record {
          first_event = rf.read.is_event;
          second_event = rf.write.is_event;
          same_thread = sym same_thread;
          position_lt = position_gt;
        };
        on_location = rf.on_location;
        first_location_is = rf.read.location_is;
        second_location_is = rf.write.location_is;
      })),
    ))
  ]

  -- The ranks increase along from-reads within a thread.
  pub rank_increases-Fr_in_thread : (r w : MemoryEvent) → Fr x86_language test x r w → r.thread ≡ w.thread → rank r < rank w
  rank_increases-Fr_in_thread r w fr same_thread = elim (cases_order r.position w.position) [
    | inl same_position ↦ absurd (fr.events_differ (ap₂ event same_thread same_position))
    | inr (inl position_lt) ↦ rank_increases-Po r w (record {
      first_event = fr.read.is_event;
      second_event = fr.write.is_event;
      same_thread = same_thread;
      position_lt = position_lt;
    })
    | inr (inr position_gt) ↦ absurd (omega (
      arith,
      axioms.coherence.increases r w (inr (inr (inr fr))),
      axioms.coherence.increases w r (inl (record {
        po = record {
          first_event = fr.write.is_event;
          second_event = fr.read.is_event;
          same_thread = sym same_thread;
          position_lt = position_gt;
        };
        on_location = fr.on_location;
        first_location_is = fr.write.location_is;
        second_location_is = fr.read.location_is;
      })),
    ))
  ]

  -- The ranks increase along from-reads of a read whose anchored number is at most its own top.
  pub rank_increases-Fr_of_low_anchor : (r w : MemoryEvent)
      → Fr x86_language test x r w
      → anchored r ≤ suc (ghb_rank r)
      → rank r < rank w
  rank_increases-Fr_of_low_anchor r w fr stands =
      let less = axioms.happens_before.increases r w (inr (inr (inr fr))) in
      let lower : anchored r < anchored w =
      omega (arith, stands, anchored_at_least_top w fr.write.is_event (is_access-of_write w fr.write.is_write), less) in
      omega (arith, level-lt width (anchored r) (anchored w) lower, position_below_size test r fr.on_location fr.read.location_is)

  -- The ranks increase along coherence order.
  pub rank_increases-Co : (w v : MemoryEvent) → Co x86_language test x w v → rank w < rank v
  rank_increases-Co w v co =
      rank_increases-write_then_access w v co.on_location co.first_write co.second_write.is_event
      (is_access-of_write v co.second_write.is_write) (axioms.happens_before.increases w v (inr (inr (inl co))))

  -- If the ranks increase along all from-reads, the execution is sequentially consistent.
  pub IsSequentiallyConsistent-rank_increases : ((r w : MemoryEvent) → Fr x86_language test x r w → rank r < rank w)
      → IsSequentiallyConsistent x86_language test x
  IsSequentiallyConsistent-rank_increases fr_up = record {
    rank = rank;
    increases = λ a b. elim [
      | inl po ↦ rank_increases-Po a b po
      | inr (inl rf) ↦ rank_increases-Rf a b rf
      | inr (inr (inl co)) ↦ rank_increases-Co a b co
      | inr (inr (inr fr)) ↦ fr_up a b fr
    ];
  }
