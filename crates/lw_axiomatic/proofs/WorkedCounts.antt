-- The spin lock with two threads counts both if both were inside. The critical section of one, a, is over when the other, b, acquires
-- the lock. So b loads the count that a has stored, which is 1, since a cannot have loaded what b stores; b stores 2, and last.
use Rattle.lw_axiomatic.proofs.Common.{Contains-singleton, ◌&&◌, Contains, or_left, is_true, one_is_lost, ◌≡◌}
use Rattle.lw_axiomatic.proofs.Common.{◌≢◌, ℕ, ◌<◌, ◌⊎◌, ◌==◌, inl, inr, true, false, Option, Some, None}
use Rattle.lw_axiomatic.proofs.Common.{List, [], refl, sym, ap, ◌∙◌, subst, arith, none-some, cases_Bool}
use Rattle.lw_axiomatic.proofs.Common.{cases_eq, eqb-true, and_parts, slice_index, slice_index_or}
use Rattle.lw_axiomatic.proofs.Common.{thread_code, FinalState, x86_language, writes, X86Test, MemoryEvent}
use Rattle.lw_axiomatic.proofs.Common.{Execution, IsEvent, Po, reads, Reads, Writes, Rf, Fr, operation_is}
use Rattle.lw_axiomatic.proofs.Common.{IsCandidate, IsReadFrom, SatisfiesAxioms, IsAllowed, IsOverBefore}
use Rattle.lw_axiomatic.proofs.Common.{spin_lock, wrapping_sum}
use Rattle.lw_axiomatic.proofs.Anchored.{Po-Rf_in_thread}
use Rattle.lw_axiomatic.proofs.CoherenceLaws.{Co-total}
use Rattle.lw_axiomatic.proofs.EventLists.{event}
use Rattle.lw_axiomatic.proofs.Locks.{IsOverBefore-total, IsOrderedBefore-sections}
use Rattle.lw_axiomatic.proofs.WorkedLocks.{EntersSection, SpinLockRun-of_thread, IsEvent-of_inside}
use Rattle.lw_axiomatic.proofs.WorkedLocks.{Contains-indices_of_event, kind_at, location_at}
use Rattle.lw_axiomatic.proofs.WorkedLocks.{Acquires-of_inside, IsUsedAsLock-lock, lock_write_positions}
use Rattle.lw_axiomatic.proofs.WorkedLocks.{thread_in_range-of_event, inside_path}

module _ {x : Execution} {o : FinalState} (candidate : IsCandidate x86_language (spin_lock 2) x o)
    (axioms : SatisfiesAxioms (spin_lock 2) x) where
  -- The spin lock with two threads.
  abbrev test : X86Test
  test = spin_lock 2

  -- The rank of an event in global happens-before, which the axiom gives.
  abbrev ghb_rank : MemoryEvent → ℕ
  ghb_rank = axioms.happens_before.rank

  -- Threads a and b are the two threads of the test, and both enter their critical sections.
  record BothInside (a b : ℕ) : Type 0 where
    first : a < 2
    second : b < 2
    threads_differ : a ≢ b
    a_inside : EntersSection x a (thread_code x.paths a)
    b_inside : EntersSection x b (thread_code x.paths b)

  -- Threads a and b may be exchanged in `BothInside`.
  BothInside-symmetric : (a b : ℕ) → BothInside a b → BothInside b a
  BothInside-symmetric a b both = record {
    first = both.second;
    second = both.first;
    threads_differ = λ same. both.threads_differ (sym same);
    a_inside = both.b_inside;
    b_inside = both.a_inside;
  }

  module _ (a b : ℕ) (both : BothInside a b) (over : IsOverBefore test x 1 (event a 4) (event b 4)) where
    -- Thread a does each instruction of its critical section.
    a_did : (j : ℕ) → Contains inside_path j → IsEvent x (event a j)
    a_did j among = IsEvent-of_inside 2 candidate a j both.a_inside among

    -- Thread b does each instruction of its critical section.
    b_did : (j : ℕ) → Contains inside_path j → IsEvent x (event b j)
    b_did j among = IsEvent-of_inside 2 candidate b j both.b_inside among

    -- Thread a loads the count.
    a_loads : Reads x86_language test x (event a 8) 0
    a_loads = record {
      is_event = a_did 8 (8, omega arith, refl);
      location_is = location_at 2 candidate a 8 0 both.first refl;
      is_read = kind_at 2 candidate reads a 8 true both.first refl;
    }

    -- Thread b loads the count.
    b_loads : Reads x86_language test x (event b 8) 0
    b_loads = record {
      is_event = b_did 8 (8, omega arith, refl);
      location_is = location_at 2 candidate b 8 0 both.second refl;
      is_read = kind_at 2 candidate reads b 8 true both.second refl;
    }

    -- Thread a stores the count.
    a_stores : Writes x86_language test x (event a 10) 0
    a_stores = record {
      is_event = a_did 10 (10, omega arith, refl);
      location_is = location_at 2 candidate a 10 0 both.first refl;
      is_write = kind_at 2 candidate writes a 10 true both.first refl;
    }

    -- Thread b stores the count.
    b_stores : Writes x86_language test x (event b 10) 0
    b_stores = record {
      is_event = b_did 10 (10, omega arith, refl);
      location_is = location_at 2 candidate b 10 0 both.second refl;
      is_write = kind_at 2 candidate writes b 10 true both.second refl;
    }

    -- The count is stored by these two events only.
    Writes-cases_of_count : (w : MemoryEvent) → Writes x86_language test x w 0 → (w ≡ event a 10) ⊎ (w ≡ event b 10)
    Writes-cases_of_count w writing =
        let ten : w.position ≡ 10 =
        Contains-singleton 10 w.position
        (Contains-indices_of_event 2 candidate writes 0 w writing.is_event writing.is_write writing.location_is) in
        let is : w ≡ event w.thread 10 = ap (event w.thread) ten in
        elim (cases_eq w.thread a) [
          | inl same_thread ↦ inl (is ∙ ap (λ t. event t 10) same_thread)
          | inr threads_differ ↦
              (let same_thread : w.thread ≡ b = omega (
                arith,
                thread_in_range-of_event 2 candidate w writing.is_event,
                both.first,
                both.second,
                threads_differ,
                both.threads_differ,
              ) in
              inr (is ∙ ap (λ t. event t 10) same_thread))
        ]

    -- What a thread stores, it does not load before.
    no_Rf-to_earlier : (t : ℕ) → Rf x86_language test x (event t 10) (event t 8) → ⊥
    no_Rf-to_earlier t rf = let po = Po-Rf_in_thread axioms (event t 10) (event t 8) rf refl in omega (arith, po.position_lt)

    -- In global happens-before a's load comes before its store.
    a_load_before_store : ghb_rank (event a 8) < ghb_rank (event a 10)
    a_load_before_store = axioms.happens_before.increases (event a 8) (event a 10) (inl (record {
      po = record {
        first_event = a_loads.is_event;
        second_event = a_stores.is_event;
        same_thread = refl;
        position_lt = omega arith;
      };
      is_preserved = or_left (operation_is x86_language test reads (event a 8)) _ a_loads.is_read;
    }))

    -- In global happens-before b's load comes before its store.
    b_load_before_store : ghb_rank (event b 8) < ghb_rank (event b 10)
    b_load_before_store = axioms.happens_before.increases (event b 8) (event b 10) (inl (record {
      po = record {
        first_event = b_loads.is_event;
        second_event = b_stores.is_event;
        same_thread = refl;
        position_lt = omega arith;
      };
      is_preserved = or_left (operation_is x86_language test reads (event b 8)) _ b_loads.is_read;
    }))

    -- In global happens-before a's store comes before b's load, since a's section is over.
    a_store_before_b_load : ghb_rank (event a 10) < ghb_rank (event b 8)
    a_store_before_b_load =
        let u = over.0 in
        let releases = over.1 in
        let last : u.position ≡ 11 = elim (lock_write_positions 2 candidate u releases.writes) [
          | inl four ↦ absurd (omega (arith, four, releases.po.position_lt))
          | inr eleven ↦ eleven
        ] in
        let before : Po x (event a 10) u = record {
          first_event = a_stores.is_event;
          second_event = releases.po.second_event;
          same_thread = releases.po.same_thread;
          position_lt = omega (arith, last);
        } in
        let after : Po x (event b 4) (event b 8) = record {
          first_event = b_did 4 (4, omega arith, refl);
          second_event = b_loads.is_event;
          same_thread = refl;
          position_lt = omega arith;
        } in
        let acquired = Acquires-of_inside 2 candidate b both.second both.b_inside in
        IsOrderedBefore-sections test x 1 (event a 4) (event b 4) u (event a 10) (event b 8) acquired releases over.2 before after
        ghb_rank axioms.happens_before.increases

    -- Thread a loads 0.
    a_reads_zero : (q : Option MemoryEvent)
        → x.rf (event a 8) ≡ q
        → IsReadFrom x86_language test x (event a 8) 0 q
        → x.read (event a 8) ≡ 0
    a_reads_zero None from is = is
    a_reads_zero (Some w) from is = absurd (elim (Writes-cases_of_count w is.write) [
      | inl own ↦ no_Rf-to_earlier a (subst (λ (z : MemoryEvent). Rf x86_language test x z (event a 8)) own
          (record { on_location = 0; write = is.write; read = a_loads; source_is = from }))
      | inr other ↦
          (let rf : Rf x86_language test x (event b 10) (event a 8) =
          subst (λ (z : MemoryEvent). Rf x86_language test x z (event a 8)) other
          (record { on_location = 0; write = is.write; read = a_loads; source_is = from }) in
          let up =
          axioms.happens_before.increases (event b 10) (event a 8)
          (inr (inl (record { rf = rf; threads_differ = λ same. both.threads_differ (sym same) }))) in
          omega (arith, up, a_load_before_store, a_store_before_b_load, b_load_before_store))
    ])

    -- Thread b loads what a has stored.
    b_reads_count_of_a : (q : Option MemoryEvent)
        → x.rf (event b 8) ≡ q
        → IsReadFrom x86_language test x (event b 8) 0 q
        → x.read (event b 8) ≡ x.written (event a 10)
    b_reads_count_of_a None from is =
        absurd (let fr : Fr x86_language test x (event b 8) (event a 10) = record {
          on_location = 0;
          read = b_loads;
          write = a_stores;
          events_differ = λ same. both.threads_differ (sym (ap (λ (z : MemoryEvent). z.thread) same));
          source_before = λ w is_some. absurd (none-some w (sym from ∙ is_some));
        } in
        omega (arith, axioms.happens_before.increases (event b 8) (event a 10) (inr (inr (inr fr))), a_store_before_b_load))
    b_reads_count_of_a (Some w) from is = elim (Writes-cases_of_count w is.write) [
      | inl other ↦ is.word_is ∙ ap x.written other
      | inr own ↦ absurd (no_Rf-to_earlier b (subst (λ (z : MemoryEvent). Rf x86_language test x z (event b 8)) own
          (record { on_location = 0; write = is.write; read = b_loads; source_is = from })))
    ]

    -- Thread b stores 2.
    b_written : x.written (event b 10) ≡ 2
    b_written =
        let zero_read = a_reads_zero (x.rf (event a 8)) refl (candidate.rf (event a 8) 0 a_loads) in
        let one_read = b_reads_count_of_a (x.rf (event b 8)) refl (candidate.rf (event b 8) 0 b_loads) in
        both.b_inside.counts ∙ ap (λ w. wrapping_sum w 1) (one_read ∙ both.a_inside.counts ∙ ap (λ w. wrapping_sum w 1) zero_read)

    -- The last word of the count is 2.
    count_is_two : slice_index o.words 0 ≡ 2
    count_is_two = elim (candidate.words 0 (omega arith)) [
      | inl (none, word) ↦ absurd (none (event a 10) a_stores)
      | inr (e, writing, most, word) ↦ elim (Writes-cases_of_count e writing) [
        | inr is ↦ word ∙ ap x.written is ∙ b_written
        | inl is ↦
            absurd (let up = most (event b 10) b_stores in
            elim (Co-total candidate axioms.coherence (event a 10) (event b 10) 0 a_stores b_stores) [
              | inl same ↦ both.threads_differ (ap (λ (z : MemoryEvent). z.thread) same)
              | inr (inl co) ↦ omega (arith, co.co_lt, up, ap x.co is)
              | inr (inr co) ↦ omega (
                arith,
                axioms.happens_before.increases (event b 10) (event a 10) (inr (inr (inl co))),
                a_store_before_b_load,
                b_load_before_store,
              )
            ])
      ]
    ]

  -- A thread whose ESI is 1 was inside.
  EntersSection-esi_is_one : (t : ℕ)
      → t < 2
      → slice_index (slice_index_or o.regs t []) 4 ≡ 1
      → EntersSection x t (thread_code x.paths t)
  EntersSection-esi_is_one t in_range one =
      let run = SpinLockRun-of_thread 2 candidate t in_range in
      elim run.1 [
        | inl turned ↦ absurd (omega (arith, one, ap (λ (regs : List ℕ). slice_index regs 4) run.2, turned.outside))
        | inr (inl tried) ↦ absurd (omega (arith, one, ap (λ (regs : List ℕ). slice_index regs 4) run.2, tried.outside))
        | inr (inr entered) ↦ entered
      ]

  -- If both threads were inside, both are counted.
  count_is_two-both_inside : (zero_inside : slice_index (slice_index_or o.regs 0 []) 4 ≡ 1)
      → slice_index (slice_index_or o.regs 1 []) 4 ≡ 1
      → slice_index o.words 0 ≡ 2
  count_is_two-both_inside first second =
      let both : BothInside 0 1 = record {
        first = omega arith;
        second = omega arith;
        threads_differ = λ same. omega (arith, same);
        a_inside = EntersSection-esi_is_one 0 (omega arith) first;
        b_inside = EntersSection-esi_is_one 1 (omega arith) second;
      } in
      elim (IsOverBefore-total candidate axioms 1 (IsUsedAsLock-lock 2 candidate) (event 0 4) (event 1 4)
      (Acquires-of_inside 2 candidate 0 (omega arith) both.a_inside)
      (Acquires-of_inside 2 candidate 1 (omega arith) both.b_inside)) [
        | inl same ↦ absurd (let bad : 0 ≡ 1 = ap (λ (z : MemoryEvent). z.thread) same in omega (arith, bad))
        | inr (inl over) ↦ count_is_two 0 1 both over
        | inr (inr over) ↦ count_is_two 1 0 (BothInside-symmetric 0 1 both) over
      ]

-- No outcome that the axioms allow loses one of the two.
pub none_lost : (o : FinalState) → IsAllowed (spin_lock 2) o → is_true one_is_lost o ≡ false
none_lost o allowed =
    let first = slice_index (slice_index_or o.regs 0 []) 4 in
    let second = slice_index (slice_index_or o.regs 1 []) 4 in
    let count = slice_index o.words 0 in
    elim (cases_Bool (is_true one_is_lost o)) [
      | inr not_lost ↦ not_lost
      | inl lost ↦
          absurd (let all = and_parts ((first == 1) && (second == 1)) (count == 1) lost in
          let both = and_parts (first == 1) (second == 1) all.0 in
          let two =
          count_is_two-both_inside allowed.candidate allowed.axioms (eqb-true first 1 both.0) (eqb-true second 1 both.1) in
          omega (arith, two, eqb-true count 1 all.1))
    ]
