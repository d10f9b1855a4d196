-- Locked instructions are atomic, by global happens-before: no write comes between what one reads and what it
-- writes. And no word comes out of thin air, by the times of an execution. Two laws for programmers cite
-- these lemmas; Locks needs the first.
use Rattle.lw_axiomatic.proofs.Common.{◌≡◌, ◌<◌, ◌≤◌, ◌⊎◌, inl, inr, ⊎_elim, sym, ap, ◌∙◌, subst, arith, ℕ}
use Rattle.lw_axiomatic.proofs.Common.{true, Some, none-some, cases_Bool, same_Some, ForSome, FinalState}
use Rattle.lw_axiomatic.proofs.Common.{is_locked, is_store, x86_language, X86Test, Acyclic, Coherence}
use Rattle.lw_axiomatic.proofs.Common.{GlobalHappensBefore, SatisfiesAxioms, IsCandidate, IsReadFrom}
use Rattle.lw_axiomatic.proofs.Common.{MemoryEvent, Execution, operation_is, Reads, Writes, Po, Rf, Co, Fr}
use Rattle.lw_axiomatic.proofs.Common.{IsAtomic, IsNewest, HasTimes}
use Rattle.lw_axiomatic.proofs.CoherenceLaws.{Co-total}
use Rattle.lw_axiomatic.proofs.EventKinds.{reads-if_locked_event, writes-if_locked_event}

-- What a locked instruction reads from comes before it in coherence order.
pub source_precedes_locked_in_co : {test : X86Test} {x : Execution} {o : FinalState}
    (candidate : IsCandidate x86_language test x o) (coherence : Coherence test x) (r u : MemoryEvent) (l : ℕ)
    → Reads x86_language test x r l
    → Writes x86_language test x r l
    → x.rf r ≡ Some u
    → x.co u < x.co r
source_precedes_locked_in_co {test} {x} candidate coherence r u l reading writing source_is =
    let source : Writes x86_language test x u l =
    (subst (IsReadFrom x86_language test x r l) source_is (candidate.rf r l reading)).write in
    let rf : Rf x86_language test x u r = record { on_location = l; write = source; read = reading; source_is = source_is } in
    elim (Co-total candidate coherence u r l source writing) [
      | inl same ↦ absurd (omega (arith, coherence.increases u r (inr (inl rf)), ap coherence.rank same))
      | inr (inl co) ↦ co.co_lt
      | inr (inr co) ↦
          absurd (omega (arith, coherence.increases u r (inr (inl rf)), coherence.increases r u (inr (inr (inl co)))))
    ]

module _ (test : X86Test) (x : Execution) where
  -- If global happens-before has no cycle, no write that comes after an event in from-reads comes before it in coherence order.
  not-both_Fr_and_Co : GlobalHappensBefore test x
      → (r v : MemoryEvent)
      → Fr x86_language test x r v
      → Co x86_language test x v r
      → ⊥
  not-both_Fr_and_Co acyclic r v fr co =
      omega (arith, acyclic.increases r v (inr (inr (inr fr))), acyclic.increases v r (inr (inr (inl co))))

  -- If a write comes before a locked instruction in coherence order, and after what the instruction reads from, if that is a
  -- write, the instruction comes before it in from-reads.
  Fr-locked_source_before_write : (r v : MemoryEvent)
      → operation_is x86_language test is_locked r ≡ true
      → Co x86_language test x v r
      → ForSome (x.rf r) (λ u. x.co u < x.co v)
      → Fr x86_language test x r v
  Fr-locked_source_before_write r v locked co before = record {
    on_location = co.on_location;
    read = record {
      is_event = co.second_write.is_event;
      location_is = co.second_write.location_is;
      is_read = reads-if_locked_event test r locked;
    };
    write = co.first_write;
    events_differ = λ same. omega (arith, co.co_lt, ap x.co same);
    source_before = before;
  }

  -- If global happens-before has no cycle, no write comes in coherence order between what a locked instruction reads and what
  -- it writes.
  pub IsAtomic-GlobalHappensBefore : GlobalHappensBefore test x → IsAtomic test x
  IsAtomic-GlobalHappensBefore h = record {
    after_write = λ r w v locked rf before co.
        not-both_Fr_and_Co h r v (Fr-locked_source_before_write r v locked co (λ u is_some.
        (let source : w ≡ u = same_Some w u (sym rf.source_is ∙ is_some) in
        subst (λ (z : MemoryEvent). x.co z < x.co v) source before.co_lt))) co;
    after_initial = λ r v locked from co.
        not-both_Fr_and_Co h r v
        (Fr-locked_source_before_write r v locked co (λ u is_some. absurd (none-some u (sym from ∙ is_some)))) co;
  }

  -- If an execution has times, program order and reads-from together have no cycle.
  pub Acyclic-po_and_rf : HasTimes test x → Acyclic (λ a b. Po x a b ⊎ Rf x86_language test x a b)
  Acyclic-po_and_rf t = record {
    rank = t.done;
    increases = λ a b. elim [
      | inl po ↦ t.timed.po a b po
      | inr rf ↦
          ⊎_elim (λ early.
          (let no_later : t.done a ≤ t.reached a = elim (cases_Bool (operation_is x86_language test is_store a)) [
            | inl a_stores ↦ (let lt = t.timed.later a rf.write.is_event a_stores in omega (arith, lt))
            | inr a_not_store ↦ omega (arith, t.timed.at_once a a_not_store)
          ] in
          omega (arith, no_later, early))) (λ po. t.timed.po a b po)
          (subst (IsNewest test x t.done t.reached b rf.on_location) rf.source_is
          (t.timed.newest b rf.on_location rf.read)).is_before
    ];
  }

-- If a locked instruction reads what another event of its location reads, that event does not come before it in coherence order.
not-Co-same_source : (test : X86Test) (x : Execution) (o : FinalState)
    → IsCandidate x86_language test x o
    → SatisfiesAxioms test x
    → (r s : MemoryEvent) (l : ℕ)
    → operation_is x86_language test is_locked s ≡ true
    → Reads x86_language test x r l
    → x.rf r ≡ x.rf s
    → Co x86_language test x r s
    → ⊥
not-Co-same_source test x o candidate axioms r s l locked reading same_source co =
    let m : co.on_location ≡ l = same_Some co.on_location l (sym co.first_write.location_is ∙ reading.location_is) in
    let writing : Writes x86_language test x r l = subst (Writes x86_language test x r) m co.first_write in
    not-both_Fr_and_Co test x axioms.happens_before s r (Fr-locked_source_before_write test x s r locked co
    (λ u is_some. source_precedes_locked_in_co candidate axioms.coherence r u l reading writing (same_source ∙ is_some))) co

-- Two locked instructions that read the same write, or both the initial word of a location, are one.
pub locked_events_equal-same_source : (test : X86Test) (x : Execution) (o : FinalState)
    → IsCandidate x86_language test x o
    → SatisfiesAxioms test x
    → (r s : MemoryEvent) (l : ℕ)
    → operation_is x86_language test is_locked r ≡ true
    → operation_is x86_language test is_locked s ≡ true
    → Reads x86_language test x r l
    → Reads x86_language test x s l
    → x.rf r ≡ x.rf s
    → r ≡ s
locked_events_equal-same_source test x o candidate axioms r s l locked_r locked_s reading_r reading_s same_source =
    elim (Co-total candidate axioms.coherence r s l (record {
      is_event = reading_r.is_event;
      location_is = reading_r.location_is;
      is_write = writes-if_locked_event test r locked_r;
    }) (record {
      is_event = reading_s.is_event;
      location_is = reading_s.location_is;
      is_write = writes-if_locked_event test s locked_s;
    })) [
      | inl one ↦ one
      | inr (inl co) ↦ absurd (not-Co-same_source test x o candidate axioms r s l locked_s reading_r same_source co)
      | inr (inr co) ↦ absurd (not-Co-same_source test x o candidate axioms s r l locked_r reading_s (sym same_source) co)
    ]
