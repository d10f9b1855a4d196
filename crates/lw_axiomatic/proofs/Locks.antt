-- Critical sections of a lock do not overlap. Of two acquisitions take the one that is later in coherence order. It finds the lock
-- free, so it reads from a release, since the other, which comes between it and the initial word, leaves the lock taken. That release is
-- the other's own, or one of an acquisition before which the other's critical section is over, by induction along coherence order.
use Rattle.lw_axiomatic.proofs.Common.{◌≡◌, ℕ, zero, suc, ◌<◌, ◌⊎◌, inl, inr, true, false, Option, Some, None}
use Rattle.lw_axiomatic.proofs.Common.{refl, sym, ap, ◌∙◌, subst, arith, true≢false, option_map_or, or_cases}
use Rattle.lw_axiomatic.proofs.Common.{or_left, or_right, cases_eq, cases_order, Operation, Store, is_store}
use Rattle.lw_axiomatic.proofs.Common.{is_locked, writes, x86_language, X86Test, MemoryEvent, Execution}
use Rattle.lw_axiomatic.proofs.Common.{reads, operation_is, Writes, Po, Rf, Co, IsCandidate, IsReadFrom}
use Rattle.lw_axiomatic.proofs.Common.{SatisfiesAxioms, HappensBefore, FinalState, Acquires, Releases}
use Rattle.lw_axiomatic.proofs.Common.{IsOrderedBefore, IsUsedAsLock, IsOverBefore}
use Rattle.lw_axiomatic.proofs.Anchored.{Po-Rf_in_thread}
use Rattle.lw_axiomatic.proofs.Atomic.{IsAtomic-GlobalHappensBefore, source_precedes_locked_in_co}
use Rattle.lw_axiomatic.proofs.CoherenceLaws.{Co-total, CoWW-Coherence}
use Rattle.lw_axiomatic.proofs.EventKinds.{reads-if_locked_event, writes-if_locked_event}

-- An operation that writes is a plain store or a locked one.
store_or_locked : (q : Option Operation)
    → option_map_or writes q false ≡ true
    → (option_map_or is_store q false ≡ true) ⊎ (option_map_or is_locked q false ≡ true)
store_or_locked None e = absurd (true≢false (sym e))
store_or_locked (Some o) e = or_cases (is_store o) _ e

-- No operation is both a plain store and locked.
not-is_locked-if_store : (q : Option Operation)
    → option_map_or is_store q false ≡ true
    → option_map_or is_locked q false ≡ true
    → ⊥
not-is_locked-if_store None store locked = true≢false (sym store)
not-is_locked-if_store (Some (Store y v)) store locked = true≢false (sym locked)
not-is_locked-if_store (Some _) store locked = true≢false (sym store)

module _ (test : X86Test) (x : Execution) where
  -- An event that comes before another in global happens-before precedes it (`IsOrderedBefore`).
  IsOrderedBefore-step : (a b : MemoryEvent) → HappensBefore test x a b → IsOrderedBefore test x a b
  IsOrderedBefore-step a b step rank up = up a b step

  -- `IsOrderedBefore` is transitive.
  IsOrderedBefore-trans : (a b c : MemoryEvent)
      → IsOrderedBefore test x a b
      → IsOrderedBefore test x b c
      → IsOrderedBefore test x a c
  IsOrderedBefore-trans a b c first second rank up = omega (arith, first rank up, second rank up)

  -- An event precedes a later write of its thread.
  IsOrderedBefore-write : (a w : MemoryEvent)
      → Po x a w
      → operation_is x86_language test writes w ≡ true
      → IsOrderedBefore test x a w
  IsOrderedBefore-write a w po writing =
      IsOrderedBefore-step a w
      (inl (record { po = po; is_preserved = or_right (operation_is x86_language test reads a) _ (or_left _ _ writing) }))

  -- An event that reads precedes each later event of its thread.
  IsOrderedBefore-read : (r b : MemoryEvent)
      → Po x r b
      → operation_is x86_language test reads r ≡ true
      → IsOrderedBefore test x r b
  IsOrderedBefore-read r b po reading = IsOrderedBefore-step r b (inl (record { po = po; is_preserved = or_left _ _ reading }))

  -- What is before a release in its thread precedes what is after an acquisition that the release precedes.
  pub IsOrderedBefore-sections : (l : ℕ) (r s u a b : MemoryEvent)
      → Acquires test x l s
      → Releases test x l r u
      → IsOrderedBefore test x u s
      → Po x a u
      → Po x s b
      → IsOrderedBefore test x a b
  IsOrderedBefore-sections l r s u a b acquires releases order before after =
      IsOrderedBefore-trans a u b (IsOrderedBefore-write a u before releases.writes.is_write)
      (IsOrderedBefore-trans u s b order (IsOrderedBefore-read s b after (reads-if_locked_event test s acquires.locked)))

module _ {test : X86Test} {x : Execution} {o : FinalState} (candidate : IsCandidate x86_language test x o)
    (axioms : SatisfiesAxioms test x) (l : ℕ) (lock : IsUsedAsLock test x l) where
  -- The event takes the lock.
  abbrev Take : MemoryEvent → Type 0
  Take = Acquires test x l

  -- An acquisition writes the lock.
  Writes-of_take : (r : MemoryEvent) → Take r → Writes x86_language test x r l
  Writes-of_take r take = record {
    is_event = take.reads.is_event;
    location_is = take.reads.location_is;
    is_write = writes-if_locked_event test r take.locked;
  }

  -- Of two events, the first in global happens-before is not the second in coherence order.
  not-Co-IsOrderedBefore : (a b : MemoryEvent) → IsOrderedBefore test x a b → Co x86_language test x b a → ⊥
  not-Co-IsOrderedBefore a b order co =
      let g = axioms.happens_before in omega (arith, order g.rank g.increases, g.increases b a (inr (inr (inl co))))

  -- A write that a locked instruction reads from precedes it.
  IsOrderedBefore-Rf_to_locked : (u s : MemoryEvent)
      → Rf x86_language test x u s
      → operation_is x86_language test is_locked s ≡ true
      → IsOrderedBefore test x u s
  IsOrderedBefore-Rf_to_locked u s rf locked = elim (cases_eq u.thread s.thread) [
    | inr threads_differ ↦ IsOrderedBefore-step test x u s (inr (inl (record { rf = rf; threads_differ = threads_differ })))
    | inl same_thread ↦
        IsOrderedBefore-write test x u s (Po-Rf_in_thread axioms u s rf same_thread) (writes-if_locked_event test s locked)
  ]

  -- An acquisition has one release at most.
  Releases-unique : (r u v : MemoryEvent) → Releases test x l r u → Releases test x l r v → u ≡ v
  Releases-unique r u v first second = elim (cases_order u.position v.position) [
    | inl same_position ↦ events_equal-same_position same_position
    | inr (inl position_lt) ↦
        absurd (second.first u first.po (record {
          first_event = first.po.second_event;
          second_event = second.po.second_event;
          same_thread = sym first.po.same_thread ∙ second.po.same_thread;
          position_lt = position_lt;
        }) first.writes)
    | inr (inr position_gt) ↦
        absurd (first.first v second.po (record {
          first_event = second.po.second_event;
          second_event = first.po.second_event;
          same_thread = sym second.po.same_thread ∙ first.po.same_thread;
          position_lt = position_gt;
        }) second.writes)
  ]
    where
      -- Two releases at one position are one.
      events_equal-same_position : u.position ≡ v.position → u ≡ v
      events_equal-same_position same =
          let thread : u.thread ≡ v.thread = sym first.po.same_thread ∙ second.po.same_thread in
          ap (λ t. let e : MemoryEvent = record { thread = t; position = u.position } in e) thread
          ∙ ap (λ j. let e : MemoryEvent = record { thread = v.thread; position = j } in e) same

  -- Of two acquisitions, of which the later has an index below n in coherence order, the earlier has ended its critical section
  -- when the later acquires.
  abbrev EachOverBefore : ℕ → Type 0
  EachOverBefore n = (s r : MemoryEvent) → x.co s < n → Take s → Take r → Co x86_language test x r s → IsOverBefore test x l r s

  -- `EachOverBefore` holds of each n, by induction on n.
  EachOverBefore-each : (n : ℕ) → EachOverBefore n
  EachOverBefore-each zero s r below take_s take_r co = absurd (omega (arith, below))
  EachOverBefore-each (suc n) s r below take_s take_r co =
      IsOverBefore-of_source (EachOverBefore-each n) (x.rf s) refl (candidate.rf s l take_s.reads)
    where
      -- If s reads from a store, this store is a release of an acquisition: of r, or of one after r.
      IsOverBefore-of_release : EachOverBefore n
          → (u : MemoryEvent)
          → Writes x86_language test x u l
          → x.rf s ≡ Some u
          → operation_is x86_language test is_store u ≡ true
          → IsOverBefore test x l r s
      IsOverBefore-of_release again u writing source_is store =
          let rf : Rf x86_language test x u s =
          record { on_location = l; write = writing; read = take_s.reads; source_is = source_is } in
          let order : IsOrderedBefore test x u s = IsOrderedBefore-Rf_to_locked u s rf take_s.locked in
          let less : x.co u < x.co s =
          source_precedes_locked_in_co candidate axioms.coherence s u l take_s.reads (Writes-of_take s take_s) source_is in
          let held = lock.released u writing store in
          let m : MemoryEvent = held.0 in
          let after : Co x86_language test x m u =
          CoWW-Coherence candidate axioms.coherence m u l held.2.po (Writes-of_take m held.1) writing in
          elim (Co-total candidate axioms.coherence r m l (Writes-of_take r take_r) (Writes-of_take m held.1)) [
            | inl same ↦ (u, subst (λ (z : MemoryEvent). Releases test x l z u) (sym same) held.2, order)
            | inr (inl earlier) ↦
                (let rest = again m r (omega (arith, below, less, after.co_lt)) held.1 take_r earlier in (
                  rest.0,
                  rest.1,
                  IsOrderedBefore-trans test x rest.0 m s rest.2
                      (IsOrderedBefore-trans test x m u s
                      (IsOrderedBefore-read test x m u held.2.po (reads-if_locked_event test m held.1.locked)) order),
                ))
            | inr (inr later) ↦ absurd (elim (Co-total candidate axioms.coherence r u l (Writes-of_take r take_r) writing) [
              | inl same ↦
                  not-is_locked-if_store _ store
                  (subst (λ (z : MemoryEvent). operation_is x86_language test is_locked z ≡ true) same take_r.locked)
              | inr (inr between) ↦
                  (IsAtomic-GlobalHappensBefore test x axioms.happens_before).after_write s u r take_s.locked rf between co
              | inr (inl co_after) ↦
                  (let rest = again r m (omega (arith, below, less, co_after.co_lt)) take_r held.1 later in
                  let same : rest.0 ≡ u = Releases-unique m rest.0 u rest.1 held.2 in
                  not-Co-IsOrderedBefore u r (subst (λ (z : MemoryEvent). IsOrderedBefore test x z r) same rest.2) co_after)
            ])
          ]

      -- By what s reads from: it is a store, since locked instructions leave the lock taken.
      IsOverBefore-of_source : EachOverBefore n
          → (q : Option MemoryEvent)
          → x.rf s ≡ q
          → IsReadFrom x86_language test x s l q
          → IsOverBefore test x l r s
      IsOverBefore-of_source again None source_is is =
          absurd ((IsAtomic-GlobalHappensBefore test x axioms.happens_before).after_initial s r take_s.locked source_is co)
      IsOverBefore-of_source again (Some u) source_is is = elim (store_or_locked _ is.write.is_write) [
        | inl store ↦ IsOverBefore-of_release again u is.write source_is store
        | inr locked ↦ absurd (lock.taken u is.write locked (sym is.word_is ∙ take_s.free))
      ]

  -- Of two acquisitions one has ended its critical section when the other acquires.
  pub IsOverBefore-total : (r s : MemoryEvent)
      → Acquires test x l r
      → Acquires test x l s
      → (r ≡ s) ⊎ (IsOverBefore test x l r s ⊎ IsOverBefore test x l s r)
  IsOverBefore-total r s take_r take_s =
      elim (Co-total candidate axioms.coherence r s l (Writes-of_take r take_r) (Writes-of_take s take_s)) [
        | inl same ↦ inl same
        | inr (inl co) ↦ inr (inl (EachOverBefore-each (suc (x.co s)) s r (omega arith) take_s take_r co))
        | inr (inr co) ↦ inr (inr (EachOverBefore-each (suc (x.co r)) r s (omega arith) take_r take_s co))
      ]
