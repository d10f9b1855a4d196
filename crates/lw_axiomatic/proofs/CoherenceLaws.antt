-- The coherence laws of one location hold of candidates that satisfy the axiom of coherence. Each law is one
-- cycle that coherence excludes. The law on accesses of one location cites them; locks need them too.
use Rattle.lw_axiomatic.proofs.Common.{◌≡◌, ℕ, ◌<◌, ◌⊎◌, inl, inr, Option, Some, None, refl, sym, ap, ◌∙◌}
use Rattle.lw_axiomatic.proofs.Common.{subst, arith, cases_order, none-some, same_Some, FinalState}
use Rattle.lw_axiomatic.proofs.Common.{x86_language, X86Test, Coherence, IsReadFrom, IsCandidate, CoWW, CoWR}
use Rattle.lw_axiomatic.proofs.Common.{CoRW, CoRR, MemoryEvent, Execution, Po, location, Reads, Writes, Rf}
use Rattle.lw_axiomatic.proofs.Common.{Co, Fr}

module _ {test : X86Test} {x : Execution} {o : FinalState} (candidate : IsCandidate x86_language test x o)
    (coherence : Coherence test x) where
  -- The rank of an event that coherence gives.
  abbrev coherence_rank : MemoryEvent → ℕ
  coherence_rank = coherence.rank

  -- The ranks increase along program order of accesses of one location.
  coherence_rank_increases-Po_on_location : (a b : MemoryEvent) (l : ℕ)
      → Po x a b
      → Reads x86_language test x a l ⊎ Writes x86_language test x a l
      → Reads x86_language test x b l ⊎ Writes x86_language test x b l
      → coherence_rank a < coherence_rank b
  coherence_rank_increases-Po_on_location a b l po la lb = coherence.increases a b (inl (record {
    po = po;
    on_location = l;
    first_location_is = location_is-of_access a la;
    second_location_is = location_is-of_access b lb;
  }))
    where
      -- An access has its location.
      location_is-of_access : (e : MemoryEvent)
          → Reads x86_language test x e l ⊎ Writes x86_language test x e l
          → location x86_language test e ≡ Some l
      location_is-of_access e (inl r) = r.location_is
      location_is-of_access e (inr w) = w.location_is

  -- The ranks of coherence increase along from-reads.
  coherence_rank_increases-Fr : (r w : MemoryEvent) → Fr x86_language test x r w → coherence_rank r < coherence_rank w
  coherence_rank_increases-Fr r w fr = coherence.increases r w (inr (inr (inr fr)))

  -- The ranks of coherence increase along coherence order.
  coherence_rank_increases-Co : (w v : MemoryEvent) → Co x86_language test x w v → coherence_rank w < coherence_rank v
  coherence_rank_increases-Co w v co = coherence.increases w v (inr (inr (inl co)))

  -- The ranks of coherence increase along reads-from.
  coherence_rank_increases-Rf : (w r : MemoryEvent) → Rf x86_language test x w r → coherence_rank w < coherence_rank r
  coherence_rank_increases-Rf w r rf = coherence.increases w r (inr (inl rf))

  -- Two writes to a location are equal, or one precedes the other in coherence order.
  pub Co-total : (w v : MemoryEvent) (l : ℕ)
      → Writes x86_language test x w l
      → Writes x86_language test x v l
      → (w ≡ v) ⊎ (Co x86_language test x w v ⊎ Co x86_language test x v w)
  Co-total w v l ww wv = elim (cases_order (x.co w) (x.co v)) [
    | inl same_co ↦ inl (candidate.co w v l ww wv same_co)
    | inr (inl co_lt) ↦ inr (inl (record { on_location = l; first_write = ww; second_write = wv; co_lt = co_lt }))
    | inr (inr co_gt) ↦ inr (inr (record { on_location = l; first_write = wv; second_write = ww; co_lt = co_gt }))
  ]

  -- If a read does not come before a write to its location in from-reads, and is not the write, it reads from it or from a
  -- later one.
  reads_same_or_later-not_Fr : (r w : MemoryEvent) (l : ℕ)
      → Reads x86_language test x r l
      → Writes x86_language test x w l
      → (Fr x86_language test x r w → ⊥)
      → (r ≡ w → ⊥)
      → (v : MemoryEvent) × Rf x86_language test x v r × ((v ≡ w) ⊎ Co x86_language test x w v)
  reads_same_or_later-not_Fr r w l reading writing never differ =
      reads_same_or_later-of_source (x.rf r) refl (candidate.rf r l reading)
    where
      -- By the source of the read: it reads from this write, or from a later one.
      reads_same_or_later-of_source : (q : Option MemoryEvent)
          → x.rf r ≡ q
          → IsReadFrom x86_language test x r l q
          → (v : MemoryEvent) × Rf x86_language test x v r × ((v ≡ w) ⊎ Co x86_language test x w v)
      reads_same_or_later-of_source None source_is is = absurd (never (record {
        on_location = l;
        read = reading;
        write = writing;
        events_differ = differ;
        source_before = λ v is_some. absurd (none-some v (sym source_is ∙ is_some));
      }))
      reads_same_or_later-of_source (Some v) source_is is = (
        v,
        record { on_location = l; write = is.write; read = reading; source_is = source_is },
        elim (Co-total v w l is.write writing) [
          | inl same ↦ inl same
          | inr (inl less) ↦ absurd (never (record {
            on_location = l;
            read = reading;
            write = writing;
            events_differ = differ;
            source_before =
                λ u is_some. subst (λ (z : MemoryEvent). x.co z < x.co w) (same_Some v u (sym source_is ∙ is_some)) less.co_lt;
          }))
          | inr (inr more) ↦ inr more
        ],
      )

  -- No event precedes itself in program order.
  not-equal-Po : (a b : MemoryEvent) → Po x a b → a ≡ b → ⊥
  not-equal-Po a b po same = omega (arith, po.position_lt, ap (λ (z : MemoryEvent). z.position) same)

  -- Of two writes of a thread to one location, the first in program order is the first in coherence order.
  pub CoWW-Coherence : CoWW test x
  CoWW-Coherence w v l po ww wv = elim (Co-total w v l ww wv) [
    | inl same ↦ absurd (not-equal-Po w v po same)
    | inr (inl less) ↦ less
    | inr (inr more) ↦
        absurd (omega (
          arith,
          coherence_rank_increases-Co v w more,
          coherence_rank_increases-Po_on_location w v l po (inr ww) (inr wv),
        ))
  ]

  -- A read after a write of its thread to its location reads from it, or from a later write in coherence order.
  pub CoWR-Coherence : CoWR test x
  CoWR-Coherence w r l po writing reading =
      reads_same_or_later-not_Fr r w l reading writing (λ fr.
      omega (
        arith,
        coherence_rank_increases-Fr r w fr,
        coherence_rank_increases-Po_on_location w r l po (inr writing) (inl reading),
      )) (λ same. not-equal-Po w r po (sym same))

  -- A write after a read of its thread from its location comes after the write that is read, in coherence order.
  pub CoRW-Coherence : CoRW test x
  CoRW-Coherence r w v l po reading writing rf =
      let one : rf.on_location ≡ l = same_Some rf.on_location l (sym rf.read.location_is ∙ reading.location_is) in
      let wv : Writes x86_language test x v l = subst (Writes x86_language test x v) one rf.write in
      elim (Co-total v w l wv writing) [
        | inl same ↦ absurd (omega (
          arith,
          coherence_rank_increases-Rf v r rf,
          coherence_rank_increases-Po_on_location r w l po (inl reading) (inr writing),
          ap coherence_rank same,
        ))
        | inr (inl less) ↦ less
        | inr (inr more) ↦ absurd (omega (
          arith,
          coherence_rank_increases-Rf v r rf,
          coherence_rank_increases-Po_on_location r w l po (inl reading) (inr writing),
          coherence_rank_increases-Co w v more,
        ))
      ]

  -- Of two reads of a thread from one location, the second reads from the write that the first reads from, or from a later one.
  pub CoRR-Coherence : CoRR test x
  CoRR-Coherence r s v l po reading too rf =
      let one : rf.on_location ≡ l = same_Some rf.on_location l (sym rf.read.location_is ∙ reading.location_is) in
      let wv : Writes x86_language test x v l = subst (Writes x86_language test x v) one rf.write in
      let up : coherence_rank v < coherence_rank s =
      omega (
        arith,
        coherence_rank_increases-Rf v r rf,
        coherence_rank_increases-Po_on_location r s l po (inl reading) (inl too),
      ) in
      reads_same_or_later-not_Fr s v l too wv (λ fr. omega (arith, coherence_rank_increases-Fr s v fr, up))
      (λ same. omega (arith, up, ap coherence_rank same))
