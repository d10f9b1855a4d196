-- Coherence order, which an execution gives by ranks, as a relation: its ranks are a total order of each
-- location's writes, and each such relation has ranks. One of the laws that relate the definitions to herd's.
use Rattle.lw_axiomatic.proofs.Common.{◌≡◌, ◌↔◌, ℕ, zero, suc, ◌<◌, inl, inr, Bool, true, sym, ap, ◌∙◌, subst}
use Rattle.lw_axiomatic.proofs.Common.{arith, nat_lt, cases_order, lt-ltb, ltb-true, same_Some, FinalState}
use Rattle.lw_axiomatic.proofs.Common.{x86_language, X86Test, Acyclic, IsCandidate, IsCoherenceOrder, Walk}
use Rattle.lw_axiomatic.proofs.Common.{HasNoCycle, MemoryEvent, Execution, Writes, location}
use Rattle.lw_axiomatic.proofs.Decisions.{Decidable, decided_iff, decided_exists_location, decided_three}
use Rattle.lw_axiomatic.proofs.Decisions.{decided_writes, decided_true, decided_event_equal}
use Rattle.lw_axiomatic.proofs.Numberings.{Acyclic-HasNoCycle}

-- The ranks of a candidate order the writes of each location.
pub IsCoherenceOrder-of_ranks : (test : X86Test) (x : Execution) (o : FinalState)
    → IsCandidate x86_language test x o
    → IsCoherenceOrder x86_language test x (λ w v. nat_lt (x.co w) (x.co v))
IsCoherenceOrder-of_ranks test x o candidate = record {
  irreflexive = λ w l writing before. omega (arith, ltb-true (x.co w) (x.co w) before);
  transitive = λ u v w l wu wv ww first second.
      lt-ltb (x.co u) (x.co w) (omega (arith, ltb-true (x.co u) (x.co v) first, ltb-true (x.co v) (x.co w) second));
  total = λ v w l wv ww differ. elim (cases_order (x.co v) (x.co w)) [
    | inl same_co ↦ absurd (differ (candidate.co v w l wv ww same_co))
    | inr (inl co_lt) ↦ inl (lt-ltb (x.co v) (x.co w) co_lt)
    | inr (inr co_gt) ↦ inr (lt-ltb (x.co w) (x.co v) co_gt)
  ];
}

-- Each such order has ranks.
module _ (test : X86Test) (x : Execution) (before : MemoryEvent → MemoryEvent → Bool)
    (order : IsCoherenceOrder x86_language test x before) where
  -- Of two writes of one location the first is before the second in the given order.
  abbrev Precedes : MemoryEvent → MemoryEvent → Type 0
  Precedes w v = (l : ℕ) × Writes x86_language test x w l × Writes x86_language test x v l × (before w v ≡ true)

  -- Whether one write precedes another is decidable.
  Precedes-decidable : (w v : MemoryEvent) → Decidable (Precedes w v)
  Precedes-decidable w v =
      decided_iff (λ h. (h.0, h.1.0, h.1.1, h.1.2)) (λ h. (h.0, (h.1, h.2, h.3)))
      (decided_exists_location (location x86_language test w)
      (λ l. Writes x86_language test x w l × Writes x86_language test x v l × (before w v ≡ true)) (λ l h. h.0.location_is) (λ l.
      decided_three (decided_writes x86_language test x w l) (decided_writes x86_language test x v l)
      (decided_true (before w v))))

  -- A walk through the relation is one step of it, since the order is transitive.
  Precedes-Walk : (n : ℕ) (w v : MemoryEvent) → Walk Precedes (suc n) w v → Precedes w v
  Precedes-Walk zero w v (c, step, same) = subst (Precedes w) same step
  Precedes-Walk (suc n) w v (c, (l, ww, wc, first), walk) =
      let rest : Precedes c v = Precedes-Walk n c v walk in
      let one : rest.0 ≡ l = same_Some rest.0 l (sym rest.1.location_is ∙ wc.location_is) in
      let wv : Writes x86_language test x v l = subst (Writes x86_language test x v) one rest.2 in
      (l, ww, wv, order.transitive w c v l ww wc wv first rest.3)

  -- A coherence order has no cycle, since it is irreflexive.
  HasNoCycle-Precedes : HasNoCycle Precedes
  HasNoCycle-Precedes n e walk = let p : Precedes e e = Precedes-Walk n e e walk in order.irreflexive e p.0 p.1 p.3

  -- Some ranks increase along a coherence order, since an execution has finitely many events.
  Acyclic-Precedes : Acyclic Precedes
  Acyclic-Precedes = Acyclic-HasNoCycle x Precedes Precedes-decidable (λ w v p. (p.1.is_event, p.2.is_event)) HasNoCycle-Precedes

  -- A coherence order has ranks: one write of a location precedes another in it if and only if its rank is lower.
  pub order_has_ranks : (rank : MemoryEvent → ℕ)
      × ((w v : MemoryEvent) (l : ℕ)
      → Writes x86_language test x w l
      → Writes x86_language test x v l
      → (before w v ≡ true) ↔ (rank w < rank v))
  order_has_ranks = (
    Acyclic-Precedes.rank,
    λ w v l ww wv. (
      λ is. Acyclic-Precedes.increases w v (l, ww, wv, is),
      λ less. elim (decided_event_equal w v) [
        | inl same_event ↦ absurd (omega (arith, less, ap Acyclic-Precedes.rank same_event))
        | inr events_differ ↦ elim (order.total w v l ww wv events_differ) [
          | inl is ↦ is
          | inr back ↦ absurd (omega (arith, less, Acyclic-Precedes.increases v w (l, wv, ww, back)))
        ]
      ],
    ),
  )
