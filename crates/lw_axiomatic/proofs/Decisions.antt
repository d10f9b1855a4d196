-- The relations of an execution's events are decidable. So a from-reads along which ranks do not increase can
-- be searched for, and a relation without a cycle can be numbered; no proof uses excluded middle.
use Rattle.lw_axiomatic.proofs.Common.{◌≡◌, ℕ, ◌<◌, ◌⊎◌, inl, inr, Bool, true, Option, Some, None, refl, sym}
use Rattle.lw_axiomatic.proofs.Common.{ap, ap₂, ◌∙◌, subst, arith, List, [], ◌∷◌, Contains, true≢false}
use Rattle.lw_axiomatic.proofs.Common.{ForSome, cases_Bool, cases_lt, cases_eq, none-some, same_Some}
use Rattle.lw_axiomatic.proofs.Common.{thread_code, not-Contains-nil, Contains-head, Contains-tail}
use Rattle.lw_axiomatic.proofs.Common.{Contains-cons, Language, Test, MemoryEvent, Execution, IsEvent, Po}
use Rattle.lw_axiomatic.proofs.Common.{reads, operation_is, location, Reads, Writes, Rf, Co, Fr, PoLoc, Ppo}
use Rattle.lw_axiomatic.proofs.Common.{Rfe}
use Rattle.lw_litmus.specs.Operations as operations

-- The statement holds, or does not hold.
abbrev pub Decidable : Type 0 → Type 0
Decidable P = P ⊎ (P → ⊥)

-- The disjunction of decidable statements is decidable.
pub decided_or : {P Q : Type 0} → Decidable P → Decidable Q → Decidable (P ⊎ Q)
decided_or (inl p) d = inl (inl p)
decided_or (inr not) (inl q) = inl (inr q)
decided_or (inr not) (inr never) = inr (λ h. elim h [ inl p ↦ not p | inr q ↦ never q ])

-- The conjunction of two decidable statements is decidable.
pub decided_and : {P Q : Type 0} → Decidable P → Decidable Q → Decidable (P × Q)
decided_and (inl p) (inl q) = inl (p, q)
decided_and (inl p) (inr not) = inr (λ h. not h.1)
decided_and (inr not) d = inr (λ h. not h.0)

-- The conjunction of three decidable statements is decidable.
pub decided_three : {P Q R : Type 0} → Decidable P → Decidable Q → Decidable R → Decidable (P × Q × R)
decided_three (inl p) (inl q) (inl r) = inl (p, q, r)
decided_three (inl p) (inl q) (inr not) = inr (λ h. not h.2)
decided_three (inl p) (inr not) d = inr (λ h. not h.1)
decided_three (inr not) d e = inr (λ h. not h.0)

-- The negation of a decidable statement is decidable.
decided_not : {P : Type 0} → Decidable P → Decidable (P → ⊥)
decided_not (inl p) = inr (λ not. not p)
decided_not (inr not) = inl not

-- A statement equivalent to a decidable one is decidable.
pub decided_iff : {P Q : Type 0} → (P → Q) → (Q → P) → Decidable P → Decidable Q
decided_iff to from (inl p) = inl (to p)
decided_iff to from (inr not) = inr (λ q. not (from q))

-- The order of numbers is decidable.
pub decided_lt : (a b : ℕ) → Decidable (a < b)
decided_lt a b = elim (cases_lt a b) [ inl l ↦ inl l | inr ge ↦ inr (λ l. omega (arith, l, ge)) ]

-- The truth of a test is decidable.
pub decided_true : (b : Bool) → Decidable (b ≡ true)
decided_true b = elim (cases_Bool b) [ inl t ↦ inl t | inr f ↦ inr (λ t. true≢false (sym t ∙ f)) ]

-- Whether an optional number is this one is decidable.
pub decided_number : (o : Option ℕ) (l : ℕ) → Decidable (o ≡ Some l)
decided_number None l = inr (λ e. none-some l e)
decided_number (Some m) l = elim (cases_eq m l) [ inl e ↦ inl (ap Some e) | inr ne ↦ inr (λ e. ne (same_Some m l e)) ]

-- Equality of events is decidable.
pub decided_event_equal : (a b : MemoryEvent) → Decidable (a ≡ b)
decided_event_equal a b = elim (cases_eq a.thread b.thread) [
  | inl same_thread ↦ elim (cases_eq a.position b.position) [
    | inl same_position ↦ inl (ap₂ (λ t j. record { thread = t; position = j }) same_thread same_position)
    | inr positions_differ ↦ inr (λ e. positions_differ (ap (λ (z : MemoryEvent). z.position) e))
  ]
  | inr threads_differ ↦ inr (λ e. threads_differ (ap (λ (z : MemoryEvent). z.thread) e))
]

-- Whether an optional event is this one is decidable.
decided_event : (o : Option MemoryEvent) (e : MemoryEvent) → Decidable (o ≡ Some e)
decided_event None e = inr (λ same. none-some e same)
decided_event (Some v) e = elim (decided_event_equal v e) [
  | inl same_event ↦ inl (ap Some same_event)
  | inr events_differ ↦ inr (λ same. events_differ (same_Some v e same))
]

-- Whether a position is on a path is decidable.
pub decided_contains : (path : List ℕ) (j : ℕ) → Decidable (Contains path j)
decided_contains [] j = inr (λ c. not-Contains-nil j c)
decided_contains (k ∷ path) j = elim (cases_eq k j) [
  | inl e ↦ inl (Contains-head k j path e)
  | inr ne ↦ elim (decided_contains path j) [
    | inl c ↦ inl (Contains-tail k j path c)
    | inr not ↦ inr (λ c. elim (Contains-cons k j path c) [ inl is_head ↦ ne is_head | inr in_tail ↦ not in_tail ])
  ]
]

-- Whether a property holds of some location is decidable, if it can hold of only one.
pub decided_exists_location : (o : Option ℕ) (P : ℕ → Type 0)
    → ((l : ℕ) → P l → o ≡ Some l)
    → ((l : ℕ) → Decidable (P l))
    → Decidable ((l : ℕ) × P l)
decided_exists_location None P each decide = inr (λ h. none-some h.0 (each h.0 h.1))
decided_exists_location (Some l) P each decide =
    elim (decide l) [ inl p ↦ inl (l, p) | inr not ↦ inr (λ h. not (subst P (sym (same_Some l h.0 (each h.0 h.1))) h.1)) ]

module _ (x : Execution) where
  -- Whether an event is one of the execution is decidable.
  decided_is_event : (e : MemoryEvent) → Decidable (IsEvent x e)
  decided_is_event e = decided_contains (thread_code x.paths e.thread) e.position

  -- Program order is decidable.
  pub decided_po : (a b : MemoryEvent) → Decidable (Po x a b)
  decided_po a b =
      decided_iff (λ h. record { first_event = h.0; second_event = h.1; same_thread = h.2.0; position_lt = h.2.1 })
      (λ h. (h.first_event, h.second_event, (h.same_thread, h.position_lt)))
      (decided_three (decided_is_event a) (decided_is_event b)
      (decided_and (cases_eq a.thread b.thread) (decided_lt a.position b.position)))

  -- Whether an event's source comes before w in coherence order is decidable.
  decided_source_before : (o : Option MemoryEvent) (w : MemoryEvent) → Decidable (ForSome o (λ v. x.co v < x.co w))
  decided_source_before None w = inl (λ v is_some. absurd (none-some v is_some))
  decided_source_before (Some u) w = elim (decided_lt (x.co u) (x.co w)) [
    | inl l ↦ inl (λ v is_some. subst (λ (z : MemoryEvent). x.co z < x.co w) (same_Some u v is_some) l)
    | inr not ↦ inr (λ each. not (each u refl))
  ]

module _ {S : Type 0} (language : Language S) (test : Test S) (x : Execution) where
  -- Whether an event reads a location is decidable.
  decided_reads : (e : MemoryEvent) (l : ℕ) → Decidable (Reads language test x e l)
  decided_reads e l =
      decided_iff (λ h. record { is_event = h.0; location_is = h.1; is_read = h.2 }) (λ h. (h.is_event, h.location_is, h.is_read))
      (decided_three (decided_is_event x e) (decided_number (location language test e) l)
      (decided_true (operation_is language test reads e)))

  -- Whether an event writes a location is decidable.
  pub decided_writes : (e : MemoryEvent) (l : ℕ) → Decidable (Writes language test x e l)
  decided_writes e l =
      decided_iff (λ h. record { is_event = h.0; location_is = h.1; is_write = h.2 })
      (λ h. (h.is_event, h.location_is, h.is_write))
      (decided_three (decided_is_event x e) (decided_number (location language test e) l)
      (decided_true (operation_is language test operations.writes e)))

  -- Reads-from is decidable.
  pub decided_rf : (w r : MemoryEvent) → Decidable (Rf language test x w r)
  decided_rf w r =
      decided_iff (λ h. record { on_location = h.0; write = h.1.0; read = h.1.1; source_is = h.1.2 })
      (λ h. (h.on_location, (h.write, h.read, h.source_is)))
      (decided_exists_location (location language test w)
      (λ l. Writes language test x w l × Reads language test x r l × (x.rf r ≡ Some w)) (λ l h. h.0.location_is)
      (λ l. decided_three (decided_writes w l) (decided_reads r l) (decided_event (x.rf r) w)))

  -- Coherence order is decidable.
  pub decided_co : (w v : MemoryEvent) → Decidable (Co language test x w v)
  decided_co w v =
      decided_iff (λ h. record { on_location = h.0; first_write = h.1.0; second_write = h.1.1; co_lt = h.1.2 })
      (λ h. (h.on_location, (h.first_write, h.second_write, h.co_lt)))
      (decided_exists_location (location language test w)
      (λ l. Writes language test x w l × Writes language test x v l × (x.co w < x.co v)) (λ l h. h.0.location_is)
      (λ l. decided_three (decided_writes w l) (decided_writes v l) (decided_lt (x.co w) (x.co v))))

  -- From-reads is decidable.
  pub decided_fr : (r w : MemoryEvent) → Decidable (Fr language test x r w)
  decided_fr r w =
      decided_iff
      (λ h. record { on_location = h.0; read = h.1.0; write = h.1.1; events_differ = h.1.2.0; source_before = h.1.2.1 })
      (λ h. (h.on_location, (h.read, h.write, (h.events_differ, h.source_before))))
      (decided_exists_location (location language test r)
      (λ l. Reads language test x r l × Writes language test x w l × ((r ≡ w → ⊥) × ForSome (x.rf r) (λ v. x.co v < x.co w)))
      (λ l h. h.0.location_is) (λ l.
      decided_three (decided_reads r l) (decided_writes w l)
      (decided_and (decided_not (decided_event_equal r w)) (decided_source_before x (x.rf r) w))))

  -- Program order on one location is decidable.
  pub decided_po_loc : (a b : MemoryEvent) → Decidable (PoLoc language test x a b)
  decided_po_loc a b =
      decided_iff (λ h. record { po = h.1.0; on_location = h.0; first_location_is = h.1.1; second_location_is = h.1.2 })
      (λ h. (h.on_location, (h.po, h.first_location_is, h.second_location_is)))
      (decided_exists_location (location language test a)
      (λ l. Po x a b × (location language test a ≡ Some l) × (location language test b ≡ Some l)) (λ l h. h.1) (λ l.
      decided_three (decided_po x a b) (decided_number (location language test a) l)
      (decided_number (location language test b) l)))

  -- Preserved program order is decidable.
  pub decided_ppo : (a b : MemoryEvent) → Decidable (Ppo language test x a b)
  decided_ppo a b =
      decided_iff (λ h. record { po = h.0; is_preserved = h.1 }) (λ h. (h.po, h.is_preserved))
      (decided_and (decided_po x a b) (decided_true _))

  -- Reads-from between two threads is decidable.
  pub decided_rfe : (w r : MemoryEvent) → Decidable (Rfe language test x w r)
  decided_rfe w r =
      decided_iff (λ h. record { rf = h.0; threads_differ = h.1 }) (λ h. (h.rf, h.threads_differ))
      (decided_and (decided_rf w r) (decided_not (cases_eq w.thread r.thread)))
