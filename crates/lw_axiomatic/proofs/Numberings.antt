-- Numberings and cycles: a relation along which ranks increase has no cycle; and a decidable relation of
-- finitely many events that has no cycle has such ranks. So acyclicity by ranks and by cycles agree (Cycles).
use Rattle.lw_axiomatic.proofs.Common.{◌≡◌, ℕ, zero, suc, ◌+◌, ◌*◌, ◌<◌, ◌≤◌, ◌⊎◌, inl, inr, refl, sym, ap}
use Rattle.lw_axiomatic.proofs.Common.{◌∙◌, subst, arith, List, [], ◌∷◌, Contains, cases_lt, not-Contains-nil}
use Rattle.lw_axiomatic.proofs.Common.{Contains-head, Contains-tail, Contains-cons, Acyclic, Walk, HasNoCycle}
use Rattle.lw_axiomatic.proofs.Common.{MemoryEvent, Execution, IsEvent}
use Rattle.lw_axiomatic.proofs.EventLists.{events_from, Contains-events_from}
use Rattle.lw_axiomatic.proofs.Decisions.{Decidable, decided_or, decided_and, decided_event_equal}

-- ---- increasing relations have no cycle

module _ {E : Type 0} (R : E → E → Type 0) (acyclic : Acyclic R) where
  -- A walk of n steps increases the ranks by at least n.
  rank_increases-Walk : (n : ℕ) (a b : E) → Walk R n a b → acyclic.rank a + n ≤ acyclic.rank b
  rank_increases-Walk zero a b same = omega (arith, ap acyclic.rank same)
  rank_increases-Walk (suc n) a b (c, step, walk) = omega (arith, acyclic.increases a c step, rank_increases-Walk n c b walk)

  -- A relation along which ranks increase has no cycle.
  pub HasNoCycle-Acyclic : HasNoCycle R
  HasNoCycle-Acyclic n e walk = omega (arith, rank_increases-Walk (suc n) e e walk)

-- ---- the ranks of the events related to an event

-- The least number above the ranks of those events of a list that are in the relation R to b.
record Top (R : MemoryEvent → MemoryEvent → Type 0) (rank : MemoryEvent → ℕ) (b : MemoryEvent)
    (events : List MemoryEvent) : Type 0 where
  top : ℕ
  above : (a : MemoryEvent) → Contains events a → R a b → rank a < top
  least : (m : ℕ) → ((a : MemoryEvent) → Contains events a → R a b → rank a < m) → top ≤ m

-- If the relation is decidable, there is a least number above the ranks of the events related to b.
Top-exists : (R : MemoryEvent → MemoryEvent → Type 0)
    → ((a b : MemoryEvent) → Decidable (R a b))
    → (rank : MemoryEvent → ℕ) (b : MemoryEvent) (events : List MemoryEvent)
    → Top R rank b events
Top-exists R decide rank b [] = record { top = 0; above = λ a c r. absurd (not-Contains-nil a c); least = λ m each. omega arith }
Top-exists R decide rank b (e ∷ events) =
    let rest : Top R rank b events = Top-exists R decide rank b events in
    elim (decide e b) [
      | inl first ↦ elim (cases_lt (rank e) rest.top) [
        | inl low ↦ record {
          top = rest.top;
          above = λ a c r. elim (Contains-cons e a events c) [
            | inl is_head ↦ omega (arith, low, ap rank is_head)
            | inr in_tail ↦ rest.above a in_tail r
          ];
          least = λ m each. rest.least m (λ a c. each a (Contains-tail e a events c));
        }
        | inr high ↦ record {
          top = suc (rank e);
          above = λ a c r. elim (Contains-cons e a events c) [
            | inl is_head ↦ omega (arith, ap rank is_head)
            | inr in_tail ↦ omega (arith, high, rest.above a in_tail r)
          ];
          least = λ m each. omega (arith, each e (Contains-head e e events refl) first);
        }
      ]
      | inr not ↦ record {
        top = rest.top;
        above = λ a c r. elim (Contains-cons e a events c) [
          | inl is_head ↦ absurd (not (subst (λ (z : MemoryEvent). R z b) (sym is_head) r))
          | inr in_tail ↦ rest.above a in_tail r
        ];
        least = λ m each. rest.least m (λ a c. each a (Contains-tail e a events c));
      }
    ]

-- ---- without an event, its neighbours are related through it

module _ (R : MemoryEvent → MemoryEvent → Type 0) (e : MemoryEvent) where
  -- Two events are related, perhaps by way of a third one that is left out.
  abbrev Past : MemoryEvent → MemoryEvent → Type 0
  Past a b = R a b ⊎ (R a e × R e b)

  -- A walk that may step past the event gives a walk of the relation that is at least as long.
  Walk-of_Past : (n : ℕ) (a b : MemoryEvent) → Walk Past n a b → (m : ℕ) × (n ≤ m) × Walk R m a b
  Walk-of_Past zero a b same = (0, omega arith, same)
  Walk-of_Past (suc n) a b (c, inl step, walk) = let w = Walk-of_Past n c b walk in (suc w.0, omega (arith, w.1), (c, step, w.2))
  Walk-of_Past (suc n) a b (c, inr (to, from), walk) =
      let w = Walk-of_Past n c b walk in (suc (suc w.0), omega (arith, w.1), (e, to, (c, from, w.2)))

  -- If the relation has no cycle, it has none with steps past the event.
  HasNoCycle-Past : HasNoCycle R → HasNoCycle Past
  HasNoCycle-Past none n a walk = (let w = Walk-of_Past (suc n) a a walk in no_cycle-by_length w.0 w.1 w.2)
    where
      -- A walk of one step or more does not return.
      no_cycle-by_length : (m : ℕ) → suc n ≤ m → Walk R m a a → ⊥
      no_cycle-by_length zero le w = omega (arith, le)
      no_cycle-by_length (suc m) le w = none m a w

-- The first of two numbers if a decidable statement holds, and the second otherwise.
abbrev number_if : {P : Type 0} → Decidable P → ℕ → ℕ → ℕ
number_if (inl p) m n = m
number_if (inr not) m n = n

-- If the statement holds, the first number is selected.
number_if-holds : {P : Type 0} (d : Decidable P) (m n : ℕ) → P → number_if d m n ≡ m
number_if-holds (inl p) m n h = refl
number_if-holds (inr not) m n h = absurd (not h)

-- If the statement does not hold, the second number is selected.
number_if-fails : {P : Type 0} (d : Decidable P) (m n : ℕ) → (P → ⊥) → number_if d m n ≡ n
number_if-fails (inl p) m n h = absurd (h p)
number_if-fails (inr not) m n h = refl

-- ---- numbers for the events of a list

-- Numbers for the events of a list, which increase along a relation of them.
abbrev Numbered : List MemoryEvent → (MemoryEvent → MemoryEvent → Type 0) → Type 0
Numbered events R =
    (rank : MemoryEvent → ℕ) × ((a b : MemoryEvent) → Contains events a → Contains events b → R a b → rank a < rank b)

module _ (R : MemoryEvent → MemoryEvent → Type 0) (decide : (a b : MemoryEvent) → Decidable (R a b)) (none : HasNoCycle R)
    (e : MemoryEvent) (events : List MemoryEvent) (rest : Numbered events (Past R e)) where
  -- There is a least number above the numbers of the events that are related to e.
  Top-least_above : Top R rest.0 e events
  Top-least_above = Top-exists R decide rest.0 e events

  -- The number of an event of the list: for e the odd number above those of the events related to it, and for another event
  -- twice its number in the rest, and 2.
  abbrev rank : MemoryEvent → ℕ
  rank a = number_if (decided_event_equal a e) (2 * Top-least_above.top + 1) (2 * rest.0 a + 2)

  -- The first event has the odd number above the numbers of all events related to it.
  rank-of_first : (a : MemoryEvent) → a ≡ e → rank a ≡ 2 * Top-least_above.top + 1
  rank-of_first a same = number_if-holds (decided_event_equal a e) (2 * Top-least_above.top + 1) (2 * rest.0 a + 2) same

  -- Each event but the first has twice its number in the rest, and 2 more.
  rank-of_others : (a : MemoryEvent) → (a ≡ e → ⊥) → rank a ≡ 2 * rest.0 a + 2
  rank-of_others a differ = number_if-fails (decided_event_equal a e) (2 * Top-least_above.top + 1) (2 * rest.0 a + 2) differ

  -- An event other than the first is in the rest of the list.
  Contains-tail_if_other : (a : MemoryEvent) → Contains (e ∷ events) a → (a ≡ e → ⊥) → Contains events a
  Contains-tail_if_other a is_member differ =
      elim (Contains-cons e a events is_member) [ inl is_head ↦ absurd (differ (sym is_head)) | inr in_tail ↦ in_tail ]

  -- The numbers increase along the relation.
  rank_increases-R : (a b : MemoryEvent) → Contains (e ∷ events) a → Contains (e ∷ events) b → R a b → rank a < rank b
  rank_increases-R a b ca cb r = elim (decided_event_equal a e) [
    | inl same_event ↦ elim (decided_event_equal b e) [
      | inl sb ↦ absurd (none 0 a (b, r, sb ∙ sym same_event))
      | inr events_differ ↦
          (let from : R e b = subst (λ (z : MemoryEvent). R z b) same_event r in
          let least : Top-least_above.top ≤ rest.0 b =
          Top-least_above.least (rest.0 b)
          (λ p c to. rest.1 p b c (Contains-tail_if_other b cb events_differ) (inr (to, from))) in
          omega (arith, rank-of_first a same_event, rank-of_others b events_differ, least))
    ]
    | inr events_differ ↦ elim (decided_event_equal b e) [
      | inl same_event ↦
          (let to : R a e = subst (R a) same_event r in
          omega (
            arith,
            rank-of_others a events_differ,
            rank-of_first b same_event,
            Top-least_above.above a (Contains-tail_if_other a ca events_differ) to,
          ))
      | inr nb ↦ omega (
        arith,
        rank-of_others a events_differ,
        rank-of_others b nb,
        rest.1 a b (Contains-tail_if_other a ca events_differ) (Contains-tail_if_other b cb nb) (inl r),
      )
    ]
  ]

-- If a relation is decidable and has no cycle, the events of a list have numbers that increase along it.
Numbered-HasNoCycle : (events : List MemoryEvent) (R : MemoryEvent → MemoryEvent → Type 0)
    → ((a b : MemoryEvent) → Decidable (R a b))
    → HasNoCycle R
    → Numbered events R
Numbered-HasNoCycle [] R decide none = ((λ e. 0), λ a b ca cb r. absurd (not-Contains-nil a ca))
Numbered-HasNoCycle (e ∷ events) R decide none =
    let rest =
    Numbered-HasNoCycle events (Past R e) (λ a b. decided_or (decide a b) (decided_and (decide a e) (decide e b)))
    (HasNoCycle-Past R e none) in
    (rank R decide none e events rest, rank_increases-R R decide none e events rest)

-- ---- the events of an execution

-- A decidable relation of an execution's events without a cycle has ranks, which increase along it.
pub Acyclic-HasNoCycle : (x : Execution) (R : MemoryEvent → MemoryEvent → Type 0)
    → ((a b : MemoryEvent) → Decidable (R a b))
    → ((a b : MemoryEvent) → R a b → IsEvent x a × IsEvent x b)
    → HasNoCycle R
    → Acyclic R
Acyclic-HasNoCycle x R decide within none =
    let n = Numbered-HasNoCycle (events_from 0 x.paths) R decide none in
    record {
      rank = n.0;
      increases = λ a b r.
          (let w = within a b r in
          n.1 a b (Contains-events_from 0 a.thread a.thread x.paths a.position (omega arith) w.0)
          (Contains-events_from 0 b.thread b.thread x.paths b.position (omega arith) w.1) r);
    }
