-- The events of paths as a list, and the first of them by ranks. An execution has finitely many events, so a
-- least one can be found.
use Rattle.lw_axiomatic.proofs.Common.{sym, ◌≡◌, ℕ, zero, suc, ◌+◌, ◌≤◌, ◌⊎◌, inl, inr, refl, ap, subst}
use Rattle.lw_axiomatic.proofs.Common.{arith, List, [], ◌∷◌, ◌++◌, Contains, map, cases_lt, get_or_past}
use Rattle.lw_axiomatic.proofs.Common.{Contains-append_left, Contains-append_right, Contains-append_cases}
use Rattle.lw_axiomatic.proofs.Common.{thread_code, not-Contains-nil, Contains-head, Contains-tail}
use Rattle.lw_axiomatic.proofs.Common.{Contains-cons, Contains-map, Contains-map_inv, MemoryEvent}
use Rattle.lw_axiomatic.proofs.Decisions.{Decidable}

-- The event of a statement, by its thread and its position.
abbrev pub event : ℕ → ℕ → MemoryEvent
event t j = record { thread = t; position = j }

-- The events of all paths, thread by thread, from thread t on.
abbrev pub events_from : ℕ → List (List ℕ) → List MemoryEvent
events_from t [] = []
events_from t (path ∷ paths) = map (event t) path ++ events_from (suc t) paths

-- If the first path is thread t's, each event of the paths is in their list.
pub Contains-events_from : (t k u : ℕ) (paths : List (List ℕ)) (j : ℕ)
    → u ≡ t + k
    → Contains (thread_code paths k) j
    → Contains (events_from t paths) (event u j)
Contains-events_from t k u [] j at on_path =
    absurd (not-Contains-nil j (subst (λ (path : List ℕ). Contains path j) (get_or_past [] k [] (omega arith)) on_path))
Contains-events_from t zero u (path ∷ paths) j at on_path =
    let same : t ≡ u = omega (arith, at) in
    Contains-append_left (map (event t) path) (events_from (suc t) paths) (event u j)
    (subst (λ n. Contains (map (event t) path) (event n j)) same (Contains-map (event t) path j on_path))
Contains-events_from t (suc k) u (path ∷ paths) j at on_path =
    Contains-append_right (map (event t) path) (events_from (suc t) paths) (event u j)
    (Contains-events_from (suc t) k u paths j (omega (arith, at)) on_path)

-- Each event in the list is at a position of one of the paths.
events_from-contains_inv : (t : ℕ) (paths : List (List ℕ)) (e : MemoryEvent)
    → Contains (events_from t paths) e
    → (k : ℕ) × (e.thread ≡ t + k) × Contains (thread_code paths k) e.position
events_from-contains_inv t [] e is_member = absurd (not-Contains-nil e is_member)
events_from-contains_inv t (path ∷ paths) e is_member =
    elim (Contains-append_cases (map (event t) path) (events_from (suc t) paths) e is_member) [
      | inl h ↦
          (let source = Contains-map_inv (event t) path e h in (
            0,
            omega (arith, ap (λ (z : MemoryEvent). z.thread) source.2),
            subst (λ (z : MemoryEvent). Contains path z.position) source.2 source.1,
          ))
      | inr r ↦ (let found = events_from-contains_inv (suc t) paths e r in (suc found.0, omega (arith, found.1), found.2))
    ]

-- ---- the first by ranks

module _ (rank : MemoryEvent → ℕ) where
  -- The event is in the list, and no event of the list has a lower rank.
  abbrev IsFirstOf : List MemoryEvent → MemoryEvent → Type 0
  IsFirstOf events e = Contains events e × ((f : MemoryEvent) → Contains events f → rank e ≤ rank f)

  -- A list has no event, or a first one.
  first_of_list_or_empty : (events : List MemoryEvent)
      → ((f : MemoryEvent) → Contains events f → ⊥) ⊎ ((e : MemoryEvent) × IsFirstOf events e)
  first_of_list_or_empty [] = inl (λ f c. not-Contains-nil f c)
  first_of_list_or_empty (e ∷ events) = elim (first_of_list_or_empty events) [
    | inl none ↦ inr (
      e,
      (
        Contains-head e e events refl,
        λ f c. elim (Contains-cons e f events c) [
          | inl is_head ↦ omega (arith, ap rank is_head)
          | inr in_tail ↦ absurd (none f in_tail)
        ],
      ),
    )
    | inr (g, first) ↦ elim (cases_lt (rank e) (rank g)) [
      | inl less ↦ inr (
        e,
        (
          Contains-head e e events refl,
          λ f c. elim (Contains-cons e f events c) [
            | inl is_head ↦ omega (arith, ap rank is_head)
            | inr in_tail ↦ omega (arith, less, first.1 f in_tail)
          ],
        ),
      )
      | inr ge ↦ inr (
        g,
        (
          Contains-tail e g events first.0,
          λ f c. elim (Contains-cons e f events c) [
            | inl is_head ↦ omega (arith, ge, ap rank is_head)
            | inr in_tail ↦ first.1 f in_tail
          ],
        ),
      )
    ]
  ]

  -- An event of the paths whose rank is least.
  pub record IsFirst (paths : List (List ℕ)) (e : MemoryEvent) : Type 0 where
    pub on_path : Contains (thread_code paths e.thread) e.position
    pub least : (f : MemoryEvent) → Contains (thread_code paths f.thread) f.position → rank e ≤ rank f

  -- Paths have no event, or have a first one by ranks.
  pub first_of_paths_or_empty : (paths : List (List ℕ))
      → ((f : MemoryEvent) → Contains (thread_code paths f.thread) f.position → ⊥) ⊎ ((e : MemoryEvent) × IsFirst paths e)
  first_of_paths_or_empty paths = elim (first_of_list_or_empty (events_from 0 paths)) [
    | inl none ↦ inl (λ f c. none f (Contains-events_from 0 f.thread f.thread paths f.position (omega arith) c))
    | inr (e, first) ↦
        (let found = events_from-contains_inv 0 paths e first.0 in
        let same_thread : found.0 ≡ e.thread = omega (arith, found.1) in
        inr (
          e,
          record {
            on_path = subst (λ k. Contains (thread_code paths k) e.position) same_thread found.2;
            least = λ f c. first.1 f (Contains-events_from 0 f.thread f.thread paths f.position (omega arith) c);
          },
        ))
  ]

-- ---- the first of those with a property

module _ (rank : MemoryEvent → ℕ) (P : MemoryEvent → Type 0) (decide : (e : MemoryEvent) → Decidable (P e)) where
  -- The event is in the list and has P, and no event of the list with P has a lower rank.
  abbrev IsLeast : List MemoryEvent → MemoryEvent → Type 0
  IsLeast events e = P e × ((f : MemoryEvent) → Contains events f → P f → rank e ≤ rank f)

  -- No event of a list has P, or one of those with P is least.
  least_of_list_or_none : (events : List MemoryEvent)
      → ((f : MemoryEvent) → Contains events f → P f → ⊥) ⊎ ((e : MemoryEvent) × IsLeast events e)
  least_of_list_or_none [] = inl (λ f c p. not-Contains-nil f c)
  least_of_list_or_none (e ∷ events) = elim (least_of_list_or_none events) [
    | inl none ↦ elim (decide e) [
      | inl p ↦ inr (
        e,
        (
          p,
          λ f c q. elim (Contains-cons e f events c) [
            | inl is_head ↦ omega (arith, ap rank is_head)
            | inr in_tail ↦ absurd (none f in_tail q)
          ],
        ),
      )
      | inr not ↦ inl (λ f c q.
          elim (Contains-cons e f events c) [ inl is_head ↦ not (subst P (sym is_head) q) | inr in_tail ↦ none f in_tail q ])
    ]
    | inr (g, first) ↦ elim (decide e) [
      | inl p ↦ elim (cases_lt (rank e) (rank g)) [
        | inl less ↦ inr (
          e,
          (
            p,
            λ f c q. elim (Contains-cons e f events c) [
              | inl is_head ↦ omega (arith, ap rank is_head)
              | inr in_tail ↦ omega (arith, less, first.1 f in_tail q)
            ],
          ),
        )
        | inr ge ↦ inr (
          g,
          (
            first.0,
            λ f c q. elim (Contains-cons e f events c) [
              | inl is_head ↦ omega (arith, ge, ap rank is_head)
              | inr in_tail ↦ first.1 f in_tail q
            ],
          ),
        )
      ]
      | inr not ↦ inr (
        g,
        (
          first.0,
          λ f c q. elim (Contains-cons e f events c) [
            | inl is_head ↦ absurd (not (subst P (sym is_head) q))
            | inr in_tail ↦ first.1 f in_tail q
          ],
        ),
      )
    ]
  ]

  -- If P is decidable: no event of the paths has P, or one of those with P has the least rank.
  pub least_of_paths_or_none : (paths : List (List ℕ))
      → ((f : MemoryEvent) → Contains (thread_code paths f.thread) f.position → P f → ⊥)
      ⊎ ((e : MemoryEvent) × P e × ((f : MemoryEvent) → Contains (thread_code paths f.thread) f.position → P f → rank e ≤ rank f))
  least_of_paths_or_none paths = elim (least_of_list_or_none (events_from 0 paths)) [
    | inl none ↦ inl (λ f c. none f (Contains-events_from 0 f.thread f.thread paths f.position (omega arith) c))
    | inr (e, first) ↦
        inr (e, first.0, λ f c. first.1 f (Contains-events_from 0 f.thread f.thread paths f.position (omega arith) c))
  ]
