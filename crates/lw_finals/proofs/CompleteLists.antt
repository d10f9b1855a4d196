-- What is collected from all path assignments of a test is its complete list, in either language. The main
-- theorem of this crate, from three premises: trace-equivalent orders have one outcome, orders are complete,
-- and outcomes are those of path assignments.
use Rattle.lw_finals.proofs.Common.{IsWellScoped, IsWellScopedThread, ◌≡◌, ℕ, inl, inr, List, [], ◌∷◌, length}
use Rattle.lw_finals.proofs.Common.{Result, Ok, Err, refl, sym, ap, subst, IfOk, OnOk, All, Contains, ◌↔◌}
use Rattle.lw_finals.proofs.Common.{cases_lt, All-nil, All-contains, All-weaker, Contains-append_right}
use Rattle.lw_finals.proofs.Common.{FinalState, flat_memory, Protocol, Mesi, Instr, without_evictions}
use Rattle.lw_finals.proofs.Common.{MachineState, MachineRunsTo, IsMachineOutcome, initial_machine_state}
use Rattle.lw_finals.proofs.Common.{EventOccurrence, EventOccurrence-of_event, not-EffectLeadsTo-evict_event}
use Rattle.lw_finals.proofs.Common.{Event, Step, Drain, Evict, Language, Test, X86Test, Constraints}
use Rattle.lw_finals.proofs.Common.{IsLinearExtension, most_items, orders, JumpsForward, IsPathAssignment}
use Rattle.lw_finals.proofs.Common.{HasTooManyItems, IsWithinLimits, items_of_assignment, items_of}
use Rattle.lw_finals.proofs.Common.{reduced_constraints_of, Item, Contains-path_assignments}
use Rattle.lw_finals.proofs.Common.{IsWellFormed-reduced_pairs, IsLinearExtension-reduced_iff, Contains-head}
use Rattle.lw_finals.proofs.Common.{Contains-map_inv, OutcomeEntries, outcomes_of, ReplaysToOverCaches}
use Rattle.lw_finals.proofs.Common.{ItemTransitionSystem, ReplaysFlatTo, CollectsOutcomes, OutcomesOfProgram}
use Rattle.lw_finals.proofs.Common.{AreComplete, AreFlat, IsComplete, AreAllOutcomes, OutcomesWith}
use Rattle.lw_finals.proofs.Common.{HasOutcomeShape, OutcomeOverCaches, All-contains_itself}
use Rattle.lw_finals.proofs.Common.{without_evictions-flat_run, FollowsPathsToEnd}
use Rattle.lw_finals.proofs.TraceEquivalence.{OrdersEndAlike}
use Rattle.lw_finals.proofs.Ordered.{OfAssignment}
use Rattle.lw_orders.specs.Order as orders

-- If the value of a result has P, Q holds if there is a value, and P and Q imply R, then the value has R.
IfOk-with_fact : {T E : Type 0} (r : Result T E) (P R : T → Type 0) (Q : Type 0)
    → ((x : T) → P x → Q → R x)
    → IfOk r P
    → OnOk r Q
    → IfOk r R
IfOk-with_fact (Ok x) P R Q f p q = f x p q
IfOk-with_fact (Err e) P R Q f p q = tt

module _ {S : Type 0} (language : Language S) (test : Test S) {State : Type 0} (system : ItemTransitionSystem State) where
  -- The items of a path assignment of the test.
  abbrev assignment_items : List (List ℕ) → List Item
  assignment_items paths = items_of language test.threads paths

  -- The items of a path assignment with their reduced pairs, from which the orders are computed.
  abbrev pub reduced_constraints : List (List ℕ) → Constraints
  reduced_constraints paths = reduced_constraints_of language test.threads (assignment_items paths)

  -- For each path assignment of the test, trace-equivalent orders of its items reach the same outcome.
  abbrev pub AllOrdersEndAlike : Type 0
  AllOrdersEndAlike =
      (paths : List (List ℕ)) → IsPathAssignment language test.threads paths → OrdersEndAlike language test.threads paths system

  module _ (well_scoped : IsWellScoped language test) (alike : AllOrdersEndAlike) (complete : AreComplete)
      (not_too_many : HasTooManyItems language test.threads → ⊥) where
    -- The items of a path assignment with their reduced pairs are well-formed, since they are not too many.
    IsWellFormed-reduced : (paths : List (List ℕ))
        → IsPathAssignment language test.threads paths
        → orders.IsWellFormed (reduced_constraints paths)
    IsWellFormed-reduced paths assignment = elim (cases_lt most_items (items_of_assignment language test.threads paths)) [
      | inl many ↦ absurd (not_too_many (paths, assignment, many))
      | inr within ↦ IsWellFormed-reduced_pairs language test.threads (assignment_items paths) within
    ]

    -- If an outcome is one of some order of a path assignment, it is that of a listed order.
    OutcomesOfProgram-if_of_assignment : (o : FinalState)
        → OfAssignment language test.threads system o
        → OutcomesOfProgram language (FollowsPathsToEnd system) test.threads o
    OutcomesOfProgram-if_of_assignment o (paths, assignment, c) =
        let t : Constraints = reduced_constraints paths in
        let same = IsLinearExtension-reduced_iff language test.threads paths in
        let given = complete.exactly_one t (IsWellFormed-reduced paths assignment) c.order ((same c.order).1 c.keeps) in
        let is_member : Contains (orders t) given.element =
        subst (λ (xs : List (List ℕ)). Contains xs given.element) (sym given.split)
        (Contains-append_right given.before _ given.element (Contains-head given.element given.element given.after refl)) in
        let keeps =
        (same given.element).0 (All-contains (IsLinearExtension t) _ _ (complete.each t (IsWellFormed-reduced paths assignment))
        is_member) in
        let forward : All (JumpsForward language) test.threads =
        All-weaker (IsWellScopedThread language (length test.head.locs)) (JumpsForward language) (λ code t. t.forward)
        test.threads well_scoped.code in (
          paths,
          (Contains-path_assignments language test.threads paths forward).1 assignment,
          (given.element, is_member, alike paths assignment c.order given.element o c.keeps keeps given.has c.run),
        )

    module _ (Has : FinalState → Type 0) (assignments : (o : FinalState) → Has o ↔ OfAssignment language test.threads system o)
        (program : X86Test) (same : (o : FinalState) → IsMachineOutcome flat_memory program program.head.init_words o ↔ Has o)
        (program_is_flat : AreFlat program) where
      -- What leads to an outcome shows that the program reaches it.
      module _ {Kept : Type 0} (Leads : Kept → FinalState → Type 0)
          (reached : (kept : Kept) (o : FinalState)
          → Leads kept o
          → IsMachineOutcome flat_memory program program.head.init_words o) (entries : OutcomesWith Kept)
          (gathers : CollectsOutcomes (OutcomesOfProgram language (FollowsPathsToEnd system) test.threads) Leads [] entries) where
        -- Each kept value leads to its outcome.
        All-lead_to_outcome : All (λ e. Leads e.1 e.0) entries
        All-lead_to_outcome = gathers.each_leads (All-nil (λ e. Leads e.1 e.0))

        -- The collected outcomes are exactly those of the test.
        Contains-iff_outcome : (o : FinalState) → Contains (outcomes_of entries) o ↔ Has o
        Contains-iff_outcome o = (
          λ c.
              (let (entry, is_entry, is_outcome) = Contains-map_inv _ entries o c in
              subst Has is_outcome
              ((same entry.0).0 (reached entry.1 entry.0
              (All-contains (λ e. Leads e.1 e.0) entries entry All-lead_to_outcome is_entry)))),
          λ has. gathers.covered o (OutcomesOfProgram-if_of_assignment o ((assignments o).0 has)),
        )

        -- The collected outcomes are exactly those of the program over the caches of each protocol.
        over_caches : (protocol : Protocol) (o : FinalState)
            → Contains (outcomes_of entries) o ↔ OutcomeOverCaches protocol program o
        over_caches protocol o = (
          (λ c. (program_is_flat.outcomes protocol o).1 ((same o).1 ((Contains-iff_outcome o).0 c))),
          (λ m. (Contains-iff_outcome o).1 ((same o).0 ((program_is_flat.outcomes protocol o).0 m))),
        )

        -- The collected outcomes are exactly the test's, and those of the program over the caches of each protocol.
        all_outcomes : AreAllOutcomes Has program (outcomes_of entries)
        all_outcomes = record {
          exactly = Contains-iff_outcome;
          over_caches = over_caches;
          shapes =
              All-weaker (Contains (outcomes_of entries)) (HasOutcomeShape program.head.threads (length program.head.locs))
              (λ o c. let m = (over_caches Mesi o).0 c in (program_is_flat.of_test Mesi m.0 o m.1).outcome) (outcomes_of entries)
              (All-contains_itself (outcomes_of entries));
        }

      module _ (entries : OutcomeEntries)
          (gathers : CollectsOutcomes (OutcomesOfProgram language (FollowsPathsToEnd system) test.threads) (ReplaysFlatTo program)
          [] entries) where
        -- Each collected schedule replays over the caches of each protocol, to its outcome.
        replays : (protocol : Protocol) → All (λ e. ReplaysToOverCaches protocol program e.1 e.0) entries
        replays protocol =
            All-weaker (λ e. ReplaysFlatTo program e.1 e.0) (λ e. ReplaysToOverCaches protocol program e.1 e.0) (λ e h.
            (program_is_flat.replays protocol e.1 e.0
            (without_evictions-flat_run program.threads e.1 (initial_machine_state program program.head.init_words) h.end
            h.ran)).1 h) entries (gathers.each_leads (All-nil (λ e. ReplaysFlatTo program e.1 e.0)))

        -- What is collected with schedules is the test's complete list.
        complete_list : IsComplete Has program entries
        complete_list = record {
          has_all_outcomes = all_outcomes (ReplaysFlatTo program) (λ events o h. (events, h)) entries gathers;
          replays = replays;
          of_program = All-weaker _ _ (λ e h. program_is_flat.of_test Mesi e.1 e.0 h) entries (replays Mesi);
        }

  -- What makes a test's list complete: the test is well-scoped; trace-equivalent orders have the same outcomes, and the enumerated orders are
  -- complete; `Has` holds exactly of the outcomes of path assignments, which are those of this program on the flat machine; and over caches
  -- the program has the same ones.
  pub record CanBeListed (Has : FinalState → Type 0) (program : X86Test) : Type 0 where
    pub well_scoped : IsWellScoped language test
    pub alike : AllOrdersEndAlike
    pub complete : AreComplete
    pub assignments : (o : FinalState) → Has o ↔ OfAssignment language test.threads system o
    pub same : (o : FinalState) → IsMachineOutcome flat_memory program program.head.init_words o ↔ Has o
    pub program_is_flat : AreFlat program

  -- The outcomes of the orders of all path assignments are collected, each with a value that leads to it.
  abbrev pub IsCollected : {Kept : Type 0} → (Kept → FinalState → Type 0) → OutcomesWith Kept → Type 0
  IsCollected Leads l = CollectsOutcomes (OutcomesOfProgram language (FollowsPathsToEnd system) test.threads) Leads [] l

  -- If a test can be listed and is within the limits, what is collected of all path assignments is a complete list of its
  -- outcomes.
  pub IsComplete-collected : (Has : FinalState → Type 0) (program : X86Test)
      → CanBeListed Has program
      → {E : Type 0} (result : Result OutcomeEntries E)
      → IfOk result (IsCollected (ReplaysFlatTo program))
      → OnOk result (IsWithinLimits language test.threads)
      → IfOk result (IsComplete Has program)
  IsComplete-collected Has program can result =
      IfOk-with_fact result (IsCollected (ReplaysFlatTo program)) (IsComplete Has program) (IsWithinLimits language test.threads)
      (λ l gathers within.
      complete_list can.well_scoped can.alike can.complete within.0 Has can.assignments program can.same can.program_is_flat l
      gathers)

  -- If a test can be listed and is within the limits, what is collected of all path assignments without schedules is exactly
  -- the test's outcomes.
  pub AreAllOutcomes-collected : (Has : FinalState → Type 0) (program : X86Test)
      → CanBeListed Has program
      → {Kept : Type 0} (Leads : Kept → FinalState → Type 0)
      → ((kept : Kept) (o : FinalState) → Leads kept o → IsMachineOutcome flat_memory program program.head.init_words o)
      → {E : Type 0} (result : Result (OutcomesWith Kept) E)
      → IfOk result (IsCollected Leads)
      → OnOk result (IsWithinLimits language test.threads)
      → IfOk result (λ l. AreAllOutcomes Has program (outcomes_of l))
  AreAllOutcomes-collected Has program can Leads reached result =
      IfOk-with_fact result (IsCollected Leads) (λ l. AreAllOutcomes Has program (outcomes_of l))
      (IsWithinLimits language test.threads) (λ l gathers within.
      all_outcomes can.well_scoped can.alike can.complete within.0 Has can.assignments program can.same can.program_is_flat Leads
      reached l gathers)
