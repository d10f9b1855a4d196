-- Trace-equivalent orders of the items of a source test reach the same outcome; and the outcomes of the orders of all path assignments are
-- exactly the test's. Two premises of CompleteLists, for source tests.
use Rattle.lw_finals.proofs.Common.{IsWellScopedSource, ◌≡◌, ℕ, ◌≤◌, ◌==◌, Bool, true, false, if◌then◌else◌}
use Rattle.lw_finals.proofs.Common.{List, [], ◌∷◌, map, length, Option, Some, None, Result, Ok, refl, sym}
use Rattle.lw_finals.proofs.Common.{subst, inl, inr, slice_get, arith, ◌≢◌, ◌<◌, ap₂, ◌∙◌, ◌↔◌, IsTrue}
use Rattle.lw_finals.proofs.Common.{true≢false, leb-true, get_or_past, cases_lt, cases_order}
use Rattle.lw_finals.proofs.Common.{false_from_ne_true, FinalState, thread_code, Event, Step, Stop, at_index}
use Rattle.lw_finals.proofs.Common.{slice_get-map_inv, list_all_zip-at_index, Stmt, IsFlowSuccessor}
use Rattle.lw_finals.proofs.Common.{source_language, SourceTest, Thread, State, source_step, SourceRunsTo}
use Rattle.lw_finals.proofs.Common.{InterleavesTo, is_source_final, initial_state, initial_thread}
use Rattle.lw_finals.proofs.Common.{SourceOutcome, FollowsFlow, next_statement, FollowsFlow-source_step}
use Rattle.lw_finals.proofs.Common.{source_step-other_position, StepsCommute-no_conflict}
use Rattle.lw_finals.proofs.Common.{next_statement-at_position, IsPathAssignment, Item, items_of, item_at}
use Rattle.lw_finals.proofs.Common.{statement_of, conflict_by, items_conflict, IsMember, item, IsItemOnPath}
use Rattle.lw_finals.proofs.Common.{IsItemOnPath-of_member, JumpsForward-thread, OrderRunsTo}
use Rattle.lw_finals.proofs.Common.{source_item_system, SourceFollowsPathsToEnd, threads_of, none-some}
use Rattle.lw_finals.proofs.Common.{thread_position, IsSourceAssignmentOutcome, SourceItemTransition}
use Rattle.lw_finals.proofs.Ordered.{OfAssignment-of_run}
use Rattle.lw_finals.proofs.PathOfRun.{ExecutesItem, AreItemRuns, position-at_start, position-at_start_unique}
use Rattle.lw_finals.proofs.api.Waiting.{IsAscendingBetween, own_waits, entry_location, waits_after}
use Rattle.lw_finals.proofs.TraceEquivalence.{Neighbours, OrdersEndAlike, OrdersEndAlike-if_swaps}
use Rattle.lw_base.specs.Replays as replays
use Rattle.lw_litmus.specs.Conflicts as conflicts

-- ---- trace-equivalent orders

-- The items are of different threads, and their statements do not conflict.
record AreItemsOfTwoThreads (program : List (List Stmt)) (a b : Item) : Type 0 where
  threads_differ : a.thread ≢ b.thread
  free : conflicts.operations_conflict source_language (statement_of source_language program a)
      (statement_of source_language program b)
      ≡ false

-- If two items of different threads do not conflict, and lead in sequence from s to `end`, they do so in the other order too.
SourceItemTransition-swap : (program : List (List Stmt)) (a b : Item) (s mid end : State)
    → AreItemsOfTwoThreads program a b
    → SourceItemTransition program a s mid
    → SourceItemTransition program b mid end
    → (other : State) × SourceItemTransition program b s other × SourceItemTransition program a other end
SourceItemTransition-swap program a b s mid end two (at_a, step_a) (at_b, step_b) =
    let was_b = sym (source_step-other_position program a.thread b.thread s mid two.threads_differ step_a) ∙ at_b in
    let no_conflict : conflicts.operations_conflict source_language (next_statement program s a.thread)
    (next_statement program s b.thread)
    ≡ false =
    ap₂ (conflicts.operations_conflict source_language) (next_statement-at_position program s _ _ at_a)
    (next_statement-at_position program s _ _ was_b)
    ∙ two.free in
    let o : (o : State) × (source_step program b.thread s ≡ Ok o) × (source_step program a.thread o ≡ Ok end) =
    StepsCommute-no_conflict program a.thread b.thread s two.threads_differ no_conflict mid end step_a step_b in (
      o.0,
      (was_b, o.1),
      (source_step-other_position program b.thread a.thread s o.0 (λ e. two.threads_differ (sym e)) o.1 ∙ at_a, o.2),
    )

-- If neither of two items is a drain (b and c are `false`), they conflict if and only if their statements do.
operations_conflict-no_drains : (b c : Bool) (o p : Option Stmt)
    → b ≡ false
    → c ≡ false
    → conflicts.operations_conflict source_language o p ≡ conflict_by source_language b c o p
operations_conflict-no_drains b c o p e f =
    operations_conflict-of_statements o p ∙ sym (ap₂ (λ (d f : Bool). conflict_by source_language d f o p) e f)
  where
    -- By the two statements, each of which may be missing: none is drained.
    operations_conflict-of_statements : (o p : Option Stmt)
        → conflicts.operations_conflict source_language o p ≡ conflict_by source_language false false o p
    operations_conflict-of_statements None p = refl
    operations_conflict-of_statements (Some a) None = refl
    operations_conflict-of_statements (Some a) (Some b) = refl

module _ (program : List (List Stmt)) (paths : List (List ℕ)) where
  -- The item at an index.
  abbrev nth_item : ℕ → Item
  nth_item i = item_at (items_of source_language program paths) i

  -- No item of a source test is a drain.
  source_item-is_no_drain : (i : ℕ) → i < length (items_of source_language program paths) → (nth_item i).is_drain ≡ false
  source_item-is_no_drain i in_range =
      let r : IsItemOnPath source_language program paths (nth_item i) =
      IsItemOnPath-of_member source_language program paths i in_range in
      false_from_ne_true (nth_item i).is_drain (λ d. none-some (r.store d).0 (r.store d).1)

  -- If two adjacent items neither conflict nor are preserved, and lead in sequence from s to `end`, they do so in the other
  -- order too.
  SourceItemTransition-swap_neighbours : (order : List ℕ) (k x y : ℕ)
      → Neighbours source_language program paths order k x y
      → (s mid end : State)
      → SourceItemTransition program (nth_item x) s mid
      → SourceItemTransition program (nth_item y) mid end
      → (other : State) × SourceItemTransition program (nth_item y) s other × SourceItemTransition program (nth_item x) other end
  SourceItemTransition-swap_neighbours order k x y n s mid end =
      SourceItemTransition-swap program (nth_item x) (nth_item y) s mid end (record {
        threads_differ = threads_differ;
        free =
            operations_conflict-no_drains (nth_item x).is_drain (nth_item y).is_drain
            (statement_of source_language program (nth_item x)) (statement_of source_language program (nth_item y)) x_step y_step
            ∙ false_from_ne_true (items_conflict source_language program (nth_item x) (nth_item y)) n.no_conflict;
      })
    where
      -- The first item is no drain.
      x_step : (nth_item x).is_drain ≡ false
      x_step = source_item-is_no_drain x n.x_below

      -- The second item is no drain.
      y_step : (nth_item y).is_drain ≡ false
      y_step = source_item-is_no_drain y n.y_below

      -- The items are of two threads, since those of one thread are ordered.
      threads_differ : (nth_item x).thread ≢ (nth_item y).thread
      threads_differ same = elim (cases_order x y) [
        | inl is ↦ n.differ is
        | inr (inl less) ↦ n.first_is_free less same (λ d. absurd (true≢false (sym d ∙ x_step)))
        | inr (inr more) ↦ n.second_is_free more (sym same) (λ d. absurd (true≢false (sym d ∙ y_step)))
      ]

-- If two orders of a source test's items that respect the preserved pairs are trace-equivalent, they reach the same outcome.
pub trace_equivalent_orders_have_one_outcome : (s : SourceTest) (paths : List (List ℕ))
    → OrdersEndAlike source_language s.threads paths (source_item_system s)
trace_equivalent_orders_have_one_outcome s paths =
    OrdersEndAlike-if_swaps source_language s.threads paths (source_item_system s) (λ order k z. Unit {0}) (record {
      first = λ order. tt;
      next = λ order keeps k i l there z mid holds out. tt;
      exchange =
          λ order keeps k x y n z mid end holds. SourceItemTransition-swap_neighbours s.threads paths order k x y n z mid end;
    })

-- ---- outcomes

-- If a state is final, each thread of the source test is at the end of its code or past it.
position_past_end-if_final : (program : List (List Stmt)) (s : State) (t p : ℕ)
    → IsTrue (is_source_final program s)
    → thread_position s t ≡ Some p
    → length (thread_code program t) ≤ p
position_past_end-if_final program s t p final e = elim (cases_lt t (length program)) [
  | inl l ↦
      (let th = slice_get-map_inv (λ (x : Thread). x.position) s.threads t p e in
      let past = leb-true _ _ (list_all_zip-at_index _ program _ t _ th.0 final (at_index program t [] l) th.1) in
      omega (arith, past, th.2))
  | inr past ↦ subst (λ code. length code ≤ p) (sym (get_or_past program t [] past)) (omega arith)
]

-- No store waits in any thread, since in the source language each store goes to memory at once.
abbrev NoneWaits : (ℕ → List ℕ) → State → Type 0
NoneWaits pending s = (u : ℕ) → pending u ≡ []

module _ (test : SourceTest) where
  -- The test's threads.
  abbrev program : List (List Stmt)
  program = test.threads

  -- If no store waits, none waits after a statement.
  waits_after-none : (pending : ℕ → List ℕ) (s : State) (t j : ℕ)
      → NoneWaits pending s
      → (u : ℕ)
      → waits_after source_language program (item t j false) pending u ≡ []
  waits_after-none pending s t j none u = none_waits-of_statement (t == u) (slice_get (thread_code program t) j)
    where
      -- By the statement, of this thread or of another.
      none_waits-of_statement : (b : Bool) (o : Option Stmt)
          → (if b then own_waits false (entry_location source_language o) j (pending u) else pending u) ≡ []
      none_waits-of_statement false o = none u
      none_waits-of_statement true None = none u
      none_waits-of_statement true (Some i) = none u

  -- If no store waits, a step executes a statement of its thread.
  ExecutesItem-source_step : (t : ℕ) (pending : ℕ → List ℕ) (s mid : State)
      → NoneWaits pending s
      → source_step program t s ≡ Ok mid
      → ExecutesItem source_language program (source_item_system test) thread_position NoneWaits pending s mid
  ExecutesItem-source_step t pending s mid none step =
      ExecutesItem-of_statement (slice_get (thread_code program t) flow_step.from) refl flow_step.follows
    where
      -- The step goes to a successor in the thread's flow.
      flow_step : FollowsFlow program t s mid
      flow_step = FollowsFlow-source_step program t s mid step

      -- False is not true: so anything follows, since an item of a source test is no drain.
      absurd_if_true : {X : Type 0} → false ≡ true → X
      absurd_if_true e = absurd (true≢false (sym e))

      -- By the statement at the thread's position.
      ExecutesItem-of_statement : (o : Option Stmt)
          → slice_get (thread_code program t) flow_step.from ≡ o
          → IsFlowSuccessor source_language o flow_step.from flow_step.to
          → ExecutesItem source_language program (source_item_system test) thread_position NoneWaits pending s mid
      ExecutesItem-of_statement None at f = absurd f
      ExecutesItem-of_statement (Some i) at f = record {
        moves = record {
          item = item t flow_step.from false;
          statement = i;
          at = at;
          carried = (flow_step.was, step);
          old = flow_step.from;
          new = flow_step.to;
          was = flow_step.was;
          now = flow_step.now;
          others = λ u ne. source_step-other_position program t u s mid ne step;
          climbs = subst (λ (ws : List ℕ). IsAscendingBetween 0 ws flow_step.from) (sym (none t)) (omega arith);
          follows = λ e. (refl, f);
          waited = λ e w k h. subst (IsMember k) (none t) h;
          stays = λ e. absurd_if_true e;
          oldest = λ e. absurd_if_true e;
          store = λ e. absurd_if_true e;
        };
        sound = waits_after-none pending s t flow_step.from none;
      }

  -- The runs of a source test consist of steps.
  abbrev Steps : Event → State → Result (Unit {0}) Stop → State → Type 0
  Steps e s answer mid = (t : ℕ) × (source_step program t s ≡ Ok mid)

  -- The steps of threads in an order are a run of steps.
  RunsTo-only_steps : (order : List ℕ) (s end : State)
      → SourceRunsTo program (map Step order) s end
      → replays.RunsTo Steps (map Step order) s end
  RunsTo-only_steps [] s end ran = ran
  RunsTo-only_steps (t ∷ order) s end (mid, step, ran) = (mid, (t, step), RunsTo-only_steps order mid end ran)

  -- In the runs of a well-scoped source test each step executes an item, and no store waits.
  AreItemRuns-source : IsWellScopedSource test
      → AreItemRuns source_language program (source_item_system test) thread_position Steps NoneWaits
  AreItemRuns-source well_scoped = record {
    first = λ u. refl;
    starts = λ t l.
        position-at_start initial_thread (λ (x : Thread). x.position) (λ x. refl) test.head.init_regs t
        (omega (arith, l, well_scoped.head.regs, well_scoped.as_many));
    at_start = position-at_start_unique initial_thread (λ (x : Thread). x.position) (λ x. refl) test.head.init_regs;
    executes_item = λ e pending s mid none done. ExecutesItem-source_step done.0 pending s mid none done.1;
    ended =
        λ pending s none final t p e. (position_past_end-if_final program s t p final e, λ j h. subst (IsMember j) (none t) h);
  }

-- If an order follows its paths from z to `end`, the steps of its items' threads lead from z to `end`.
SourceRunsTo-of_order : (s : SourceTest) (items : List Item) (order : List ℕ) (z end : State)
    → OrderRunsTo (source_item_system s) items order z end
    → SourceRunsTo s.threads (map Step (threads_of items order)) z end
SourceRunsTo-of_order s items [] z end ran = ran
SourceRunsTo-of_order s items (i ∷ order) z end (next, (at, step), ran) =
    (next, step, SourceRunsTo-of_order s _ order next end ran)

-- If an order of items follows its paths to an outcome, the steps of its items' threads reach the outcome by interleaving.
pub InterleavesTo-of_order : (s : SourceTest) (items : List Item) (order : List ℕ) (o : FinalState)
    → SourceFollowsPathsToEnd s items order o
    → InterleavesTo s (threads_of items order) o
InterleavesTo-of_order s items order o r = record {
  end = r.end;
  ran = SourceRunsTo-of_order s items order (initial_state s) r.end r.ran;
  final = r.final;
  outcome_is = r.outcome_is;
}

-- An outcome of a well-scoped source test is one of a path assignment, and the reverse.
pub outcomes_are_those_of_path_assignments : (s : SourceTest) (o : FinalState)
    → IsWellScopedSource s
    → SourceOutcome s o
    ↔ ((paths : List (List ℕ)) × IsPathAssignment source_language s.threads paths × IsSourceAssignmentOutcome s paths o)
outcomes_are_those_of_path_assignments s o well_scoped = (
  λ (order, u).
      OfAssignment-of_run _ s.threads (source_item_system s) thread_position (Steps s) _ (AreItemRuns-source s well_scoped)
      (JumpsForward-thread source_language s well_scoped) (map Step order) u.end o
      (RunsTo-only_steps s order (initial_state s) u.end u.ran) u.final u.outcome_is,
  λ (paths, assignment, c). (
    threads_of (items_of source_language s.threads paths) c.order,
    InterleavesTo-of_order s (items_of source_language s.threads paths) c.order o c.run,
  ),
)
