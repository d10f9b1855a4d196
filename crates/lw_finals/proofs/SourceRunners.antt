-- The schedules of the orders of a source test's items reach the orders' outcomes. For `entry` and `has_kept`
-- of the source runner.
use Rattle.lw_finals.proofs.Common.{◌≡◌, ◌<◌, length, ℕ, subst, List, [], ◌∷◌, ◌++◌, refl, sym, ap, ap₂, ◌∙◌}
use Rattle.lw_finals.proofs.Common.{All, slice_get, All-nil, All-cons, slice_get_within, same_Some}
use Rattle.lw_finals.proofs.Common.{slice_get-map_inv, StepEffect-of_step, FinalState, thread_code, Event}
use Rattle.lw_finals.proofs.Common.{Stmt, Thread, State, InterleavesTo, initial_state, flat_memory, ReplaysTo}
use Rattle.lw_finals.proofs.Common.{SourceTest, statement_events, thread_events, after_step}
use Rattle.lw_finals.proofs.Common.{compiled_schedule, Item, item_at, OrderRunsTo, source_item_system}
use Rattle.lw_finals.proofs.Common.{SourceFollowsPathsToEnd, ReplaysFlatTo, CompiledSource, HasStatementAt}
use Rattle.lw_finals.proofs.Common.{events_at, item_events, threads_of, SourceItemTransition}
use Rattle.lw_finals.proofs.SourceOutcomes.{InterleavesTo-of_order}

-- If an item is executed, its thread has a statement at its position.
HasStatementAt-if_executed : (program : List (List Stmt)) (item : Item) (s next : State)
    → SourceItemTransition program item s next
    → HasStatementAt program item
HasStatementAt-if_executed program item s next (at, step) =
    let a = slice_get-map_inv (λ (th : Thread). th.position) s.threads item.thread item.position at in
    let d = StepEffect-of_step program item.thread s next step in
    let same_thread : a.0 ≡ d.thread = same_Some a.0 d.thread (sym a.1 ∙ d.was) in
    let index_in : item.position ≡ d.thread.position = a.2 ∙ ap (λ (th : Thread). th.position) same_thread in
    subst (λ (k : ℕ). k < length (thread_code program item.thread)) (sym index_in) (slice_get_within _ _ d.stmt d.at)

-- If an order of items is executed, the thread of each of them has a statement at its position.
pub HasStatementAt-all_executed : (test : SourceTest) (items : List Item) (order : List ℕ) (s end : State)
    → OrderRunsTo (source_item_system test) items order s end
    → All (λ i. HasStatementAt test.threads (item_at items i)) order
HasStatementAt-all_executed test items [] s end ran = All-nil (λ i. HasStatementAt test.threads (item_at items i))
HasStatementAt-all_executed test items (i ∷ order) s end (next, carried, ran) =
    All-cons (λ j. HasStatementAt test.threads (item_at items j)) i order
    (HasStatementAt-if_executed test.threads (item_at items i) s next carried)
    (HasStatementAt-all_executed test items order next end ran)

-- If an order of items is executed, the compiled schedule of its threads has the events of these items.
compiled_schedule-of_items : (test : SourceTest) (starts : List (List ℕ)) (items : List Item) (order : List ℕ) (s end : State)
    → OrderRunsTo (source_item_system test) items order s end
    → compiled_schedule test.threads starts (threads_of items order) s ≡ item_events test.threads starts items order
compiled_schedule-of_items test starts items [] s end ran = refl
compiled_schedule-of_items test starts items (i ∷ order) s end (next, (at, step), ran) =
    let item : Item = item_at items i in
    let a = slice_get-map_inv (λ (th : Thread). th.position) s.threads item.thread item.position at in
    let here : thread_events test.threads starts item.thread (slice_get s.threads item.thread)
    ≡ events_at test.threads starts item =
    ap (thread_events test.threads starts item.thread) a.1
    ∙ ap (λ (j : ℕ).
    statement_events item.thread (thread_code starts item.thread) j (slice_get (thread_code test.threads item.thread) j))
    (sym a.2) in
    ap₂ (λ (es fs : List Event). es ++ fs) here
    (ap (λ o. after_step o (compiled_schedule test.threads starts (threads_of items order))) step
    ∙ compiled_schedule-of_items test starts items order next end ran)

-- If an order of a source test's items reaches an outcome, and compiled schedules replay, the events of its items replay to
-- this outcome.
pub ReplaysTo-item_events : (t : CompiledSource) (items : List Item) (order : List ℕ) (events : List Event) (o : FinalState)
    → SourceFollowsPathsToEnd t.source items order o
    → events ≡ item_events t.source.threads t.starts items order
    → ((p : FinalState)
    → InterleavesTo t.source (threads_of items order) p
    → ReplaysTo flat_memory t.program t.program.head.init_words
    (compiled_schedule t.source.threads t.starts (threads_of items order) (initial_state t.source)) p)
    → ReplaysFlatTo t.program events o
ReplaysTo-item_events t items order events o stays is replays =
    subst (λ (es : List Event). ReplaysTo flat_memory t.program t.program.head.init_words es o)
    (compiled_schedule-of_items t.source t.starts items order (initial_state t.source) stays.end stays.ran ∙ sym is)
    (replays o (InterleavesTo-of_order t.source items order o stays))
