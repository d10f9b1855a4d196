-- The runner of a source test's orders: the test with its compiled program. Used only within the crate.
use Rattle.std.specs.Prelude.{ℕ, ◌<◌, List, length, map, slice_get}
use Rattle.std.specs.List.{flat_map}
use Rattle.lw_base.specs.Threads.{thread_code}
use Rattle.lw_base.specs.declared.event.Event.{Event}
use Rattle.lw_litmus.specs.Tests.{SourceTest, X86Test}
use Rattle.lw_fence.specs.Schedules.{statement_events}
use Rattle.lw_litmus.specs.declared.stmt.Stmt.{Stmt}
use Rattle.lw_paths.specs.declared.item.Item.{Item}
use Rattle.lw_paths.specs.Items.{item_at}

-- A source test, its compiled program, and the first instruction of each statement.
pub record CompiledSource : Type 0 where
  pub source : SourceTest
  pub program : X86Test
  pub starts : List (List ℕ)

-- The threads of an order's items.
abbrev pub threads_of : List Item → List ℕ → List ℕ
threads_of items order = map (λ i. (item_at items i).thread) order

-- An item's thread has a statement at the item's position.
abbrev pub HasStatementAt : List (List Stmt) → Item → Type 0
HasStatementAt program item = item.position < length (thread_code program item.thread)

-- The events of an item's statement.
abbrev pub events_at : List (List Stmt) → List (List ℕ) → Item → List Event
events_at program starts item =
    statement_events item.thread (thread_code starts item.thread) item.position (slice_get (thread_code program item.thread) item.position)

-- The events of an order's items, concatenated.
abbrev pub item_events : List (List Stmt) → List (List ℕ) → List Item → List ℕ → List Event
item_events program starts items order = flat_map (λ i. events_at program starts (item_at items i)) order
