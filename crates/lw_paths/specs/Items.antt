-- The items of a path assignment, in either language: what the orders are orders of; which pairs of them are preserved, and which conflict.
use Rattle.std.specs.Prelude.{ℕ, zero, suc, ◌==◌, Bool, true, false, not, ◌&&◌, ◌||◌, if◌then◌else◌, Option, Some, None, List, [], ◌∷◌, ◌++◌, length, map, filter}
use Rattle.std.specs.Prelude.{slice_get, slice_index_or}
use Rattle.std.specs.List.{flat_map}
use Rattle.std.specs.Option.{option_map_or}
use Rattle.lw_base.specs.Threads.{thread_code}
use Rattle.lw_litmus.specs.Conflicts.{is_same_location, is_written}
use Rattle.lw_litmus.specs.Languages.{Language}
use Rattle.lw_litmus.specs.Operations.{location_of, is_store}
use Rattle.lw_litmus.specs.Operations as operations
use Rattle.lw_orders.specs.Order.{Constraints}
use Rattle.lw_orders.specs.Sequence.{indices}
use Rattle.lw_paths.specs.declared.item.Item.{Item}

-- The item with index i.
abbrev pub item_at : List Item → ℕ → Item
item_at items i = slice_index_or items i (record { thread = 0; position = 0; is_drain = false })

-- The pairs of n numbers from k up, the lower first, sorted.
abbrev pub pairs_from : ℕ → ℕ → List (ℕ × ℕ)
pairs_from k zero = []
pairs_from k (suc n) = map (λ j. (k, j)) (indices (suc k) n) ++ pairs_from (suc k) n

-- Tests whether both are statements, which a thread executes in the order of its path.
abbrev pub are_statements : Item → Item → Bool
are_statements a b = not a.is_drain && not b.is_drain

-- Tests whether the first is a store, and the second the drain of its entry.
abbrev pub is_store_drained : Item → Item → Bool
is_store_drained a b = not a.is_drain && (b.is_drain && (a.position == b.position))

-- Tests whether both are drains. A store buffer is first in, first out.
abbrev pub are_drains : Item → Item → Bool
are_drains a b = a.is_drain && b.is_drain

module _ {S : Type 0} (language : Language S) where
  -- Tests whether the statement is a store to a store buffer, so that its drain is an item.
  abbrev pub is_drained : S → Bool
  is_drained s = language.is_buffered && is_store (language.operation_of s)

  -- The location that the statement itself reads or writes. `None` for a store whose drain does.
  abbrev pub accessed_by_statement : S → Option ℕ
  accessed_by_statement s = if is_drained s then None else location_of (language.operation_of s)

  -- The location that the drain of a statement's entry writes, if it has one.
  abbrev pub drained_location : S → Option ℕ
  drained_location s = if is_drained s then location_of (language.operation_of s) else None

  -- Tests whether a statement needs all earlier entries drained.
  abbrev pub statement_needs_empty_buffer : S → Bool
  statement_needs_empty_buffer s = language.is_buffered && operations.needs_empty_buffer (language.operation_of s)

  -- The items of a statement: itself, and its drain if it has one.
  abbrev pub items_at : ℕ → ℕ → Option S → List Item
  items_at t j None = []
  items_at t j (Some s) =
      record { thread = t; position = j; is_drain = false }
      ∷ option_map_or (λ x. record { thread = t; position = j; is_drain = true } ∷ []) (drained_location s) []

  -- The items of the statements along a thread's path.
  abbrev pub path_items : ℕ → List S → List ℕ → List Item
  path_items t code path = flat_map (λ j. items_at t j (slice_get code j)) path

  -- The items of a path assignment, thread by thread, from thread t on.
  abbrev pub items_from : ℕ → List (List S) → List (List ℕ) → List Item
  items_from t [] paths = []
  items_from t (code ∷ program) [] = []
  items_from t (code ∷ program) (path ∷ paths) = path_items t code path ++ items_from (suc t) program paths

  -- The items of a path assignment. The number of an item is its index here.
  abbrev pub items_of : List (List S) → List (List ℕ) → List Item
  items_of program paths = items_from 0 program paths

  -- The statement of an item.
  abbrev pub statement_of : List (List S) → Item → Option S
  statement_of program item = slice_get (thread_code program item.thread) item.position

  -- The location that an item accesses: that of the statement's drain (`true`), or that of the statement itself (`false`).
  abbrev pub location_by : Bool → S → Option ℕ
  location_by true s = drained_location s
  location_by false s = accessed_by_statement s

  -- Tests whether an item writes its location: a drain does (`true`), and so does a statement (`false`) that writes by itself.
  abbrev pub writes_by : Bool → S → Bool
  writes_by true s = true
  writes_by false s = is_written language s

  -- Tests whether two items conflict, from their statements, and whether each is a drain (d and e). Without a statement an item
  -- conflicts with none.
  abbrev pub conflict_by : Bool → Bool → Option S → Option S → Bool
  conflict_by d e None b = false
  conflict_by d e (Some a) None = false
  conflict_by d e (Some a) (Some b) = is_same_location (location_by d a) (location_by e b) && (writes_by d a || writes_by e b)

  -- Tests whether two items conflict: they access one location, and at least one writes it.
  abbrev pub items_conflict : List (List S) → Item → Item → Bool
  items_conflict program a b = conflict_by a.is_drain b.is_drain (statement_of program a) (statement_of program b)

  -- Tests whether the statement of an item needs all earlier entries drained.
  abbrev pub needs_earlier_drains : List (List S) → Item → Bool
  needs_earlier_drains program a = option_map_or statement_needs_empty_buffer (statement_of program a) false

  -- Tests whether the first is a drain, and the second a statement that needs an empty store buffer.
  abbrev pub must_drain_first : List (List S) → Item → Item → Bool
  must_drain_first program a b = a.is_drain && (not b.is_drain && needs_earlier_drains program b)

  -- Tests whether two items of a thread keep their order: both are statements, they are a store and its drain, both are drains, or the
  -- later one needs the drain of the first.
  abbrev pub is_preserved : List (List S) → Item → Item → Bool
  is_preserved program a b =
      (a.thread == b.thread) && (are_statements a b || (is_store_drained a b || (are_drains a b || must_drain_first program a b)))

  -- The items, with their preserved pairs and their conflicts.
  abbrev pub constraints_of : List (List S) → List Item → Constraints
  constraints_of program items = record {
    len = length items;
    preserved = filter (λ (p : ℕ × ℕ). is_preserved program (item_at items p.0) (item_at items p.1)) (pairs_from 0 (length items));
    conflicts = filter (λ (p : ℕ × ℕ). items_conflict program (item_at items p.0) (item_at items p.1)) (pairs_from 0 (length items));
  }
