-- The reduced pairs: the preserved pairs with which the orders of items are computed. They are for speed only a part of all: an item's
-- pair with the last statement before it and, of a drain or a statement that needs earlier drains, its pair with the last drain. They
-- have the same transitive closure as all preserved pairs (`reduced_pairs_are_equivalent`), and may have pairs that follow from others.
use Rattle.std.specs.Prelude.{ℕ, suc, ◌==◌, Bool, true, false, if◌then◌else◌, Option, Some, None, List, [], ◌∷◌, ◌++◌, length}
use Rattle.lw_litmus.specs.Languages.{Language}
use Rattle.lw_orders.specs.Order.{Constraints}
use Rattle.lw_paths.specs.Items.{needs_earlier_drains, constraints_of}
use Rattle.lw_paths.specs.declared.item.Item.{Item}
use Rattle.lw_paths.specs.declared.item.LastItems.{LastItems}

-- The last statement and the last drain before the first item of a thread: `None` and `None`.
abbrev pub none_before : LastItems
none_before = record { statement = None; drain = None }

-- The pair of the item with number n and the earlier item m, or no pair if there is no earlier item (`None`).
abbrev pub edge_from : Option ℕ → ℕ → List (ℕ × ℕ)
edge_from None n = []
edge_from (Some m) n = (m, n) ∷ []

-- The reduced pairs of the item with number n: its pair with the last statement (of a drain, the drain's own store) and, if it is a drain
-- (the first argument) or a statement that needs earlier drains (the second), its pair with the last drain too.
abbrev pub reduced_at : Bool → Bool → LastItems → ℕ → List (ℕ × ℕ)
reduced_at true needs_drains last n = edge_from last.statement n ++ edge_from last.drain n
reduced_at false true last n = edge_from last.statement n ++ edge_from last.drain n
reduced_at false false last n = edge_from last.statement n

-- The last items of a thread after its item n: it becomes the last drain if it is a drain (`true`), otherwise the last statement.
abbrev pub record_last : Bool → LastItems → ℕ → LastItems
record_last true last n = record last { drain = Some n }
record_last false last n = record last { statement = Some n }

-- The last items before an item of thread u, if `last` has those of the thread t of the item before it: none if the threads differ.
abbrev pub last_of_thread : ℕ → ℕ → LastItems → LastItems
last_of_thread t u last = if t == u then last else none_before

module _ {S : Type 0} (language : Language S) where
  -- The reduced pairs of the items, which are numbered from n on; the item before them is of thread t, whose last items are `last`.
  abbrev pub reduced_from : List (List S) → ℕ → ℕ → LastItems → List Item → List (ℕ × ℕ)
  reduced_from program n t last [] = []
  reduced_from program n t last (a ∷ items) =
      reduced_at a.is_drain (needs_earlier_drains language program a) (last_of_thread t a.thread last) n
      ++ reduced_from program (suc n) a.thread (record_last a.is_drain (last_of_thread t a.thread last) n) items

  -- The constraints of the items by which their orders are computed: their reduced pairs and their conflicts.
  abbrev pub reduced_constraints_of : List (List S) → List Item → Constraints
  reduced_constraints_of program items = record {
    len = length items;
    preserved = reduced_from program 0 0 none_before items;
    conflicts = (constraints_of language program items).conflicts;
  }
