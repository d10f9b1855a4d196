-- The maximum numbers of items and orders. The code's constants are these numbers, as src/limits.rt proves.
use Rattle.std.specs.Prelude.{ℕ, ◌^◌}

-- The maximum number of items.
abbrev pub most_items : ℕ
most_items = 128

-- The maximum number of unordered conflicts.
abbrev pub most_unordered : ℕ
most_unordered = 20

-- The maximum number of orders: each unordered conflict has two orientations.
abbrev pub most_orders : ℕ
most_orders = 2 ^ most_unordered
