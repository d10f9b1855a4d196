-- The table of a test's locations: their names in the order of first appearance.
use Rattle.std.specs.Prelude.{ℕ, Bool, if◌then◌else◌, List, [], ◌∷◌, ◌++◌}
use Rattle.std.specs.List.{list_any, position_or_len}
use Rattle.std.specs.Str.{bytes_eq}
use Rattle.lw_base.specs.Types.{Bytes, NameTable}

-- Tests whether a name is in a table.
abbrev pub contains_name : NameTable → Bytes → Bool
contains_name names n = list_any (λ m. bytes_eq m n) names

-- The table after a name appears: the name is appended, unless the table has it.
abbrev pub insert_name : NameTable → Bytes → NameTable
insert_name names n = if contains_name names n then names else names ++ n ∷ []

-- The table after names appear in sequence.
abbrev pub insert_names : NameTable → List Bytes → NameTable
insert_names names [] = names
insert_names names (n ∷ ns) = insert_names (insert_name names n) ns

-- The index of a name in a table, or the table's length if it does not have the name.
abbrev pub position_of_name : NameTable → Bytes → ℕ
position_of_name names n = position_or_len (λ m. bytes_eq m n) names
