-- Short names for frequent types.
use Rattle.std.specs.Prelude.{ℕ, List}

-- The bytes of a text, a name or a token.
abbrev pub Bytes : Type 0
Bytes = List ℕ

-- The names of a test's locations. The index of a location is that of its name.
abbrev pub NameTable : Type 0
NameTable = List Bytes

-- A sequence of tokens.
abbrev pub TokenList : Type 0
TokenList = List Bytes

-- The tokens of each cell of a row, or of a column.
abbrev pub Cells : Type 0
Cells = List TokenList

-- The tokens of all cells.
abbrev pub CellGrid : Type 0
CellGrid = List Cells
