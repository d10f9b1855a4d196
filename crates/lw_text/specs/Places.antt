-- Tokens and cells in memory, as plain lists with and without offsets.
use Rattle.std.specs.Prelude.{ℕ, ◌≤◌, List, [], length, map, slice_index_or, All}
use Rattle.lw_base.specs.Types.{TokenList, Cells, CellGrid}
use Rattle.lw_text.specs.declared.token.Token.{Token}
use Rattle.lw_text.specs.declared.cell.Cell.{Cell}
use Rattle.lw_text.specs.Spans.{token_texts}
use Rattle.lw_text.specs.PlacedTokens.{PlacedToken}
use Rattle.lw_text.specs.PlacedCells.{PlacedCell}

-- The token of a `Token` in memory.
abbrev pub with_span : Token → PlacedToken
with_span t = record { at = t.at; text = t.text.now }

-- The tokens in memory, with their offsets.
abbrev pub with_spans : List Token → List PlacedToken
with_spans ts = map with_span ts

-- The cell of a `Cell` in memory.
abbrev pub placed_cell : {A : Type 0} → Cell A → PlacedCell
placed_cell cell = record { tokens = with_spans cell.tokens; end = cell.end }

-- The cells in memory, with the offsets of their tokens.
abbrev pub placed_row : {A : Type 0} → List (Cell A) → List PlacedCell
placed_row cells = map placed_cell cells

-- Rows or columns of cells in memory, with their offsets.
abbrev pub placed_cells : {A : Type 0} → List (List (Cell A)) → List (List PlacedCell)
placed_cells rows = map placed_row rows

-- The tokens of a cell in memory, without their offsets.
abbrev pub cell_texts : {A : Type 0} → Cell A → TokenList
cell_texts cell = token_texts cell.tokens

-- The cells in memory, without offsets.
abbrev pub cells_texts : {A : Type 0} → List (Cell A) → Cells
cells_texts cells = map cell_texts cells

-- Rows or columns of cells in memory, without offsets.
abbrev pub all_texts : {A : Type 0} → List (List (Cell A)) → CellGrid
all_texts rows = map cells_texts rows

-- Every token of the cell, and its end, is at or before this offset.
abbrev pub EndsBefore : {A : Type 0} → ℕ → Cell A → Type 0
EndsBefore len cell = All (λ t. t.at ≤ len) cell.tokens × (cell.end ≤ len)

-- The number of rows of columns.
abbrev pub height : {X : Type 0} → List (List X) → ℕ
height columns = length (slice_index_or columns 0 [])
