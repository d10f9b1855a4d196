-- The cells of a text with the offsets of their tokens, as its token stream has them.
use Rattle.std.specs.Prelude.{◌≡◌, ℕ, true, List, [], ◌∷◌, ◌++◌, length, map}
use Rattle.lw_base.specs.Types.{Bytes, TokenList, Cells, CellGrid}
use Rattle.lw_base.specs.declared.head.Arch.{Arch}
use Rattle.lw_text.specs.Preambles.{Preamble}
use Rattle.lw_text.specs.Combinators.{ParsesMany}
use Rattle.lw_text.specs.Rows.{Header, Rows, ends_cell, columns}
use Rattle.lw_text.specs.Frames.{InitializerSyntax, Block}
use Rattle.lw_text.specs.PlacedTokens.{PlacedToken, texts_of_tokens, PlacedTokens}

-- A cell: its tokens, and the offset of the `|` or `;` that ends it.
pub record PlacedCell : Type 0 where
  pub tokens : List PlacedToken
  pub end : ℕ

-- The cells, without the offsets of their tokens.
abbrev pub texts_of_cells : List PlacedCell → Cells
texts_of_cells cells = map (λ cell. texts_of_tokens cell.tokens) cells

-- Rows or columns of cells, without offsets.
abbrev pub texts_of_grid : List (List PlacedCell) → CellGrid
texts_of_grid rows = map texts_of_cells rows

-- The tokens are those of the cells, each followed by a mark at its end, and then rest.
abbrev pub CellsFrom : List PlacedToken → List PlacedCell → List PlacedToken → Type 0
CellsFrom ts [] rest = ts ≡ rest
CellsFrom ts (cell ∷ cells) rest =
    (mark : PlacedToken) × (after : List PlacedToken) × (ts ≡ cell.tokens ++ mark ∷ after)
    × (ends_cell mark.text ≡ true) × (mark.at ≡ cell.end) × CellsFrom after cells rest

-- The tokens are those of the rows' cells, followed by rest.
abbrev pub RowsFrom : List PlacedToken → List (List PlacedCell) → List PlacedToken → Type 0
RowsFrom ts rows rest = ParsesMany CellsFrom ts rows rest

-- The tokens are a block, the header of this number of threads, and these rows.
pub record HasRows (arch : Arch) (tokens : List PlacedToken) (threads : ℕ) (rows : List (List PlacedCell)) : Type 0 where
  pub initializers : List InitializerSyntax
  pub after_block : TokenList
  pub front : List PlacedToken
  pub after_header : List PlacedToken
  pub after_rows : List PlacedToken
  pub block : Block arch (texts_of_tokens tokens) initializers after_block
  pub header : Header after_block threads (texts_of_tokens after_header)
  pub parts : tokens ≡ front ++ after_header
  pub says : Rows threads (texts_of_tokens after_header) (texts_of_grid rows) (texts_of_tokens after_rows)
  pub cut : RowsFrom after_header rows after_rows

-- The cells of a text's frame, for each thread from top to bottom: the columns of the rows of its token stream.
pub record HasCells (text : Bytes) (cells : List (List PlacedCell)) : Type 0 where
  pub arch : Arch
  pub name : Bytes
  pub rest : Bytes
  pub preamble : Preamble text arch name rest
  pub tokens : List PlacedToken
  pub stream : PlacedTokens (length text) rest tokens
  pub threads : ℕ
  pub rows : List (List PlacedCell)
  pub has_rows : HasRows arch tokens threads rows
  pub cells_are : cells ≡ columns threads rows
