-- Cells and rows in memory, each token with its position, are parts of the tokens. The contracts of
-- `parse_row` and `parse_rows` speak of both, of texts and of positions.
use Rattle.lw_text.proofs.Common.{◌≡◌, ℕ, ◌≤◌, true, false, List, [], ◌∷◌, ◌++◌, refl, sym, ap, ◌∙◌, subst}
use Rattle.lw_text.proofs.Common.{All, codes, bytes_eq, AllByRecursion, map-append, map_push}
use Rattle.lw_text.proofs.Common.{All-from_recursion, Arch, Token, Cell, token_texts, IsSuffix, Bytes, Cursor}
use Rattle.lw_text.proofs.Common.{ends_cell, RowCells, Rows, PlacedToken, texts_of_tokens, PlacedCell}
use Rattle.lw_text.proofs.Common.{texts_of_grid, CellsFrom, RowsFrom, HasRows, with_span, with_spans}
use Rattle.lw_text.proofs.Common.{placed_cell, placed_row, placed_cells, all_texts, EndsBefore, cell_texts}
use Rattle.lw_text.proofs.Common.{cells_texts, remaining, remaining_texts, ParsedCell, AllByRecursion-of_All}
use Rattle.lw_text.proofs.Common.{AllByRecursion-map, All-append_inv, All-map_inv}
use Rattle.lw_text.proofs.Cells.{mark_is_bar}
use Rattle.lw_text.proofs.Lists.{ParsesMany-push, AreReadSepBy, ParsesSepBy-close}
use Rattle.lw_text.proofs.Texts.{bytes_equal}
use Rattle.lw_text.proofs.api.Places.{texts_placed, grid_placed}
use Rattle.lw_text.specs.Rows as words

-- ---- without positions

-- Rows of tokens in memory are rows of the same tokens without their positions.
pub Rows-with_spans : {A : Type 0} (n : ℕ) (ts rest : List Token) (rows : List (List (Cell A)))
    → Rows n (token_texts ts) (all_texts rows) (token_texts rest)
    → Rows n (texts_of_tokens (with_spans ts)) (texts_of_grid (placed_cells rows)) (texts_of_tokens (with_spans rest))
Rows-with_spans n ts rest rows r = rw (texts_placed ts, grid_placed rows, texts_placed rest) r

-- Tokens with their positions are those before a suffix, followed by those of the suffix.
pub with_spans-of_suffix : (whole later : List Token) (l : IsSuffix whole later)
    → with_spans whole ≡ with_spans l.0 ++ with_spans later
with_spans-of_suffix whole later l = ap with_spans l.1 ∙ map-append with_span l.0 later

-- ---- one more cell, and one more row

-- A cell is at the start of the tokens, followed by the mark that ends it.
record IsFrontCell (here : List PlacedToken) (cell : PlacedCell) (mark : PlacedToken) (after : List PlacedToken) : Type 0 where
  pub parts : here ≡ cell.tokens ++ mark ∷ after
  pub is_mark : ends_cell mark.text ≡ true
  pub at_end : mark.at ≡ cell.end

-- Reading one more cell, with the mark that ends it, extends the cells read from the tokens.
CellsFrom-push : (before : List PlacedToken) (cells : List PlacedCell) {here after : List PlacedToken} {cell : PlacedCell}
    {mark : PlacedToken}
    → CellsFrom before cells here
    → IsFrontCell here cell mark after
    → CellsFrom before (cells ++ cell ∷ []) after
CellsFrom-push before [] {after = after} {mark = mark} cut front =
    (mark, after, cut ∙ front.parts, front.is_mark, front.at_end, refl)
CellsFrom-push before (c ∷ cells) cut front = (cut.0, cut.1, cut.2, cut.3, cut.4, CellsFrom-push cut.1 cells cut.5 front)

-- These cells have been read, each followed by `|`, and `here` remains.
pub record CellsRead {A : Type 0} (start here : List Token) (cells : List (Cell A)) : Type 0 where
  pub before : AreReadSepBy words.Cell (codes "|") (codes ";") (token_texts start) (cells_texts cells) (token_texts here)
  pub cut : CellsFrom (with_spans start) (placed_row cells) (with_spans here)

module _ {A : Type 0} {start : List Token} {here after : Cursor} {cells : List (Cell A)}
    (read : CellsRead start (remaining here) cells) {tokens : List Token} {mark : Token}
    (taken : ParsedCell here after tokens mark) where
  -- The cells read, and this one.
  abbrev cells_so_far : List (Cell A)
  cells_so_far = cells ++ record { tokens = tokens; end = mark.at } ∷ []

  -- The tokens before the mark parse as a cell, which the mark, with its text w, and the remaining tokens follow.
  Cell-by_mark : (w : Bytes)
      → mark.text.now ≡ w
      → words.Cell (remaining_texts here) (token_texts tokens) (w ∷ remaining_texts after)
  Cell-by_mark w e = (
    ap token_texts taken.parts
        ∙ map-append (λ (t : Token). t.text.now) tokens (mark ∷ remaining after)
        ∙ ap (λ m. token_texts tokens ++ m ∷ remaining_texts after) e,
    taken.plain,
  )

  -- The cells read so far and this one, with their positions, are read from the tokens up to those that remain after the mark.
  CellsFrom-next_cell : CellsFrom (with_spans start) (placed_row cells_so_far) (with_spans (remaining after))
  CellsFrom-next_cell =
      rw (map-append placed_cell cells (record { tokens = tokens; end = mark.at } ∷ []))
      (CellsFrom-push (with_spans start) (placed_row cells) {mark = with_span mark} read.cut (record {
        parts = ap with_spans taken.parts ∙ map-append with_span tokens (mark ∷ remaining after);
        is_mark = taken.ends;
        at_end = refl;
      }))

  -- If `|` ends the next cell, it is one more cell read.
  pub CellsRead-push : bytes_eq mark.text.now (codes ";") ≡ false → CellsRead start (remaining after) cells_so_far
  CellsRead-push e = record {
    before =
        rw (map_push cell_texts cells (record { tokens = tokens; end = mark.at }))
        (ParsesMany-push _ _ _ (remaining_texts here) (remaining_texts after) _ read.before
        (Cell-by_mark (codes "|") (mark_is_bar mark.text.now taken.ends e)));
    cut = CellsFrom-next_cell;
  }

  -- If `;` ends the next cell, the cells read with it are a whole row.
  pub RowCells-CellsRead : bytes_eq mark.text.now (codes ";") ≡ true
      → RowCells (token_texts start) (cells_texts cells_so_far) (remaining_texts after)
      × CellsFrom (with_spans start) (placed_row cells_so_far) (with_spans (remaining after))
  RowCells-CellsRead e = (
    rw (map_push cell_texts cells (record { tokens = tokens; end = mark.at }))
        (ParsesSepBy-close words.Cell _ (codes ";") _ _ (remaining_texts here) _ _ read.before
        (Cell-by_mark (codes ";") (bytes_equal _ (codes ";") e))),
    CellsFrom-next_cell,
  )

-- Reading one more row extends the rows read from the tokens.
pub RowsFrom-push : {A : Type 0} (before here after : List Token) (rows : List (List (Cell A))) (row : List (Cell A))
    → RowsFrom (with_spans before) (placed_cells rows) (with_spans here)
    → CellsFrom (with_spans here) (placed_row row) (with_spans after)
    → RowsFrom (with_spans before) (placed_cells (rows ++ row ∷ [])) (with_spans after)
RowsFrom-push before here after rows row cut more =
    subst (λ rs. RowsFrom (with_spans before) rs (with_spans after)) (sym (map-append placed_row rows (row ∷ [])))
    (ParsesMany-push CellsFrom (placed_cells rows) _ (with_spans here) _ (placed_row row) cut more)

-- ---- no position is past the end

-- Every token is at or before this position.
abbrev Within : ℕ → List PlacedToken → Type 0
Within len ts = AllByRecursion (λ t. t.at ≤ len) ts

-- If tokens are within a position, so are the cells read from them, and the tokens after these.
EndsBefore-CellsFrom : {A : Type 0} (len : ℕ) (ts : List PlacedToken) (cells : List (Cell A)) (rest : List PlacedToken)
    → CellsFrom ts (placed_row cells) rest
    → Within len ts
    → AllByRecursion (EndsBefore len) cells × Within len rest
EndsBefore-CellsFrom len ts [] rest cut all = (tt, subst (Within len) cut all)
EndsBefore-CellsFrom len ts (cell ∷ cells) rest cut all =
    let parts = All-append_inv _ (with_spans cell.tokens) (cut.0 ∷ cut.1) (subst (Within len) cut.2 all) in
    let end : cell.end ≤ len = subst (λ (n : ℕ). n ≤ len) cut.4 parts.1.0 in
    let more = EndsBefore-CellsFrom len cut.1 cells rest cut.5 parts.1.1 in
    ((((All-from_recursion _ cell.tokens (All-map_inv _ with_span cell.tokens parts.0)), end), more.0), more.1)

-- If tokens are within a position, so are the rows read from them.
EndsBefore-RowsFrom : {A : Type 0} (len : ℕ) (ts : List PlacedToken) (rows : List (List (Cell A))) (rest : List PlacedToken)
    → RowsFrom ts (placed_cells rows) rest
    → Within len ts
    → AllByRecursion (λ row. All (EndsBefore len) row) rows
EndsBefore-RowsFrom len ts [] rest cut all = tt
EndsBefore-RowsFrom len ts (row ∷ rows) rest cut all =
    let here = EndsBefore-CellsFrom len ts row cut.0 cut.1 all in
    (All-from_recursion (EndsBefore len) row here.0, EndsBefore-RowsFrom len cut.0 rows rest cut.2 here.1)

-- If all tokens are within a length, so are the cells of the rows that are read from them.
pub EndsBefore-HasRows : {A : Type 0} (len : ℕ) (arch : Arch) (tokens : List Token) (threads : ℕ) (rows : List (List (Cell A)))
    → HasRows arch (with_spans tokens) threads (placed_cells rows)
    → All (λ t. t.at ≤ len) tokens
    → All (λ row. All (EndsBefore len) row) rows
EndsBefore-HasRows len arch tokens threads rows has all =
    let each = AllByRecursion-map _ with_span tokens (AllByRecursion-of_All tokens (λ (t : Token). t.at ≤ len) all) in
    let later = (All-append_inv _ has.front has.after_header (subst (Within len) has.parts each)).1 in
    All-from_recursion _ rows (EndsBefore-RowsFrom len has.after_header rows has.after_rows has.cut later)
