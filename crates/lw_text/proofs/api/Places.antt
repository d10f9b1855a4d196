-- Tokens and cells in memory are those with positions, without their positions. The crates above use this.
use Rattle.lw_text.proofs.Common.{◌≡◌, List, [], ◌∷◌, refl, ap, ◌∙◌, Token, Cell, token_texts}
use Rattle.lw_text.proofs.Common.{texts_of_tokens, texts_of_cells, texts_of_grid, with_spans, placed_row}
use Rattle.lw_text.proofs.Common.{placed_cells, cells_texts, all_texts}

-- The texts of tokens with positions are those of the tokens.
pub texts_placed : (ts : List Token) → texts_of_tokens (with_spans ts) ≡ token_texts ts
texts_placed [] = refl
texts_placed (t ∷ ts) = ap (λ x. t.text.now ∷ x) (texts_placed ts)

-- Cells in memory with their positions added and removed are unchanged.
pub cells_placed : {A : Type 0} (cells : List (Cell A)) → texts_of_cells (placed_row cells) ≡ cells_texts cells
cells_placed [] = refl
cells_placed (cell ∷ cells) =
    ap (λ x. x ∷ texts_of_cells (placed_row cells)) (texts_placed cell.tokens)
    ∙ ap (λ xs. token_texts cell.tokens ∷ xs) (cells_placed cells)

-- Rows of cells with their positions added and removed are unchanged.
pub grid_placed : {A : Type 0} (rows : List (List (Cell A))) → texts_of_grid (placed_cells rows) ≡ all_texts rows
grid_placed [] = refl
grid_placed (row ∷ rows) =
    ap (λ x. x ∷ texts_of_grid (placed_cells rows)) (cells_placed row) ∙ ap (λ xs. cells_texts row ∷ xs) (grid_placed rows)
