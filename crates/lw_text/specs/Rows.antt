-- The header and the rows of a test, on its tokens.
use Rattle.std.specs.Prelude.{◌≡◌, ℕ, zero, suc, ◌≤◌, ◌||◌, Bool, false, List, [], ◌∷◌, ◌++◌, length, map, slice_get, codes}
use Rattle.std.specs.List.{list_any, filter_map, range_with_len, AllByRecursion}
use Rattle.std.specs.Str.{bytes_eq}
use Rattle.lw_base.specs.Limits.{most_rows, most_threads}
use Rattle.lw_base.specs.Characters.{byte, digit}
use Rattle.lw_base.specs.Types.{Bytes, TokenList, Cells, CellGrid}
use Rattle.lw_text.specs.Combinators.{ParsesSepBy, ParsesManyTill}

-- The name of a thread: `P0`, `P1` and so on.
abbrev pub thread_name : ℕ → Bytes
thread_name k = byte "P" ∷ digit k ∷ []

-- The names of n threads from the k-th on, separated by `|`, ended by `;`.
abbrev pub Names : ℕ → ℕ → TokenList → TokenList → Type 0
Names k zero ts rest = ⊥
Names k (suc zero) ts rest = ts ≡ thread_name k ∷ codes ";" ∷ rest
Names k (suc (suc m)) ts rest =
    (mid : TokenList) × (ts ≡ thread_name k ∷ codes "|" ∷ mid) × Names (suc k) (suc m) mid rest

-- The header: the names of the threads, of which there are not too many.
abbrev pub Header : TokenList → ℕ → TokenList → Type 0
Header ts threads rest = Names 0 threads ts rest × (threads ≤ most_threads)

-- Tests whether a token ends a cell: a `|` or a `;`.
abbrev pub ends_cell : Bytes → Bool
ends_cell t = bytes_eq t (codes "|") || bytes_eq t (codes ";")

-- The tokens begin with those of a cell: any tokens except `|` and `;`.
abbrev pub Cell : TokenList → TokenList → TokenList → Type 0
Cell ts cell rest = (ts ≡ cell ++ rest) × AllByRecursion (λ t. ends_cell t ≡ false) cell

-- Cells, separated by `|`, ended by `;`.
abbrev pub RowCells : TokenList → Cells → TokenList → Type 0
RowCells ts cells rest = ParsesSepBy Cell (codes "|") (codes ";") ts cells rest

-- A cell for each thread, separated by `|`, ended by `;`.
abbrev pub Row : ℕ → TokenList → Cells → TokenList → Type 0
Row threads ts cells rest = RowCells ts cells rest × (length cells ≡ threads)

-- Tests whether a token ends the rows: the list of names or the condition begins with it; or it is `filter`, which herd has before the
-- condition and which no test here may have.
abbrev pub is_stop : Bytes → Bool
is_stop t =
    list_any (λ w. bytes_eq t w) (codes "locations" ∷ codes "exists" ∷ codes "forall"
    ∷ codes "filter" ∷ codes "~" ∷ [])

-- Tests whether the tokens begin with one that ends the rows.
abbrev pub begins_stop : TokenList → Bool
begins_stop [] = false
begins_stop (t ∷ ts) = is_stop t

-- The tokens begin with these rows, not too many, and rest begins with a token that ends rows.
abbrev pub Rows : ℕ → TokenList → CellGrid → TokenList → Type 0
Rows threads ts rows rest = ParsesManyTill begins_stop (Row threads) ts rows rest × (length rows ≤ most_rows)

-- The column at this index: the item of each row, from top to bottom.
abbrev pub column : {X : Type 0} → List (List X) → ℕ → List X
column rows k = filter_map (λ row. slice_get row k) rows

-- The first `threads` columns of the rows.
abbrev pub columns : {X : Type 0} → ℕ → List (List X) → List (List X)
columns threads rows = map (column rows) (range_with_len 0 threads)
