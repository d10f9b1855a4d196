-- Printed rows: their texts spell tokens, which are cells between bars. One part of a printed text
-- (PrintedFrames).
use Rattle.lw_x86.proofs.Common.{EndsNoCell, ◌≡◌, ℕ, zero, suc, ◌+◌, ◌*◌, ◌<◌, ◌≤◌, true, false, List, []}
use Rattle.lw_x86.proofs.Common.{◌∷◌, ◌++◌, map, length, refl, arith, append_assoc, codes, flat_map}
use Rattle.lw_x86.proofs.Common.{AllByRecursion, AllZip, range_with_len, agree_below_at}
use Rattle.lw_x86.proofs.Common.{length-map-range_with_len, Bytes, TokenList, Cells, CellGrid, first_byte_is}
use Rattle.lw_x86.proofs.Common.{is_blank, most_threads, ParsesManyTill, thread_name, Names, Header, RowCells}
use Rattle.lw_x86.proofs.Common.{Row, begins_stop, Anything, IsBlankNext, Spells, Spells-append}
use Rattle.lw_x86.proofs.Common.{Spells-append_anything, Spells-before, Spells-mono, Spells-nothing}
use Rattle.lw_x86.proofs.Common.{Spells-space, Spells-newline, Spells-single_symbol, Spells-name}
use Rattle.lw_x86.proofs.Common.{is_name_text, name_by_test, blank_ends_name, row_text, header_text}
use Rattle.lw_x86.proofs.PrintedCells.{most_cell_bytes, IsPrintedCell}
use Rattle.lw_x86.proofs.PrintedSlots.{name_no_end}

-- ---- one row

-- The text of a row after its first cell: the other cells, each after a bar, and the end of the row.
abbrev text_after_first : List Bytes → Bytes
text_after_first cells = flat_map (λ next. codes " | " ++ next) cells ++ codes " ;\n"

-- The tokens of the cells after the first, each after a `|`, and the `;`.
abbrev pub tokens_after_first : Cells → TokenList
tokens_after_first [] = codes ";" ∷ []
tokens_after_first (t ∷ ts) = codes "|" ∷ (t ++ tokens_after_first ts)

-- The tokens of a row of cells.
abbrev pub row_tokens : Cells → TokenList
row_tokens [] = codes ";" ∷ []
row_tokens (t ∷ ts) = t ++ tokens_after_first ts

-- What follows a cell in its row starts with a blank.
blank_after_cell : (cells : List Bytes) (rest : Bytes) → first_byte_is is_blank (text_after_first cells ++ rest) ≡ true
blank_after_cell [] rest = refl
blank_after_cell (c ∷ cells) rest = refl

-- The maximum length of a cell with ` | ` before it, in bytes.
abbrev most_bytes_after_bar : ℕ
most_bytes_after_bar = 3 + most_cell_bytes

-- ` | ` spells a bar.
Spells-bar : Spells Anything 3 (codes " | ") (codes "|" ∷ [])
Spells-bar =
    Spells-append_anything Spells-space
    (Spells-append_anything (Spells-single_symbol 124 refl (λ c. refl) refl (omega arith)) Spells-space)

-- ` ;` and the line's end spell a `;`.
row_end : Spells Anything 3 (codes " ;\n") (codes ";" ∷ [])
row_end =
    Spells-append_anything Spells-space
    (Spells-append_anything (Spells-single_symbol 59 refl (λ c. refl) refl (omega arith)) Spells-newline)

-- The text of the cells after the first spells their tokens.
after_spelled : (cells : List Bytes) (ts : Cells)
    → AllZip IsPrintedCell cells ts
    → Spells Anything (most_bytes_after_bar * length cells + 3) (text_after_first cells) (tokens_after_first ts)
after_spelled [] [] h = Spells-mono (most_bytes_after_bar * 0 + 3) (omega arith) row_end
after_spelled (c ∷ cells) (t ∷ ts) h =
    rw (append_assoc c)
    (Spells-mono (most_bytes_after_bar * suc (length cells) + 3) (omega arith)
    (Spells-append_anything Spells-bar
    (Spells-append (λ more g. blank_after_cell cells more) h.0.spells (after_spelled cells ts h.1))))
after_spelled cells ts h = absurd h

-- The text of a row spells its tokens.
pub row_spelled : (cells : List Bytes) (ts : Cells)
    → 1 ≤ length cells
    → AllZip IsPrintedCell cells ts
    → Spells Anything (most_bytes_after_bar * length cells + 1) (row_text cells) (row_tokens ts)
row_spelled [] ts some h = absurd (omega arith)
row_spelled (c ∷ cells) [] some h = absurd h
row_spelled (c ∷ cells) (t ∷ ts) some h =
    rw (append_assoc c)
    (Spells-mono (most_bytes_after_bar * suc (length cells) + 1) (omega arith)
    (Spells-append_anything Spells-space
    (Spells-append (λ more g. blank_after_cell cells more) h.0.spells (after_spelled cells ts h.1))))

-- ---- what the tokens of a row are

-- The tokens of a row say its cells.
pub RowCells-row_tokens : (t : TokenList) (ts : Cells) (rest : TokenList)
    → AllByRecursion EndsNoCell (t ∷ ts)
    → RowCells (row_tokens (t ∷ ts) ++ rest) (t ∷ ts) rest
RowCells-row_tokens t [] rest h = (append_assoc t (codes ";" ∷ []) rest, h.0)
RowCells-row_tokens t (u ∷ ts) rest h =
    (row_tokens (u ∷ ts) ++ rest, (append_assoc t (tokens_after_first (u ∷ ts)) rest, h.0), RowCells-row_tokens u ts rest h.1)

-- The tokens of a row are a row with a cell for each thread.
pub Row-row_tokens : (threads : ℕ) (ts : Cells) (rest : TokenList)
    → 1 ≤ threads
    → length ts ≡ threads
    → AllByRecursion EndsNoCell ts
    → Row threads (row_tokens ts ++ rest) ts rest
Row-row_tokens threads [] rest some long h = absurd (omega (arith, some, long))
Row-row_tokens threads (t ∷ ts) rest some long h = (RowCells-row_tokens t ts rest h, long)

-- If no cell starts as an end of the rows does, neither does the row.
row_starts : (ts : Cells) (rest : TokenList)
    → AllByRecursion (λ t. begins_stop t ≡ false) ts
    → begins_stop (row_tokens ts ++ rest) ≡ false
row_starts [] rest h = refl
row_starts ([] ∷ []) rest h = refl
row_starts ([] ∷ (u ∷ ts)) rest h = refl
row_starts ((w ∷ t) ∷ ts) rest h = h.0

-- The row has a cell for each thread, no cell contains an end of a cell, and none starts as an end of the rows does.
abbrev pub IsPlainRow : ℕ → Cells → Type 0
IsPlainRow threads ts = (length ts ≡ threads) × AllByRecursion EndsNoCell ts × AllByRecursion (λ t. begins_stop t ≡ false) ts

-- The tokens of plain rows are rows, up to what ends them.
pub ParsesManyTill-row_tokens : (threads : ℕ) (rows : CellGrid) (rest : TokenList)
    → 1 ≤ threads
    → AllByRecursion (IsPlainRow threads) rows
    → begins_stop rest ≡ true
    → ParsesManyTill begins_stop (Row threads) (flat_map row_tokens rows ++ rest) rows rest
ParsesManyTill-row_tokens threads [] rest some h stop = (refl, stop)
ParsesManyTill-row_tokens threads (row ∷ rows) rest some h stop =
    let more = flat_map row_tokens rows ++ rest in
    rw (append_assoc (row_tokens row)) (
      row_starts row more h.0.2,
      (more, Row-row_tokens threads row more some h.0.0 h.0.1, ParsesManyTill-row_tokens threads rows rest some h.1 stop),
    )

-- ---- the header

-- The tokens of the header: a name for each thread.
abbrev pub header_tokens : ℕ → TokenList
header_tokens threads = row_tokens (map (λ k. thread_name k ∷ []) (range_with_len 0 threads))

-- The name of a thread is printed as a cell.
thread_cell : (k : ℕ) → k < most_threads → IsPrintedCell (thread_name k) (thread_name k ∷ [])
thread_cell k lt =
    let name =
    name_by_test (thread_name k) (agree_below_at (λ j. is_name_text (thread_name j)) (λ j. true) most_threads k refl lt) in
    record {
      spells =
          Spells-mono most_cell_bytes (omega arith)
          (Spells-before IsBlankNext blank_ends_name (Spells-name (thread_name k) name));
      plain = (name_no_end (thread_name k) name, tt);
      starts = agree_below_at (λ j. begins_stop (thread_name j ∷ [])) (λ j. false) most_threads k refl lt;
    }

-- The tokens of n threads' names from the k-th on.
abbrev names_from : ℕ → ℕ → Cells
names_from k n = map (λ j. thread_name j ∷ []) (range_with_len k n)

-- The names of threads are printed as cells.
header_cells : (k n : ℕ) → k + n ≤ most_threads → AllZip IsPrintedCell (map thread_name (range_with_len k n)) (names_from k n)
header_cells k zero few = tt
header_cells k (suc n) few = (thread_cell k (omega (arith, few)), header_cells (k + 1) n (omega (arith, few)))

-- The maximum length of a row, in bytes.
abbrev pub row_bytes : ℕ
row_bytes = most_bytes_after_bar * most_threads + 1

-- The text of the header spells its tokens.
pub header_spelled : (threads : ℕ)
    → 1 ≤ threads
    → threads ≤ most_threads
    → Spells Anything row_bytes (header_text threads) (header_tokens threads)
header_spelled threads some few =
    let long = length-map-range_with_len thread_name 0 threads in
    Spells-mono row_bytes (omega (arith, long, few))
    (row_spelled (map thread_name (range_with_len 0 threads)) (names_from 0 threads) (omega (arith, long, some))
    (header_cells 0 threads (omega (arith, few))))

-- The tokens of `n + 1` threads' names from the k-th on say these names.
Names-row_tokens : (k n : ℕ) (rest : TokenList) → Names k (suc n) (row_tokens (names_from k (suc n)) ++ rest) rest
Names-row_tokens k zero rest = refl
Names-row_tokens k (suc n) rest =
    let next : k + 1 ≡ suc k = omega arith in
    (row_tokens (names_from (k + 1) (suc n)) ++ rest, refl, rw (← next) (Names-row_tokens (k + 1) n rest))

-- The tokens of the header say the number of threads.
pub Header-header_tokens : (threads : ℕ) (rest : TokenList)
    → 1 ≤ threads
    → threads ≤ most_threads
    → Header (header_tokens threads ++ rest) threads rest
Header-header_tokens zero rest some few = absurd (omega arith)
Header-header_tokens (suc n) rest some few = (Names-row_tokens 0 n rest, few)

-- ---- rows

-- Printed cells contain no end of a cell, and do not start as an end of the rows does.
plain_cells : (texts : List Bytes) (cells : Cells)
    → AllZip IsPrintedCell texts cells
    → AllByRecursion EndsNoCell cells × AllByRecursion (λ t. begins_stop t ≡ false) cells
plain_cells [] [] h = (tt, tt)
plain_cells (t ∷ texts) (c ∷ cells) h = let more = plain_cells texts cells h.1 in ((h.0.plain, more.0), (h.0.starts, more.1))
plain_cells texts cells h = absurd h

-- The texts and the tokens of rows, by the row's index.
module _ (text : ℕ → List Bytes) (row : ℕ → Cells) (threads most : ℕ) (some : 1 ≤ threads) (few : threads ≤ most_threads)
    (printed : (k : ℕ) → k < most → AllZip IsPrintedCell (text k) (row k)) (long : (k : ℕ) → length (text k) ≡ threads)
    (as_long : (k : ℕ) → length (row k) ≡ threads) where
  -- The texts of n rows from the k-th on spell their tokens.
  pub rows_spelled : (k n : ℕ)
      → k + n ≤ most
      → Spells Anything (row_bytes * n) (flat_map (λ j. row_text (text j)) (range_with_len k n))
      (flat_map row_tokens (map row (range_with_len k n)))
  rows_spelled k zero within = Spells-mono (row_bytes * 0) (omega arith) (Spells-nothing Anything)
  rows_spelled k (suc n) within =
      let e = long k in
      let here = row_spelled (text k) (row k) (omega (arith, e, some)) (printed k (omega (arith, within))) in
      Spells-mono (row_bytes * suc n) (omega arith)
      (Spells-append_anything (Spells-mono row_bytes (omega (arith, e, few)) here)
      (rows_spelled (k + 1) n (omega (arith, within))))

  -- The n rows from the k-th on are plain.
  pub rows_plain : (k n : ℕ) → k + n ≤ most → AllByRecursion (IsPlainRow threads) (map row (range_with_len k n))
  rows_plain k zero within = tt
  rows_plain k (suc n) within =
      let plain = plain_cells (text k) (row k) (printed k (omega (arith, within))) in
      ((as_long k, plain.0, plain.1), rows_plain (k + 1) n (omega (arith, within)))
