-- The cells of a thread, and those of a row: their number, and the text of each, as the code writes them. The
-- loops of rows.rt write them so, and the proofs that a printed test reads back begin with them.
use Rattle.lw_x86.proofs.Common.{◌≡◌, ℕ, zero, suc, ◌+◌, ◌<◌, ◌≤◌, ◌==◌, max, Bool, true, false, Option, Some}
use Rattle.lw_x86.proofs.Common.{None, List, [], ◌∷◌, ◌++◌, length, map, take, get_or, refl, ap, ◌∙◌, arith}
use Rattle.lw_x86.proofs.Common.{slice_get, slice_index_or, codes, nat_cmp, if◌then◌else◌, option_map}
use Rattle.lw_x86.proofs.Common.{nat_tests, slice_get-get_or, slice_get-map, slice_get_read, take_more}
use Rattle.lw_x86.proofs.Common.{map-append, length-map, list_any_none, fold-append, ForSome, option_map_or}
use Rattle.lw_x86.proofs.Common.{ord_max, IsWellFormedThread, Bytes, NameTable, Instr, branch_target}
use Rattle.lw_x86.proofs.Common.{x86_language, x86_operation, ord_max-is_max, label, jumps_to, is_target}
use Rattle.lw_x86.proofs.Common.{cell_text, end_cells, cells_from, cells_of, row_text, row_at, max_cell_count}

-- The text of a thread's cell at position k, by the instruction there, or none.
abbrev pub text_at_row : NameTable → List Instr → ℕ → Option Instr → Bytes
text_at_row names code k None = slice_index_or (end_cells code k) 0 []
text_at_row names code k (Some i) = cell_text names code k i

-- From position k on a thread has as many cells as instructions, plus one if its end has a label.
pub length-cells : (names : NameTable) (code : List Instr) (k : ℕ) (rest : List Instr)
    → length (cells_from names code k rest) ≡ length rest + length (end_cells code (k + length rest))
length-cells names code k [] = let here : k ≡ k + 0 = omega arith in ap (λ (n : ℕ). length (end_cells code n)) here ∙ omega arith
length-cells names code k (r ∷ rest) =
    let here : suc k + length rest ≡ k + suc (length rest) = omega arith in
    omega (arith, length-cells names code (suc k) rest, ap (λ (n : ℕ). length (end_cells code n)) here)

module _ (names : NameTable) (locs : ℕ) (code : List Instr) (thread : IsWellFormedThread x86_language locs code) where
  -- No instruction jumps past the end.
  is_target-false_past_end : (n : ℕ) → length code < n → is_target code n ≡ false
  is_target-false_past_end n past = list_any_none (jumps_to n) code (λ k i lt. go k _ (slice_get-get_or code k i lt))
    where
      -- No instruction of the code jumps past its end.
      go : (k : ℕ) (i : Instr) → slice_get code k ≡ Some i → jumps_to n i ≡ false
      go k i at = is_target-false_of_other (branch_target (x86_operation i)) (λ to e. (thread.forward k i at to e).1)
        where
          -- A jump that leads at most to the end does not lead past it.
          is_target-false_of_other : (target : Option ℕ)
              → ForSome target (λ to. to ≤ length code)
              → option_map_or (λ to. to == n) target false ≡ false
          is_target-false_of_other None within = refl
          is_target-false_of_other (Some to) within = let le : to ≤ length code = within to refl in grind (arith, nat_tests)

  -- The cells from position k on are, in each row, those of the instructions from there on.
  cell_from : (k : ℕ) (rest : List Instr) (j : ℕ)
      → k + length rest ≡ length code
      → slice_index_or (cells_from names code k rest) j [] ≡ text_at_row names code (k + j) (slice_get rest j)
  cell_from k [] zero is = let here : k ≡ k + 0 = omega arith in ap (λ (n : ℕ). slice_index_or (end_cells code n) 0 []) here
  cell_from k [] (suc j) is =
      no_cell_past_end (is_target code k) ∙ rw (is_target-false_past_end (k + suc j) (omega (arith, is))) refl
    where
      -- In the row of the end there is at most one cell: the end's label.
      no_cell_past_end : (b : Bool) → slice_index_or (if b then (label k ++ codes ":") ∷ [] else []) (suc j) [] ≡ []
      no_cell_past_end true = refl
      no_cell_past_end false = refl
  cell_from k (i ∷ rest) zero is = let here : k ≡ k + 0 = omega arith in ap (λ (n : ℕ). cell_text names code n i) here
  cell_from k (i ∷ rest) (suc j) is =
      let here : suc k + j ≡ k + suc j = omega arith in
      cell_from _ rest j (omega (arith, is)) ∙ ap (λ (n : ℕ). text_at_row names code n (slice_get rest j)) here

  -- A thread's cell in a row is that of the instruction there, or of the end.
  pub cells_of-get : (row : ℕ) → slice_index_or (cells_of names code) row [] ≡ text_at_row names code row (slice_get code row)
  cells_of-get row =
      let here : 0 + row ≡ row = omega arith in
      cell_from 0 code row (omega arith) ∙ ap (λ (n : ℕ). text_at_row names code n (slice_get code row)) here

-- A thread has as many cells as instructions, plus one if a jump targets its end.
pub length-cells_of : (names : NameTable) (code : List Instr) (n : ℕ)
    → n ≡ length code + length (end_cells code (length code))
    → n ≡ length (cells_of names code)
length-cells_of names code n is =
    let here : 0 + length code ≡ length code = omega arith in rw (length-cells names code 0 code, here) is

-- The maximum over the first `k + 1` threads is that over the first k and the next thread's number of cells.
pub max_cell_count-push : {X : Type 0} (f : X → List Bytes) (threads : List X) (k : ℕ) {code : X} {height count new : ℕ}
    → k < length threads
    → code ≡ get_or threads k code
    → height ≡ max_cell_count (map f (take k threads))
    → count ≡ length (f code)
    → new ≡ ord_max nat_cmp height count
    → new ≡ max_cell_count (map f (take (k + 1) threads))
max_cell_count-push f threads k {code} {height} {count} lt is before counted taken =
    rw (
      take_more threads k code lt,
      ← is,
      map-append f (take k threads) (code ∷ []),
      map-append length (map f (take k threads)) (f code ∷ []),
      fold-append max 0 (map length (map f (take k threads))) (length (f code) ∷ []),
      ← before,
      ← counted,
    ) (taken ∙ ord_max-is_max height count)

-- The cells of all threads in the row at an index.
module _ (names : NameTable) (threads : List (List Instr)) (row : ℕ) where
  -- A row has a cell for each thread.
  pub row_length : length (row_at (map (cells_of names) threads) row) ≡ length threads
  row_length = length-map (map (cells_of names) threads) _ ∙ length-map threads (cells_of names)

  -- A row has at a thread's index the text of that thread's cell in the row.
  pub row_at-get : (k : ℕ) (code : List Instr)
      → k < length threads
      → code ≡ get_or threads k code
      → slice_get (row_at (map (cells_of names) threads) row) k ≡ Some (slice_index_or (cells_of names code) row [])
  row_at-get k code lt is =
      slice_get-map _ _ k
      ∙ ap (option_map (λ cells. slice_index_or cells row []))
      (slice_get-map _ threads k ∙ ap (option_map (cells_of names)) (slice_get_read threads (length threads) k code refl lt is))

-- The printed text of the row at an index, of the cells of all threads.
abbrev pub printed_row : List (List Bytes) → ℕ → Bytes
printed_row threads k = row_text (row_at threads k)
