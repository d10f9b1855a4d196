-- The columns of the rows of a printed test, and the number of cells of its longest thread. PrintedFrames
-- uses the first, and the bound on rows of the grammar follows from the second.
use Rattle.lw_x86.proofs.Common.{◌≡◌, ℕ, zero, suc, ◌+◌, ◌≤◌, max, Bool, true, false, Some, List, [], ◌∷◌}
use Rattle.lw_x86.proofs.Common.{◌++◌, map, length, refl, sym, ap, ◌∙◌, arith, fold, if◌then◌else◌, codes}
use Rattle.lw_x86.proofs.Common.{slice_get, option_map, AllByRecursion, range_with_len, length-map}
use Rattle.lw_x86.proofs.Common.{fill_by_all, slice_get-map, get_or_from_slice_get, Bytes, NameTable, column}
use Rattle.lw_x86.proofs.Common.{columns, AllByRecursion-map, All-map_inv, slice_get-in_range, Instr, label}
use Rattle.lw_x86.proofs.Common.{cells_of, max_cell_count, is_target}
use Rattle.lw_x86.proofs.CellLists.{length-cells}

-- ---- columns

-- Rows that have one item for each of some things, and their columns.
module _ {X Y : Type 0} (item : X → ℕ → Y) (things : List X) where
  -- The column at a thing's index has its items, in the order of the rows.
  column-get : (k : ℕ) (x : X)
      → slice_get things k ≡ Some x
      → (j n : ℕ)
      → column (map (λ i. map (λ (t : X). item t i) things) (range_with_len j n)) k ≡ map (item x) (range_with_len j n)
  column-get k x at j zero = refl
  column-get k x at j (suc n) = rw (slice_get-map (λ (t : X). item t j) things k, at, column-get k x at (j + 1) n) refl

  -- The columns of the first n such rows are, for each thing, its first n items.
  pub columns-of_rows_by_item : (n : ℕ)
      → columns (length things) (map (λ i. map (λ (t : X). item t i) things) (range_with_len 0 n))
      ≡ map (λ t. map (item t) (range_with_len 0 n)) things
  columns-of_rows_by_item n =
      let col = λ (t : X). map (item t) (range_with_len 0 n) in
      sym (fill_by_all _ (map col things) (length things) [] (length-map things col) (λ k lt.
      let x = slice_get-in_range things k lt in
      get_or_from_slice_get (map col things) k (col x.0) [] (slice_get-map col things k ∙ ap (option_map col) x.1)
      ∙ sym (column-get k x.0 x.1 0 n)))

-- ---- the longest thread

-- The maximum of a number and a list is at least the number.
fold_max-at_least_start : (a : ℕ) (xs : List ℕ) → a ≤ fold max a xs
fold_max-at_least_start a [] = omega arith
fold_max-at_least_start a (x ∷ xs) = omega (arith, fold_max-at_least_start (max a x) xs)

-- No element of a list is greater than the maximum of a number and the list.
fold_max-at_least_each : (a : ℕ) (xs : List ℕ) → AllByRecursion (λ x. x ≤ fold max a xs) xs
fold_max-at_least_each a [] = tt
fold_max-at_least_each a (x ∷ xs) = (omega (arith, fold_max-at_least_start (max a x) xs), fold_max-at_least_each (max a x) xs)

-- If a number and all elements of a list are at most b, so is their maximum.
fold_max-at_most : (a b : ℕ) (xs : List ℕ) → a ≤ b → AllByRecursion (λ x. x ≤ b) xs → fold max a xs ≤ b
fold_max-at_most a b [] le all = le
fold_max-at_most a b (x ∷ xs) le all = fold_max-at_most (max a x) b xs (omega (arith, le, all.0)) all.1

-- No thread has more cells than the longest.
pub cell_counts_at_most_longest : (threads : List (List Bytes))
    → AllByRecursion (λ cells. length cells ≤ max_cell_count threads) threads
cell_counts_at_most_longest threads = All-map_inv _ length threads (fold_max-at_least_each 0 (map length threads))

-- If no thread has more than n cells, neither has the longest.
pub max_cell_count-at_most : (n : ℕ) (threads : List (List Bytes))
    → AllByRecursion (λ cells. length cells ≤ n) threads
    → max_cell_count threads ≤ n
max_cell_count-at_most n threads h = fold_max-at_most 0 n _ (omega arith) (AllByRecursion-map (λ k. k ≤ n) length threads h)

-- A thread has at most one cell more than instructions.
pub cell_count_at_most : (names : NameTable) (code : List Instr) → length (cells_of names code) ≤ length code + 1
cell_count_at_most names code = omega (arith, length-cells names code 0 code, go (is_target code (0 + length code)))
  where
    -- After the last instruction a thread has at most one cell.
    go : (b : Bool) → length (if b then (label (0 + length code) ++ codes ":") ∷ [] else []) ≤ 1
    go true = omega arith
    go false = omega arith
