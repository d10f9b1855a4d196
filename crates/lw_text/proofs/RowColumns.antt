-- The columns of rows: their number and height, what holds of their cells, and the loop that appends to each
-- column its cell of a row. The functions of columns.rt go by it, and a frame's invariant follows from it.
use Rattle.lw_text.proofs.Common.{◌≡◌, ℕ, zero, suc, ◌+◌, ◌<◌, ◌≤◌, List, [], ◌∷◌, ◌++◌, length, map}
use Rattle.lw_text.proofs.Common.{slice_get, Option, Some, None, get_or, refl, sym, ap, ◌∙◌, subst, arith}
use Rattle.lw_text.proofs.Common.{All, option_map, cons_option, range_with_len, AllByRecursion}
use Rattle.lw_text.proofs.Common.{length-map-range_with_len, filter_map-append, All-from_recursion}
use Rattle.lw_text.proofs.Common.{slice_get_within, get_or_from_slice_get, slice_get-map, get_or-append_seam}
use Rattle.lw_text.proofs.Common.{set-append_seam, slice_get-get_or, set, length-append, zip, append_assoc}
use Rattle.lw_text.proofs.Common.{append-nil, column, columns, AllByRecursion-of_All}
use Rattle.lw_text.proofs.Common.{AllByRecursion-map_range, height, slice_get-in_range}

-- ---- each column

-- What holds of each column by its index holds of all columns.
All-columns : {X : Type 0} (Q : List X → Type 0) (n : ℕ) (rows : List (List X))
    → ((k : ℕ) → k < n → Q (column rows k))
    → All Q (columns n rows)
All-columns Q n rows h = All-from_recursion Q _ (AllByRecursion-map_range Q _ 0 n (λ k le lt. h k (omega (arith, lt))))

-- A column has as many items as there are rows.
length-column : {X : Type 0} (n k : ℕ) (rows : List (List X))
    → k < n
    → AllByRecursion (λ row. length row ≡ n) rows
    → length (column rows k) ≡ length rows
length-column n k [] lt all = refl
length-column n k (row ∷ rows) lt all =
    rw ((slice_get-in_range row k (omega (arith, lt, all.0))).1) (ap suc (length-column n k rows lt all.1))

-- What holds of all elements of a row and of a list holds of the list with the row's element at k, if there is one, prepended.
cons_each : {X : Type 0} (P : X → Type 0) (row more : List X) (k : ℕ) (o : Option X)
    → slice_get row k ≡ o
    → All P row
    → AllByRecursion P more
    → AllByRecursion P (cons_option o more)
cons_each P row more k None e all rest = rest
cons_each P row more k (Some x) e all rest =
    (subst P (get_or_from_slice_get row k x x e) (all k x (slice_get_within row k x e)), rest)

-- What holds of all elements of the rows holds of all elements of the column at k.
AllByRecursion-column : {X : Type 0} (P : X → Type 0) (k : ℕ) (rows : List (List X))
    → AllByRecursion (λ row. All P row) rows
    → AllByRecursion P (column rows k)
AllByRecursion-column P k [] all = tt
AllByRecursion-column P k (row ∷ rows) all = cons_each P row (column rows k) k _ refl all.0 (AllByRecursion-column P k rows all.1)

-- ---- columns of rows with a cell for each thread

module _ {X : Type 0} (n : ℕ) (rows : List (List X)) (even : All (λ row. length row ≡ n) rows) where
  -- `columns n rows` has n columns.
  pub length-columns : length (columns n rows) ≡ n
  length-columns = length-map-range_with_len (column rows) 0 n

  -- The height of the columns is the number of rows.
  pub columns-height : 1 ≤ n → height (columns n rows) ≡ length rows
  columns-height some = columns-height_cases n refl some
    where
      -- By the number of columns: if there is one, it is as high as there are rows.
      columns-height_cases : (m : ℕ) → n ≡ m → 1 ≤ n → height (columns n rows) ≡ length rows
      columns-height_cases zero e some = absurd (omega arith)
      columns-height_cases (suc m) e some =
          rw e (length-column n 0 rows (omega (arith, some)) (AllByRecursion-of_All rows _ even))

  -- All columns have the same height.
  pub columns-even : 1 ≤ n → All (λ c. length c ≡ height (columns n rows)) (columns n rows)
  columns-even some =
      All-columns (λ c. length c ≡ height (columns n rows)) n rows
      (λ k lt. length-column n k rows lt (AllByRecursion-of_All rows (λ row. length row ≡ n) even) ∙ sym (columns-height some))

-- What holds of all elements of the rows holds of all elements of all columns.
pub All-columns_of_rows : {X : Type 0} (P : X → Type 0) (n : ℕ) (rows : List (List X))
    → All (λ row. All P row) rows
    → All (λ c. All P c) (columns n rows)
All-columns_of_rows {X} P n rows all = All-columns (λ c. All P c) n rows (λ k lt.
    All-from_recursion P (column rows k) (AllByRecursion-column P k rows (AllByRecursion-of_All rows (λ row. All P row) all)))

-- ---- columns of mapped rows

-- A `map` of an optional element prepended to a list is the `map` of both.
cons_map : {X Y : Type 0} (f : X → Y) (o : Option X) (xs : List X) (ys : List Y)
    → map f xs ≡ ys
    → map f (cons_option o xs) ≡ cons_option (option_map f o) ys
cons_map f None xs ys e = e
cons_map f (Some x) xs ys e = ap (λ l. f x ∷ l) e

-- A mapped column is that column of the mapped rows.
map-column : {X Y : Type 0} (f : X → Y) (rows : List (List X)) (k : ℕ) → map f (column rows k) ≡ column (map (map f) rows) k
map-column f [] k = refl
map-column f (row ∷ rows) k =
    cons_map f (slice_get row k) (column rows k) (column (map (map f) rows) k) (map-column f rows k)
    ∙ ap (λ o. cons_option o (column (map (map f) rows) k)) (sym (slice_get-map f row k))

-- Mapped columns from an index on are those of the mapped rows.
range-map : {X Y : Type 0} (f : X → Y) (rows : List (List X)) (a n : ℕ)
    → map (map f) (map (column rows) (range_with_len a n)) ≡ map (column (map (map f) rows)) (range_with_len a n)
range-map f rows a zero = refl
range-map f rows a (suc n) =
    let e = map-column f rows a in
    let g = range-map f rows (a + 1) n in
    cc

-- All columns, mapped, are the columns of the mapped rows.
pub map-columns : {X Y : Type 0} (f : X → Y) (n : ℕ) (rows : List (List X))
    → map (map f) (columns n rows) ≡ columns n (map (map f) rows)
map-columns f n rows = range-map f rows 0 n

-- ---- moving cells to the ends of columns, in sequence

-- A list with one item appended.
abbrev pub with_last : {X : Type 0} → List X × X → List X
with_last p = p.0 ++ p.1 ∷ []

-- The first `count` of the columns are done: with a cell of the rest of the row added to each of the others, they are the old columns with
-- the row. As many cells remain as columns.
pub record Filling {X : Type 0} (old columns : List (List X)) (row rest : List X) (count : ℕ) : Type 0 where
  pub done : List (List X)
  pub todo : List (List X)
  pub columns_are : columns ≡ done ++ todo
  pub number : length done ≡ count
  pub whole : done ++ map with_last (zip todo rest) ≡ map with_last (zip old row)
  pub even : length todo ≡ length rest

-- No column has got its cell of the row yet.
pub Filling-none : {X : Type 0} (old : List (List X)) (row : List X) → length row ≡ length old → Filling old old row row 0
Filling-none old row even = record { done = []; todo = old; columns_are = refl; number = refl; whole = refl; even = sym even }

-- If a cell of the row remains, there is a column for it.
pub Filling-in_range : {X : Type 0} {old columns : List (List X)} {row rest more : List X} {count : ℕ} {x : X}
    → Filling old columns row rest count
    → rest ≡ x ∷ more
    → count < length columns
Filling-in_range f is = omega (arith, ap length f.columns_are, length-append f.done f.todo, f.number, f.even, ap length is)

-- If the next cell is appended to the column at `count`, one more column has got its cell.
pub Filling-push : {X : Type 0} {old columns : List (List X)} {row rest more column : List X} {count : ℕ} {x : X}
    → Filling old columns row rest count
    → rest ≡ x ∷ more
    → column ≡ get_or columns count column
    → Filling old (set columns count (column ++ x ∷ [])) row more (count + 1)
Filling-push {X} {old} {columns} {row} {rest} {more} {column} {count} {x} f is at = Filling-next f.todo refl
  where
    -- By the columns that still lack their cell.
    Filling-next : (todo : List (List X))
        → f.todo ≡ todo
        → Filling old (set columns count (column ++ x ∷ [])) row more (count + 1)
    Filling-next [] none = absurd (omega (arith, f.even, ap length none, ap length is))
    Filling-next (c ∷ todo) some =
        let all : columns ≡ f.done ++ c ∷ todo = f.columns_are ∙ ap (λ l. f.done ++ l) some in
        let same : column ≡ c =
        at
        ∙ ap (λ l. get_or l count column) all
        ∙ ap (λ (n : ℕ). get_or (f.done ++ c ∷ todo) n column) (sym f.number)
        ∙ get_or-append_seam f.done c todo column in
        record {
          done = f.done ++ (column ++ x ∷ []) ∷ [];
          todo = todo;
          columns_are =
              ap (λ l. set l count (column ++ x ∷ [])) all
              ∙ ap (λ (n : ℕ). set (f.done ++ c ∷ todo) n (column ++ x ∷ [])) (sym f.number)
              ∙ set-append_seam f.done c todo (column ++ x ∷ [])
              ∙ sym (append_assoc f.done ((column ++ x ∷ []) ∷ []) todo);
          number = omega (arith, length-append f.done ((column ++ x ∷ []) ∷ []), f.number);
          whole =
              append_assoc f.done ((column ++ x ∷ []) ∷ []) (map with_last (zip todo more))
              ∙ ap (λ (d : List X). f.done ++ (d ++ x ∷ []) ∷ map with_last (zip todo more)) same
              ∙ ap (λ l. f.done ++ map with_last (zip (c ∷ todo) l)) (sym is)
              ∙ ap (λ l. f.done ++ map with_last (zip l rest)) (sym some)
              ∙ f.whole;
          even = omega (arith, f.even, ap length some, ap length is);
        }

-- If no cell of the row remains, each column has got its cell of the row.
pub Filling-all : {X : Type 0} {old columns : List (List X)} {row rest : List X} {count : ℕ}
    → Filling old columns row rest count
    → length rest ≡ 0
    → columns ≡ map with_last (zip old row)
Filling-all {X} {old} {columns} {row} {rest} f is = columns_filled-last f.todo refl
  where
    -- If none lacks its cell, all have it.
    columns_filled-last : (todo : List (List X)) → f.todo ≡ todo → columns ≡ map with_last (zip old row)
    columns_filled-last [] none =
        f.columns_are ∙ ap (λ l. f.done ++ l) none ∙ ap (λ l. f.done ++ map with_last (zip l rest)) (sym none) ∙ f.whole
    columns_filled-last (c ∷ todo) some = absurd (omega (arith, f.even, ap length some, is))

-- The n columns from the index a on, each with its cell of one more row appended, are those of the rows with that row.
columns_from-one_more_row : {X : Type 0} (rows : List (List X)) (front part : List X) (a n : ℕ)
    → length front ≡ a
    → length part ≡ n
    → map with_last (zip (map (column rows) (range_with_len a n)) part)
    ≡ map (column (rows ++ (front ++ part) ∷ [])) (range_with_len a n)
columns_from-one_more_row rows front [] a zero e f = refl
columns_from-one_more_row rows front [] a (suc n) e f = absurd (omega (arith, f))
columns_from-one_more_row rows front (x ∷ part) a zero e f = absurd (omega (arith, f))
columns_from-one_more_row {X} rows front (x ∷ part) a (suc n) e f =
    let row = front ++ x ∷ part in
    let within : length front < length row = omega (arith, length-append front (x ∷ part)) in
    let at : slice_get row a ≡ Some x =
    ap (slice_get row) (sym e) ∙ slice_get-get_or row (length front) x within ∙ ap Some (get_or-append_seam front x part x) in
    let here : column rows a ++ x ∷ [] ≡ column (rows ++ row ∷ []) a =
    sym (filter_map-append (λ (r : List X). slice_get r a) rows (row ∷ []) ∙ rw at refl) in
    let later =
    columns_from-one_more_row rows (front ++ x ∷ []) part (a + 1) n (omega (arith, length-append front (x ∷ []), e))
    (omega (arith, f)) in
    (λ i. here i ∷ later i)
    ∙ ap (λ r. column (rows ++ row ∷ []) a ∷ map (column (rows ++ r ∷ [])) (range_with_len (a + 1) n))
    (append_assoc front (x ∷ []) part)

-- The columns of rows, each with its cell of one more row appended, are the columns of the rows with that row.
pub columns-one_more_row : {X : Type 0} (n : ℕ) (rows : List (List X)) (row : List X)
    → length row ≡ n
    → map with_last (zip (columns n rows) row) ≡ columns n (rows ++ row ∷ [])
columns-one_more_row n rows row e = columns_from-one_more_row rows [] row 0 n refl e

-- If all rows have n items, so has the first of those that remain.
pub row_length : {X : Type 0} (n : ℕ) (rows before rest more : List (List X)) (row : List X)
    → All (λ r. length r ≡ n) rows
    → before ++ rest ≡ rows
    → rest ≡ row ∷ more
    → length row ≡ n
row_length n rows before rest more row even whole next =
    let all : before ++ row ∷ more ≡ rows = ap (λ l. before ++ l) (sym next) ∙ whole in
    let lt : length before < length rows = omega (arith, ap length all, length-append before (row ∷ more)) in
    let read_row : length (get_or (before ++ row ∷ more) (length before) row) ≡ n =
    subst (λ l. length (get_or l (length before) row) ≡ n) (sym all) (even (length before) row lt) in
    ap length (sym (get_or-append_seam before row more row)) ∙ read_row

-- If no row remains, those before are all rows.
pub none_left-before_is_all : {X : Type 0} (rows before rest : List X) → before ++ rest ≡ rows → length rest ≡ 0 → before ≡ rows
none_left-before_is_all rows before [] whole none = sym (append-nil before) ∙ whole
none_left-before_is_all rows before (x ∷ rest) whole none = absurd (omega (arith, none))
