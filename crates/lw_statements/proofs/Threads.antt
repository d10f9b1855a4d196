-- Reading the threads of a test in sequence: the invariant when one more is read. The loop of `read_columns`
-- goes by it, and `read_test` makes the frame's test of the threads.
use Rattle.lw_statements.proofs.Common.{◌≡◌, ℕ, ◌<◌, ◌≤◌, ◌+◌, ◌-◌, List, [], ◌∷◌, ◌++◌, length, suc, take}
use Rattle.lw_statements.proofs.Common.{drop, get_or, refl, sym, ap, ◌∙◌, subst, arith, All, replicate}
use Rattle.lw_statements.proofs.Common.{append-nil, AllZip, map-append, flat_map-append, TestHead}
use Rattle.lw_statements.proofs.Common.{set_location_names, most_locations, insert_names, CellGrid, NameTable}
use Rattle.lw_statements.proofs.Common.{Memory, CellFault, Cell, cells_texts, all_texts, placed_row}
use Rattle.lw_statements.proofs.Common.{placed_cells, EndsBefore, grid_placed, Grammar, IsGrammar, CellSyntax}
use Rattle.lw_statements.proofs.Common.{Column, names_in, names_of, code_in, FrameHasTest, ColumnRead}
use Rattle.lw_statements.proofs.Common.{ColumnsRead, ColumnRefused, ColumnsRefused}
use Rattle.lw_statements.proofs.Causes.{Refused-Memory}
use Rattle.lw_statements.proofs.Elements.{All-middle, take-item-drop, take_further}
use Rattle.lw_statements.proofs.OneReading.{Column-unique}
use Rattle.lw_statements.proofs.ResolvedNames.{code_in-insert_names}
use Rattle.lw_statements.proofs.TablesRead.{AreIn, columns_read-push, room_for_read_names}
use Rattle.lw_statements.proofs.api.Zips.{Cut-AllZip}

module _ {Syntax Stmt : Type 0} (grammar : Grammar Syntax Stmt) where
  -- The names of two lists of threads are those of the first, then those of the second.
  names_of-append : (xs ys : List (List (CellSyntax Syntax)))
      → names_of grammar (xs ++ ys) ≡ names_of grammar xs ++ names_of grammar ys
  names_of-append xs ys = flat_map-append (names_in grammar) xs ys

  -- Inserting names preserves the code of a thread whose names are in the table.
  code_in-insert_more_names : (names ns : NameTable) (t : List (CellSyntax Syntax))
      → AreIn names (names_of grammar (t ∷ []))
      → code_in grammar (insert_names names ns) t ≡ code_in grammar names t
  code_in-insert_more_names names ns t all =
      code_in-insert_names grammar _ ns t (subst (AreIn names) (append-nil (names_in grammar t)) all)

  -- A fault because memory ran out rejects the cells of the threads.
  pub ColumnsRefused-out_of_memory : {A : Type 0} (names : NameTable) (columns : List (List (Cell A))) (f : CellFault)
      → f.cause ≡ Memory
      → f.at ≡ 0
      → ColumnsRefused grammar names columns f
  ColumnsRefused-out_of_memory names columns f = Refused-Memory f (λ at. tt)

  -- A column, after those that were read.
  module _ {A : Type 0} (columns : List (List (Cell A))) (i : ℕ) (column : List (Cell A)) (within : i < length columns)
      (is : column ≡ get_or columns i column) (before mid : NameTable) (threads : List (List Stmt))
      (read : ColumnsRead grammar (all_texts (take i columns)) before threads mid) where
    -- If that column is read, the columns up to it are.
    pub ColumnsRead-push : (stmts : List Stmt) (after : NameTable)
        → ColumnRead grammar (cells_texts column) mid stmts after
        → ColumnsRead grammar (all_texts (take (i + 1) columns)) before (threads ++ stmts ∷ []) after
    ColumnsRead-push stmts after one =
        let grown : after ≡ insert_names mid (names_of grammar (one.syntax ∷ [])) =
        one.names ∙ ap (insert_names mid) (sym (append-nil (names_in grammar one.syntax))) in
        let more =
        columns_read-push (names_of grammar) (code_in grammar) names_of-append code_in-insert_more_names (Column grammar)
        (all_texts (take i columns)) before mid threads read (cells_texts column) one.syntax stmts after one.says grown
        one.made in
        record {
          syntax = read.syntax ++ one.syntax ∷ [];
          says = rw (take_further columns i column within is, map-append cells_texts (take i columns) (column ∷ [])) more.0;
          names = more.1;
          made = more.2;
        }

    -- If that column is rejected, so are all columns.
    pub ColumnsRefused-ColumnRefused : IsGrammar grammar
        → (f : CellFault)
        → ColumnRefused grammar mid column f
        → ColumnsRefused grammar before columns f
    ColumnsRefused-ColumnRefused lawful f r =
        let front = take i columns in
        let rest = drop (suc i) columns in
        let whole = take-item-drop columns i column within is in
        record {
          none = λ known ts (all, few).
              let cut =
              Cut-AllZip (Column grammar) (all_texts front) (cells_texts column) (all_texts rest) ts
              (subst (λ (cs : CellGrid). AllZip (Column grammar) cs ts)
              (ap all_texts whole ∙ map-append cells_texts front (column ∷ rest)) all) in
              let room =
              room_for_read_names (names_of grammar) (code_in grammar) names_of-append code_in-insert_more_names (Column grammar)
              _ before mid threads read _ (Column-unique grammar lawful) (all_texts rest) ts cut in
              r.none known cut.here (
                cut.says,
                omega (
                  arith,
                  few,
                  room,
                  ap (λ (ns : NameTable). length (insert_names mid ns)) (append-nil (names_in grammar cut.here)),
                ),
              );
          cause =
              rw (← ap placed_cells whole ∙ map-append placed_row front (column ∷ rest)) at
              (r.cause before (placed_cells front) (placed_cells rest) read.syntax (rw (grid_placed front) read.says) read.names);
          place = λ len all.
              r.place len (All-middle (All (EndsBefore len)) front rest column (subst (All (All (EndsBefore len))) whole all));
        }

  -- If the threads of a frame's cells are read, the frame has a test of them: its head is the frame's, with the table after reading, and a
  -- 0 for each new location.
  pub FrameHasTest-ColumnsRead : (frame_head head : TestHead)
      → head ≡ frame_head
      → (cells : CellGrid) (threads : List (List Stmt)) (names : NameTable) (words : List ℕ)
      → frame_head.arch ≡ grammar.language.arch
      → length frame_head.init_words ≡ length frame_head.locs
      → ColumnsRead grammar cells head.locs threads names
      → length names ≤ most_locations
      → words ≡ head.init_words ++ replicate (length names - length head.init_words) 0
      → FrameHasTest grammar (record { head = frame_head; cells = cells })
      (record { head = record (set_location_names head names) { init_words = words }; threads = threads })
  FrameHasTest-ColumnsRead frame_head head same cells threads names words arch long read few filled =
      let zeros : words ≡ frame_head.init_words ++ replicate (length names - length frame_head.locs) 0 =
      rw (← long, ← same) filled in
      let grown : names ≡ insert_names frame_head.locs (names_of grammar read.syntax) = rw (← same) read.names in
      record {
        arch = arch;
        threads = read.syntax;
        says = read.says;
        bounded = rw grown at few;
        test_is = rw (zeros, read.made, same, ← grown) refl;
      }
