-- The frame of a printed test says the test, so the canonical text of a well-formed test reads back. The law
-- `a_canonical_text_reads_back` is its last lemma.
use Rattle.lw_x86.proofs.Common.{◌≡◌, ◌-◌, ◌≤◌, List, [], ◌∷◌, map, length, refl, sym, ap, arith, append-nil}
use Rattle.lw_x86.proofs.Common.{AllByRecursion, AllZip, range_with_len, NameTable, insert_names, IsInTable}
use Rattle.lw_x86.proofs.Common.{insert_names-if_in_table, AllByRecursion-append, All-map_inv, CellSyntax}
use Rattle.lw_x86.proofs.Common.{Column, code_in, names_in, names_of, resolve_test, IsWellFormedThread, Instr}
use Rattle.lw_x86.proofs.Common.{ParsesStatement, x86_spelling, x86_language, IsWellFormedProgram, X86Test}
use Rattle.lw_x86.proofs.Common.{HasProgram, x86_grammar, cells_of, canonical_text, IsTextOf}
use Rattle.lw_x86.proofs.PrintedCells.{cell_tokens}
use Rattle.lw_x86.proofs.PrintedLabels.{syntaxes_from}
use Rattle.lw_x86.proofs.PrintedColumns.{Column-of_thread}
use Rattle.lw_x86.proofs.PrintedGrids.{cell_counts_at_most_longest}
use Rattle.lw_x86.proofs.PrintedFrames.{texts_in, height_of, frame_in, IsWellFormedThread-threads, height_few}
use Rattle.lw_x86.proofs.PrintedFrames.{HasFrame-canonical_text}

module _ (p : X86Test) (well : IsWellFormedProgram p) where
  -- The test's table of locations.
  abbrev locs : NameTable
  locs = p.head.locs

  -- The syntax of a thread's cells, in all rows.
  abbrev syntaxes_of_thread : List Instr → List (CellSyntax (ParsesStatement x86_spelling))
  syntaxes_of_thread code = syntaxes_from locs code 0 (height_of p)

  -- The thread has a row for each of its cells.
  abbrev HasEnoughRows : List Instr → Type 0
  HasEnoughRows code = IsWellFormedThread x86_language (length locs) code × (length (cells_of locs code) ≤ height_of p)

  -- Each thread's cells fit into the rows.
  HasEnoughRows-threads : (threads : List (List Instr))
      → AllByRecursion (IsWellFormedThread x86_language (length locs)) threads
      → AllByRecursion (λ code. length (cells_of locs code) ≤ height_of p) threads
      → AllByRecursion HasEnoughRows threads
  HasEnoughRows-threads [] h k = tt
  HasEnoughRows-threads (code ∷ threads) h k = ((h.0, k.0), HasEnoughRows-threads threads h.1 k.1)

  -- The cells of all threads say their code, and name only locations of the table.
  AllZip-Column_of_threads : (threads : List (List Instr))
      → AllByRecursion HasEnoughRows threads
      → AllZip (Column x86_grammar) (map (λ code. map (cell_tokens locs code) (range_with_len 0 (height_of p))) threads)
      (map syntaxes_of_thread threads)
      × (map (code_in x86_grammar locs) (map syntaxes_of_thread threads) ≡ threads)
      × AllByRecursion (IsInTable locs) (names_of x86_grammar (map syntaxes_of_thread threads))
  AllZip-Column_of_threads [] h = (tt, refl, tt)
  AllZip-Column_of_threads (code ∷ threads) h =
      let here = Column-of_thread locs well.head.table (height_of p) (height_few p well) code h.0.0 h.0.1 in
      let more = AllZip-Column_of_threads threads h.1 in (
        (here.0, more.0),
        rw (here.1, more.1) refl,
        AllByRecursion-append (IsInTable locs) (names_in x86_grammar (syntaxes_of_thread code))
            (names_of x86_grammar (map syntaxes_of_thread threads)) here.2 more.2,
      )

  -- The cells of each thread of the test fit into the rows.
  HasEnoughRows-of_test : AllByRecursion HasEnoughRows p.threads
  HasEnoughRows-of_test =
      HasEnoughRows-threads p.threads (IsWellFormedThread-threads p well)
      (All-map_inv (λ cells. length cells ≤ height_of p) (cells_of locs) p.threads (cell_counts_at_most_longest (texts_in p)))

  -- The syntax of all threads' cells.
  abbrev syntaxes_of_threads : List (List (CellSyntax (ParsesStatement x86_spelling)))
  syntaxes_of_threads = map syntaxes_of_thread p.threads

  -- The cells name no new location.
  insert_names-no_new_name : insert_names locs (names_of x86_grammar syntaxes_of_threads) ≡ locs
  insert_names-no_new_name =
      insert_names-if_in_table locs (names_of x86_grammar syntaxes_of_threads)
      (AllZip-Column_of_threads p.threads HasEnoughRows-of_test).2

  -- No location is new, so no word is.
  resolve_test-printed :
      resolve_test x86_grammar p.head (insert_names locs (names_of x86_grammar syntaxes_of_threads)) syntaxes_of_threads ≡ p
  resolve_test-printed =
      let none : length locs - length locs ≡ 0 = omega arith in
      rw
      (insert_names-no_new_name, none, append-nil p.head.init_words, (AllZip-Column_of_threads p.threads HasEnoughRows-of_test).1)
      refl

  -- The frame of the test says the test.
  HasProgram-canonical_text : HasProgram (frame_in p) p
  HasProgram-canonical_text = record {
    arch = well.arch;
    threads = syntaxes_of_threads;
    says = (AllZip-Column_of_threads p.threads HasEnoughRows-of_test).0;
    bounded = omega (arith, ap length insert_names-no_new_name, well.head.table.bounded);
    test_is = sym resolve_test-printed;
  }

  -- The canonical text of a well-formed program says that program.
  pub IsTextOf-canonical_text : IsTextOf (canonical_text p) p
  IsTextOf-canonical_text =
      record { frame = frame_in p; has_frame = HasFrame-canonical_text p well; says = HasProgram-canonical_text }
