-- The printed text of a test is the text of a frame: preamble, block, header, rows and condition in sequence,
-- with the test's head and its threads' cells. One half of the proof that a printed test reads back.
use Rattle.lw_x86.proofs.Common.{most_text_bytes, suc, name_ascii, ◌≡◌, ℕ, ◌+◌, ◌*◌, ◌<◌, ◌≤◌, inl, List, []}
use Rattle.lw_x86.proofs.Common.{◌∷◌, ◌++◌, map, length, refl, sym, ap, ◌∙◌, subst, arith, append_assoc}
use Rattle.lw_x86.proofs.Common.{length-append, codes, flat_map, IsUtf8, slice_index_or, AllByRecursion}
use Rattle.lw_x86.proofs.Common.{AllZip, range_with_len, length-map, length-map-range_with_len}
use Rattle.lw_x86.proofs.Common.{recursion_from_All, IsUtf8-append, IsUtf8-from_ascii, Bytes, NameTable}
use Rattle.lw_x86.proofs.Common.{TokenList, Cells, CellGrid, X86, condition_text, IsName, blank, Preamble}
use Rattle.lw_x86.proofs.Common.{columns, HasFewNodes, IsProposition, sites_in, resolved, TestSyntax}
use Rattle.lw_x86.proofs.Common.{TestFrame, ParsesTest, HasFrame, location_table, head_of_syntax}
use Rattle.lw_x86.proofs.Common.{frame_of_syntax, AllByRecursion-append, AllByRecursion-map, All-mono}
use Rattle.lw_x86.proofs.Common.{proposition_nodes, resolved_single, node_count-resolved, Anything, Spells}
use Rattle.lw_x86.proofs.Common.{Spells-append_anything, Spells-mono, Tokens-Spells, Spells-space}
use Rattle.lw_x86.proofs.Common.{Spells-newline, Spells-name, name_by_test, printed_proposition, IsPrintable}
use Rattle.lw_x86.proofs.Common.{sites_printable, condition_is_printable, resolved-enclosed_named_terminals}
use Rattle.lw_x86.proofs.Common.{IsWellFormedThread, Instr, x86_language, IsWellFormedProgram, X86Test}
use Rattle.lw_x86.proofs.Common.{cells_of, row_at, max_cell_count, rows_text, header_text, block_text}
use Rattle.lw_x86.proofs.Common.{listed_text, canonical_text}
use Rattle.lw_x86.proofs.PrintedCells.{most_cells, IsPrintedCell, cell_tokens, cell_printed}
use Rattle.lw_text.specs.Tokens.{none as no_trivia}
use Rattle.lw_text.specs.Preambles.{none as no_notes}
use Rattle.lw_x86.proofs.PrintedRows.{row_tokens, header_tokens, row_bytes, header_spelled}
use Rattle.lw_x86.proofs.PrintedRows.{Header-header_tokens, rows_spelled, rows_plain}
use Rattle.lw_x86.proofs.PrintedRows.{ParsesManyTill-row_tokens}
use Rattle.lw_x86.proofs.PrintedGrids.{columns-of_rows_by_item, max_cell_count-at_most, cell_count_at_most}
use Rattle.lw_x86.proofs.PrintedBlocks.{initializers_of, block_tokens, block_bytes, block_spelled}
use Rattle.lw_x86.proofs.PrintedBlocks.{Block-block_tokens, initializers_exist}
use Rattle.lw_x86.proofs.PrintedHeads.{insert_names-printed_names, initial_registers-printed}
use Rattle.lw_x86.proofs.PrintedHeads.{initial_words-printed, listed_in-named_sites}
use Rattle.lw_x86.proofs.PrintedLists.{named_sites, listed_tokens, terminals_in, condition_tokens}
use Rattle.lw_x86.proofs.PrintedLists.{listed_bytes, listed_spelled, condition_bytes, condition_spelled}
use Rattle.lw_x86.proofs.PrintedLists.{listed_printable, ParsesQuestion-of_tokens, rows_stop}

-- ---- the threads' cells

-- The texts of a test's cells, thread by thread.
abbrev pub texts_in : X86Test → List (List Bytes)
texts_in p = map (cells_of p.head.locs) p.threads

-- The number of rows of the printed test.
abbrev pub height_of : X86Test → ℕ
height_of p = max_cell_count (texts_in p)

-- The tokens of the cells of the row at an index.
abbrev row_in : X86Test → ℕ → Cells
row_in p k = map (λ code. cell_tokens p.head.locs code k) p.threads

-- The tokens of all rows of a test, cell by cell.
abbrev pub rows_in : X86Test → CellGrid
rows_in p = map (row_in p) (range_with_len 0 (height_of p))

-- The syntax that the tokens of the printed test say.
abbrev pub syntax_in : X86Test → TestSyntax
syntax_in p = record {
  initializers = initializers_of p.head;
  threads = p.head.threads;
  rows = rows_in p;
  listed = named_sites p.head.locs p.head.listed;
  quant = p.head.quant;
  terminals = terminals_in p.head;
}

-- The frame of the printed test: its head, and the tokens of its cells.
abbrev pub frame_in : X86Test → TestFrame
frame_in p =
    record { head = p.head; cells = map (λ code. map (cell_tokens p.head.locs code) (range_with_len 0 (height_of p))) p.threads }

-- ---- tokens

-- The tokens of the list of names and of the condition.
abbrev tokens_after_rows : X86Test → TokenList
tokens_after_rows p = listed_tokens p.head.locs p.head.listed ++ condition_tokens p.head

-- The tokens of the rows, and all after them.
abbrev tokens_after_header : X86Test → TokenList
tokens_after_header p = flat_map row_tokens (rows_in p) ++ tokens_after_rows p

-- The tokens of the header, and all after it.
abbrev tokens_after_block : X86Test → TokenList
tokens_after_block p = header_tokens p.head.threads ++ tokens_after_header p

-- All tokens of the printed test.
abbrev tokens_in : X86Test → TokenList
tokens_in p = block_tokens p.head ++ tokens_after_block p

-- The canonical text after its first line.
abbrev body_text : X86Test → Bytes
body_text p =
    block_text p.head
    ++ (header_text p.head.threads
    ++ (rows_text (texts_in p) ++ (listed_text p.head.locs p.head.listed ++ (condition_text p.head ++ codes "\n"))))

-- The maximum length of the text after the first line, in bytes: the block, the header, the rows, the list and the condition.
abbrev body_bytes : ℕ
body_bytes = block_bytes + row_bytes * suc most_cells + listed_bytes + condition_bytes

module _ (p : X86Test) (well : IsWellFormedProgram p) where
  -- Each thread of a well-formed test is well-formed with the test's locations.
  pub IsWellFormedThread-threads : AllByRecursion (IsWellFormedThread x86_language (length p.head.locs)) p.threads
  IsWellFormedThread-threads = recursion_from_All (IsWellFormedThread x86_language (length p.head.locs)) p.threads well.code

  -- No thread has more than `most_cells` cells.
  pub height_few : height_of p ≤ most_cells
  height_few =
      max_cell_count-at_most most_cells (texts_in p)
      (AllByRecursion-map (λ cells. length cells ≤ most_cells) (cells_of p.head.locs) p.threads
      (All-mono (IsWellFormedThread x86_language (length p.head.locs)) (λ code. length (cells_of p.head.locs code) ≤ most_cells)
      (λ code thread. omega (arith, cell_count_at_most p.head.locs code, thread.short)) p.threads IsWellFormedThread-threads))

  -- The texts of a row's cells spell their tokens, thread by thread.
  row_printed : (k : ℕ)
      → k < most_cells
      → (threads : List (List Instr))
      → AllByRecursion (IsWellFormedThread x86_language (length p.head.locs)) threads
      → AllZip IsPrintedCell (row_at (map (cells_of p.head.locs) threads) k)
      (map (λ code. cell_tokens p.head.locs code k) threads)
  row_printed k small [] h = tt
  row_printed k small (code ∷ threads) h =
      (cell_printed p.head.locs well.head.table.are_unreserved code h.0 k (omega (arith, small)), row_printed k small threads h.1)

  -- In each row the texts of the cells of all threads spell their tokens.
  IsPrintedCell-rows : (k : ℕ) → k < most_cells → AllZip IsPrintedCell (row_at (texts_in p) k) (row_in p k)
  IsPrintedCell-rows k small = row_printed k small p.threads IsWellFormedThread-threads

  -- A printed row has a cell for each thread.
  texts_long : (k : ℕ) → length (row_at (texts_in p) k) ≡ p.head.threads
  texts_long k =
      length-map (texts_in p) (λ cells. slice_index_or cells k []) ∙ length-map p.threads (cells_of p.head.locs) ∙ well.as_many

  -- A row of printed tokens has a cell for each thread.
  row_long : (k : ℕ) → length (row_in p k) ≡ p.head.threads
  row_long k = length-map p.threads (λ code. cell_tokens p.head.locs code k) ∙ well.as_many

  -- ---- the text

  -- The text after the preamble spells its tokens: the five parts in sequence.
  body_spelled : Spells Anything body_bytes (body_text p) (tokens_in p)
  body_spelled =
      Spells-mono body_bytes (omega (arith, height_few))
      (Spells-append_anything (block_spelled p.head well.head)
      (Spells-append_anything (header_spelled p.head.threads well.head.has_thread well.head.bounded)
      (Spells-append_anything
      (rows_spelled (row_at (texts_in p)) (row_in p) p.head.threads most_cells well.head.has_thread well.head.bounded
      IsPrintedCell-rows texts_long row_long 0 (height_of p) (omega (arith, height_few)))
      (Spells-append_anything (listed_spelled p.head well.head) (condition_spelled p.head well.head well.arch)))))

  -- ---- what the text says

  -- All listed sites and all sites of the condition can be printed.
  IsPrintable-all_sites : AllByRecursion (IsPrintable p.head.threads p.head.locs)
      (named_sites p.head.locs p.head.listed ++ sites_in (terminals_in p.head))
  IsPrintable-all_sites =
      AllByRecursion-append (IsPrintable p.head.threads p.head.locs) (named_sites p.head.locs p.head.listed)
      (sites_in (terminals_in p.head)) (listed_printable p.head well.head)
      (sites_printable p.head.threads p.head.locs (terminals_in p.head)
      (condition_is_printable p.head.threads p.head.locs well.head.table.are_unreserved p.head.proposition well.head.condition))

  -- The table of locations that the tokens give is the test's.
  location_table-of_syntax : location_table (syntax_in p) ≡ p.head.locs
  location_table-of_syntax =
      rw
      (append_assoc (map (λ e. e.site) (initializers_of p.head)) (named_sites p.head.locs p.head.listed)
      (sites_in (terminals_in p.head)))
      (insert_names-printed_names p.head well.head (named_sites p.head.locs p.head.listed ++ sites_in (terminals_in p.head))
      IsPrintable-all_sites)

  -- The condition's terminals, resolved by the test's table, are a proposition that says the condition.
  IsProposition-of_head : IsProposition (map (resolved p.head.locs) (terminals_in p.head)) p.head.proposition
  IsProposition-of_head =
      rw
      (resolved-enclosed_named_terminals p.head.threads p.head.locs well.head.table.without_duplicates p.head.proposition
      well.head.condition) (printed_proposition p.head.proposition)

  -- The condition has at most as many nodes as can be read.
  nodes_bounded : HasFewNodes (terminals_in p.head)
  nodes_bounded = omega (
    arith,
    proposition_nodes IsProposition-of_head (resolved_single p.head.locs (terminals_in p.head)),
    node_count-resolved p.head.locs (terminals_in p.head),
    well.head.nodes_bounded,
  )

  -- The tokens are the parts of a test, and no others.
  ParsesTest-of_tokens : ParsesTest X86 (tokens_in p) (syntax_in p)
  ParsesTest-of_tokens = record {
    after_block = tokens_after_block p;
    after_header = tokens_after_header p;
    after_rows = tokens_after_rows p;
    block = Block-block_tokens p.head well.head (tokens_after_block p);
    header = Header-header_tokens p.head.threads (tokens_after_header p) well.head.has_thread well.head.bounded;
    threads_exist = initializers_exist p.head well.head;
    rows = (
      ParsesManyTill-row_tokens p.head.threads (rows_in p) (tokens_after_rows p) well.head.has_thread
          (rows_plain (row_at (texts_in p)) (row_in p) p.head.threads most_cells well.head.has_thread well.head.bounded
          IsPrintedCell-rows texts_long row_long 0 (height_of p) (omega (arith, height_few))) (rows_stop p.head well.head),
      omega (arith, length-map-range_with_len (row_in p) 0 (height_of p), height_few),
    );
    question = ParsesQuestion-of_tokens p.head well.head;
    few_names = omega (arith, ap length location_table-of_syntax, well.head.table.bounded);
    few_nodes = nodes_bounded;
  }

  -- ---- the head and the cells

  -- The head computed from the syntax is the test's head.
  head_of_syntax-printed : head_of_syntax X86 p.head.name (syntax_in p) p.head.proposition ≡ p.head
  head_of_syntax-printed =
      rw (
        location_table-of_syntax,
        initial_registers-printed p.head well.head,
        initial_words-printed p.head well.head,
        listed_in-named_sites p.head well.head,
        ← well.arch,
      ) refl

  -- The columns of the rows are the threads' cells.
  columns-of_rows : columns p.head.threads (rows_in p) ≡ (frame_in p).cells
  columns-of_rows = rw (← well.as_many) (columns-of_rows_by_item (cell_tokens p.head.locs) p.threads (height_of p))

  -- The frame of the printed syntax is the frame of the test.
  frame_of_syntax-printed : frame_in p ≡ frame_of_syntax X86 p.head.name (syntax_in p) p.head.proposition
  frame_of_syntax-printed = rw (head_of_syntax-printed, columns-of_rows) refl

  -- ---- the whole text

  -- The language's keyword is a name, so a token.
  x86_keyword_is_name : IsName (codes "X86")
  x86_keyword_is_name = name_by_test (codes "X86") refl

  -- The printed text is UTF-8, since it is ASCII.
  text_utf8 : IsUtf8 (canonical_text p)
  text_utf8 =
      IsUtf8-append (codes "X86") _ (Spells-name (codes "X86") x86_keyword_is_name).utf8
      (IsUtf8-append (codes " ") _ Spells-space.utf8
      (IsUtf8-append p.head.name _ (IsUtf8-from_ascii p.head.name (name_ascii p.head.name well.head.name))
      (IsUtf8-append (codes "\n") (body_text p) Spells-newline.utf8 body_spelled.utf8)))

  -- The text starts with the preamble: the keyword, the name, and no notes.
  preamble : Preamble (canonical_text p) X86 p.head.name (body_text p)
  preamble = (
    codes " " ++ (p.head.name ++ (codes "\n" ++ body_text p)),
    codes "\n" ++ body_text p,
    (
      no_trivia,
      inl (record { are_name_bytes = x86_keyword_is_name.0.are_name_bytes; longest = refl; kind = inl x86_keyword_is_name }),
    ),
    record {
      blanks = codes " ";
      parts = refl;
      blanks_not_empty = omega arith;
      blank = (refl, tt);
      is_name = well.head.name;
      longest = refl;
    },
    no_notes (blank refl no_trivia) refl,
  )

  -- The text is short enough to be read.
  text_short : length (canonical_text p) ≤ most_text_bytes
  text_short = omega (arith, length-append p.head.name (codes "\n" ++ body_text p), well.head.name.short, body_spelled.short)

  -- The canonical text of a well-formed program is the text of the frame `frame_in`.
  pub HasFrame-canonical_text : HasFrame (canonical_text p) (frame_in p)
  HasFrame-canonical_text = record {
    short = text_short;
    utf8 = text_utf8;
    arch = X86;
    name = p.head.name;
    rest = body_text p;
    tokens = tokens_in p;
    syntax = syntax_in p;
    proposition = p.head.proposition;
    preamble = preamble;
    stream = Tokens-Spells tt body_spelled;
    parts = ParsesTest-of_tokens;
    is_proposition =
        subst (λ (names : NameTable). IsProposition (map (resolved names) (terminals_in p.head)) p.head.proposition)
        (sym location_table-of_syntax) IsProposition-of_head;
    frame_is = frame_of_syntax-printed;
  }
