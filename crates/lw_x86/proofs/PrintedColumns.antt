-- The printed cells of a thread say the thread's code. With PrintedFrames this proves that a printed test
-- reads back (PrintedTests).
use Rattle.lw_x86.proofs.Common.{◌≡◌, ℕ, zero, suc, ◌+◌, ◌<◌, ◌≤◌, ◌^◌, Option, Some, None, List, [], ◌∷◌}
use Rattle.lw_x86.proofs.Common.{map, length, refl, sym, ap, ◌∙◌, subst, arith, true, inl, inr, slice_get}
use Rattle.lw_x86.proofs.Common.{slice_index_or, Contains, filter_map, option_map, AllByRecursion, AllZip}
use Rattle.lw_x86.proofs.Common.{cons_option, range_with_len, ForSome, cases_lt, length-map, slice_get-get_or}
use Rattle.lw_x86.proofs.Common.{Bytes, NameTable, IsDuplicateFree, IsNameTable, IsInTable}
use Rattle.lw_x86.proofs.Common.{position_of_name-again, CellSyntax, ParsesCell, statements, labels_of}
use Rattle.lw_x86.proofs.Common.{target_in, location_index, resolved_target, resolved_statement, code_in}
use Rattle.lw_x86.proofs.Common.{names_in, LabelsLeadForward, Column, IsWellFormedThread, Instr}
use Rattle.lw_x86.proofs.Common.{ParsesStatement, x86_spelling, branch_target, location_of, x86_language}
use Rattle.lw_x86.proofs.Common.{x86_operation, label, printed_form, is_target, end_cells, cells_of}
use Rattle.lw_x86.proofs.Common.{x86_grammar, slice_get-map_inv}
use Rattle.lw_x86.proofs.PrintedCells.{most_cells, cell_tokens, ParsesCell-cell_tokens}
use Rattle.lw_x86.proofs.PrintedCells.{IsWellFormedStatement-get, HasSmallTarget-in_thread}
use Rattle.lw_x86.proofs.CellLists.{length-cells}
use Rattle.lw_x86.proofs.PrintedInstructions.{IsPrintedAs-each}
use Rattle.lw_x86.proofs.PrintedLabels.{syntaxes_from, is_target-of_branch, statements-syntaxes_from}
use Rattle.lw_x86.proofs.PrintedLabels.{labels_of_cells-duplicate_free, target_in-label}

-- ---- the instructions

module _ (names : NameTable) (once : IsDuplicateFree names) (syntaxes : List (CellSyntax (ParsesStatement x86_spelling))) where
  -- The instruction's location is in the table, and its label's target is its own.
  abbrev pub IsResolved : Instr → Type 0
  IsResolved i =
      ForSome (location_of (x86_operation i)) (λ x. x < length names)
      × ForSome (branch_target (x86_operation i)) (λ to. target_in syntaxes (label to) ≡ to)

  -- The printed form of such an instruction is resolved to it.
  resolved_statement-printed_form : (i : Instr)
      → IsResolved i
      → resolved_statement x86_grammar names syntaxes (printed_form names i) ≡ i
  resolved_statement-printed_form i h =
      let p = IsPrintedAs-each names i in
      p.gives_back _ _ (λ x e.
      ap (location_index names) (p.name ∙ ap (option_map (λ (y : ℕ). slice_index_or names y [])) e)
      ∙ position_of_name-again names once x (h.0 x e))
      (λ to e. ap (resolved_target syntaxes) (p.label_is ∙ ap (option_map label) e) ∙ h.1 to e)

  -- The printed forms of a thread's instructions are resolved to the thread's code.
  resolved_statement-printed_forms : (code : List Instr)
      → AllByRecursion IsResolved code
      → map (resolved_statement x86_grammar names syntaxes) (map (printed_form names) code) ≡ code
  resolved_statement-printed_forms [] h = refl
  resolved_statement-printed_forms (i ∷ code) h =
      rw (resolved_statement-printed_form i h.0, resolved_statement-printed_forms code h.1) refl

-- If names are in the table, so are they with the name of a location of the table prepended.
IsInTable-location : (names : NameTable) (loc : Option ℕ)
    → ForSome loc (λ x. x < length names)
    → (more : List Bytes)
    → AllByRecursion (IsInTable names) more
    → AllByRecursion (IsInTable names) (cons_option (option_map (λ (x : ℕ). slice_index_or names x []) loc) more)
IsInTable-location names None h more all = all
IsInTable-location names (Some x) h more all = ((x, slice_get-get_or names x [] (h x refl)), all)

-- If the locations of instructions are of the table, their names are in the table.
IsInTable-names : (names : NameTable) (code : List Instr)
    → AllByRecursion (λ i. ForSome (location_of (x86_operation i)) (λ x. x < length names)) code
    → AllByRecursion (IsInTable names) (filter_map x86_grammar.name_of (map (printed_form names) code))
IsInTable-names names [] h = tt
IsInTable-names names (i ∷ code) h =
    rw (IsPrintedAs-each names i).name
    (IsInTable-location names (location_of (x86_operation i)) h.0 _ (IsInTable-names names code h.1))

-- What holds of the label of an instruction's target holds of the printed form's label.
label_holds-printed_form : (names : NameTable) (P : Bytes → Type 0) (i : Instr)
    → ForSome (branch_target (x86_operation i)) (λ to. P (label to))
    → ForSome (x86_grammar.label_of (printed_form names i)) P
label_holds-printed_form names P i h = rw (IsPrintedAs-each names i).label_is (go (branch_target (x86_operation i)) h)
  where
    -- By whether the instruction has a target.
    go : (target : Option ℕ) → ForSome target (λ to. P (label to)) → ForSome (option_map label target) P
    go None h = λ l e. absurd cc
    go (Some to) h = λ l e. subst P (let f : label to ≡ l = cc in f) (h to refl)

-- What holds of the item at each index holds of all items.
AllByRecursion-get : {X : Type 0} (P : X → Type 0) (xs : List X)
    → ((k : ℕ) (x : X) → slice_get xs k ≡ Some x → P x)
    → AllByRecursion P xs
AllByRecursion-get P [] h = tt
AllByRecursion-get P (x ∷ xs) h = (h 0 x refl, AllByRecursion-get P xs (λ k y e. h (suc k) y e))

-- ---- a thread, with enough rows for all its cells

module _ (names : NameTable) (table : IsNameTable names) (n : ℕ) (few : n ≤ most_cells) (code : List Instr)
    (thread : IsWellFormedThread x86_language (length names) code) (long : length (cells_of names code) ≤ n) where
  -- The syntax of the thread's cells in the rows below n.
  abbrev pub syntaxes : List (CellSyntax (ParsesStatement x86_spelling))
  syntaxes = syntaxes_from names code 0 n

  -- Each target in the thread is the index of one of its rows.
  target_row : (to : ℕ) → is_target code to ≡ true → to ≤ length code → to < n
  target_row to is within = elim (cases_lt to (length code)) [
    | inl above ↦ omega (arith, above, long, length-cells names code 0 code)
    | inr last ↦
        (let same : 0 + length code ≡ to = omega (arith, last, within) in
        let one : length (end_cells code (0 + length code)) ≡ 1 = rw (same, is) refl in
        omega (arith, same, one, long, length-cells names code 0 code))
  ]

  -- Each jump of the code targets a label of the thread, whose position is the jump's target, and later than
  -- the jump.
  target_in-of_branch : (k to : ℕ) (i : Instr)
      → slice_get code k ≡ Some i
      → branch_target (x86_operation i) ≡ Some to
      → Contains (labels_of syntaxes) (label to) × (target_in syntaxes (label to) ≡ to) × (k < to)
  target_in-of_branch k to i e f =
      let goes = thread.forward k i e to f in
      let small = HasSmallTarget-in_thread names table.are_unreserved code thread k i e to f in
      let is = is_target-of_branch code k to i e f in
      let first : 0 ≤ to = omega arith in
      let last : to < 0 + n = omega (arith, target_row to is goes.1) in
      let leads = target_in-label names code to small is goes.1 0 n first last in
      (leads.0, omega (arith, leads.1), goes.0)

  -- The statements of the cells are the printed forms of the code.
  statements_all : statements syntaxes ≡ map (printed_form names) code
  statements_all = statements-syntaxes_from names code 0 n (omega (arith, long, length-cells names code 0 code))

  -- The printed cells of a thread say their syntax, row by row.
  Column-printed_thread : Column x86_grammar (map (cell_tokens names code) (range_with_len 0 n)) syntaxes
  Column-printed_thread = record {
    says = AllZip-cells_from 0 n (omega (arith, few));
    bounded = omega (arith, ap length statements_all, length-map code (printed_form names), thread.short);
    without_duplicates = (labels_of_cells-duplicate_free names code 0 n (omega (arith, few))).1;
    forward = λ k s e.
        let found = slice_get-map_inv (printed_form names) code k s (ap (λ l. slice_get l k) (sym statements_all) ∙ e) in
        subst (LabelsLeadForward x86_grammar syntaxes k) (sym found.2)
        (label_holds-printed_form names (λ l. Contains (labels_of syntaxes) l × (k < target_in syntaxes l)) found.0
        (λ to f. let t = target_in-of_branch k to found.0 found.1 f in (t.0, omega (arith, t.1, t.2))));
  }
    where
      -- The printed cells of the m rows from row k on say their syntaxes.
      AllZip-cells_from : (k m : ℕ)
          → k + m < 2 ^ 32
          → AllZip (ParsesCell x86_grammar) (map (cell_tokens names code) (range_with_len k m)) (syntaxes_from names code k m)
      AllZip-cells_from k zero h = tt
      AllZip-cells_from k (suc m) h = (
        ParsesCell-cell_tokens names table.are_unreserved code thread k (omega (arith, h)),
        AllZip-cells_from (k + 1) m (omega (arith, h)),
      )

  -- The code that the cells say is the thread's.
  code_in-printed_thread : code_in x86_grammar names syntaxes ≡ code
  code_in-printed_thread =
      rw statements_all
      (resolved_statement-printed_forms names table.without_duplicates syntaxes code
      (AllByRecursion-get (IsResolved names table.without_duplicates syntaxes) code (λ k i e.
      ((IsWellFormedStatement-get names table.are_unreserved code thread k i e).0, λ to f. (target_in-of_branch k to i e f).1))))

  -- The cells name only locations of the table.
  IsInTable-thread_names : AllByRecursion (IsInTable names) (names_in x86_grammar syntaxes)
  IsInTable-thread_names =
      rw statements_all
      (IsInTable-names names code
      (AllByRecursion-get (λ i. ForSome (location_of (x86_operation i)) (λ x. x < length names)) code
      (λ k i e. (IsWellFormedStatement-get names table.are_unreserved code thread k i e).0)))

  -- The printed cells of a thread say its code, and name only locations of the table.
  pub Column-of_thread : Column x86_grammar (map (cell_tokens names code) (range_with_len 0 n)) syntaxes
      × (code_in x86_grammar names syntaxes ≡ code)
      × AllByRecursion (IsInTable names) (names_in x86_grammar syntaxes)
  Column-of_thread = (Column-printed_thread, code_in-printed_thread, IsInTable-thread_names)
