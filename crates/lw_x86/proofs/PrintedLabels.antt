-- The labels of a printed thread have no duplicates, and each targets its instruction. PrintedColumns
-- resolves jumps by it.
use Rattle.lw_x86.proofs.Common.{◌≡◌, ℕ, zero, suc, ◌+◌, ◌<◌, ◌≤◌, ◌^◌, inl, inr, Bool, true, false, Some}
use Rattle.lw_x86.proofs.Common.{List, [], ◌∷◌, ◌++◌, map, drop, length, refl, sym, ap, ◌∙◌, arith, ◌==◌}
use Rattle.lw_x86.proofs.Common.{slice_get, Contains, bytes_eq, decimal, eq-eqb, eqb-true, option_map}
use Rattle.lw_x86.proofs.Common.{AllByRecursion, range_with_len, cons_option, cases_Bool, eqb-false}
use Rattle.lw_x86.proofs.Common.{false_from_ne_true, list_any_at, get_or_from_slice_get, slice_get_within}
use Rattle.lw_x86.proofs.Common.{decimal_injective, bytes_eq-Decides, All-contains, All-from_recursion}
use Rattle.lw_x86.proofs.Common.{Contains-append_right, Bytes, NameTable, IsDuplicateFree, contains_name}
use Rattle.lw_x86.proofs.Common.{AllByRecursion-append, All-mono, drop-past_end, slice_get-in_range}
use Rattle.lw_x86.proofs.Common.{CellSyntax, statements, labels_of, target_in, ParsesStatement, Instr}
use Rattle.lw_x86.proofs.Common.{branch_target, x86_operation, x86_spelling, label, printed_form, jumps_to}
use Rattle.lw_x86.proofs.Common.{is_target}
use Rattle.lw_x86.proofs.PrintedCells.{front_labels, cell_syntax}

-- Positions with the same label are equal.
label_injective : (j k : ℕ) → j < 2 ^ 32 → k < 2 ^ 32 → label j ≡ label k → j ≡ k
label_injective j k h l e = let f : decimal j ≡ decimal k = cc in decimal_injective j k (omega (arith, h)) (omega (arith, l)) f

-- The comparison of a label with itself is true.
same_label : (k : ℕ) → bytes_eq (label k) (label k) ≡ true
same_label k = (bytes_eq-Decides (label k) (label k)).1 refl

-- The comparison of the labels of different positions is false.
other_label : (j k : ℕ) → j < 2 ^ 32 → k < 2 ^ 32 → (j ≡ k → ⊥) → bytes_eq (label j) (label k) ≡ false
other_label j k h l ne =
    false_from_ne_true (bytes_eq (label j) (label k))
    (λ e. ne (label_injective j k h l ((bytes_eq-Decides (label j) (label k)).0 e)))

-- A position that an instruction jumps to is a target of the code.
pub is_target-of_branch : (code : List Instr) (k to : ℕ) (i : Instr)
    → slice_get code k ≡ Some i
    → branch_target (x86_operation i) ≡ Some to
    → is_target code to ≡ true
is_target-of_branch code k to i at e =
    list_any_at (jumps_to to) code k i (slice_get_within code k i at)
    (rw (get_or_from_slice_get code k i i at, e) (eq-eqb to to refl))

-- The text is the label of a position from k on.
abbrev IsLabelFrom : ℕ → Bytes → Type 0
IsLabelFrom k l = (j : ℕ) × (k ≤ j) × (j < 2 ^ 32) × (l ≡ label j)

-- The label before the instruction at position k, if it is needed, is of a position from k on.
front_from : (b : Bool) (k : ℕ) → k < 2 ^ 32 → AllByRecursion (IsLabelFrom k) (front_labels b k)
front_from true k h = ((k, omega arith, h, refl), tt)
front_from false k h = tt

-- If labels are of positions after k, without duplicates, they have none with k's label before them.
front_labels-duplicate_free : (b : Bool) (k : ℕ) (ls : List Bytes)
    → k < 2 ^ 32
    → AllByRecursion (IsLabelFrom (k + 1)) ls
    → IsDuplicateFree ls
    → IsDuplicateFree (front_labels b k ++ ls)
front_labels-duplicate_free true k ls h from once = (
  (λ there.
      let f = All-contains (IsLabelFrom (k + 1)) ls (label k) (All-from_recursion (IsLabelFrom (k + 1)) ls from) there in
      omega (arith, f.1, label_injective k f.0 h f.2 f.3)),
  once,
)
front_labels-duplicate_free false k ls h from once = once

module _ (names : NameTable) (code : List Instr) where
  -- The syntax of n cells of a thread, from position k on.
  abbrev pub syntaxes_from : ℕ → ℕ → List (CellSyntax (ParsesStatement x86_spelling))
  syntaxes_from k n = map (cell_syntax names code) (range_with_len k n)

  -- ---- statements

  -- The printed forms from position k on are that of the instruction there, if any, followed by the others.
  next_statement : (rest : List Instr) (k : ℕ)
      → map (printed_form names) (drop k rest)
      ≡ cons_option (option_map (printed_form names) (slice_get rest k)) (map (printed_form names) (drop (suc k) rest))
  next_statement [] zero = refl
  next_statement [] (suc k) = refl
  next_statement (i ∷ rest) zero = refl
  next_statement (i ∷ rest) (suc k) = next_statement rest k

  -- The statements of the cells from position k to the end are the instructions from there on.
  pub statements-syntaxes_from : (k n : ℕ)
      → length code ≤ k + n
      → statements (syntaxes_from k n) ≡ map (printed_form names) (drop k code)
  statements-syntaxes_from k zero all = ap (map (printed_form names)) (sym (drop-past_end code k (omega (arith, all))))
  statements-syntaxes_from k (suc n) all =
      let next : k + 1 ≡ suc k = omega arith in
      ap (cons_option (option_map (printed_form names) (slice_get code k)))
      (statements-syntaxes_from (k + 1) n (omega (arith, all)) ∙ ap (λ (j : ℕ). map (printed_form names) (drop j code)) next)
      ∙ sym (next_statement code k)

  -- ---- labels

  -- The labels of n cells from position k on are labels of positions from there on, without duplicates.
  pub labels_of_cells-duplicate_free : (k n : ℕ)
      → k + n < 2 ^ 32
      → AllByRecursion (IsLabelFrom k) (labels_of (syntaxes_from k n)) × IsDuplicateFree (labels_of (syntaxes_from k n))
  labels_of_cells-duplicate_free k zero h = (tt, tt)
  labels_of_cells-duplicate_free k (suc n) h =
      let more = labels_of_cells-duplicate_free (k + 1) n (omega (arith, h)) in
      let labels = labels_of (syntaxes_from (k + 1) n) in
      let small : k < 2 ^ 32 = omega (arith, h) in (
        AllByRecursion-append (IsLabelFrom k) (front_labels (is_target code k) k) labels (front_from (is_target code k) k small)
            (All-mono (IsLabelFrom (k + 1)) (IsLabelFrom k) (λ l f. (f.0, omega (arith, f.1), f.2, f.3)) labels more.0),
        front_labels-duplicate_free (is_target code k) k labels small more.0 more.1,
      )

  -- ---- targets

  module _ (to : ℕ) (small : to < 2 ^ 32) (target : is_target code to ≡ true) where
    -- The labels at a position other than the target do not contain the target's label.
    fronts_other : (b : Bool) (k : ℕ) → k < 2 ^ 32 → (k ≡ to → ⊥) → contains_name (front_labels b k) (label to) ≡ false
    fronts_other true k h ne = rw (other_label k to h small ne) refl
    fronts_other false k h ne = refl

    -- If a target is among the n positions from k on, its label is among those of the cells there, and its target is that position.
    pub target_in-label : to ≤ length code
        → (k n : ℕ)
        → k ≤ to
        → to < k + n
        → Contains (labels_of (syntaxes_from k n)) (label to) × (k + target_in (syntaxes_from k n) (label to) ≡ to)
    target_in-label within k zero le lt = absurd (omega (arith, le, lt))
    target_in-label within k (suc n) le lt = elim (cases_Bool (to == k)) [
      | inl e ↦
          let same : k ≡ to = sym (eqb-true to k e) in
          let needed : is_target code k ≡ true = rw same target in
          let here : contains_name (front_labels (is_target code k) k) (label to) ≡ true =
          rw (needed, same, same_label to) refl in
          (rw needed (0, omega arith, ap label same), rw here (omega (arith, same)))
      | inr e ↦
          let apart : contains_name (front_labels (is_target code k) k) (label to) ≡ false =
          fronts_other (is_target code k) k (omega (arith, le, small)) (λ f. eqb-false to k e (sym f)) in
          let some = slice_get-in_range code k (omega (arith, le, within, eqb-false to k e)) in
          let more = target_in-label within (k + 1) n (omega (arith, le, eqb-false to k e)) (omega (arith, lt)) in (
            Contains-append_right (front_labels (is_target code k) k) (labels_of (syntaxes_from (k + 1) n)) (label to) more.0,
            rw (apart, some.1) (omega (arith, more.1)),
          )
    ]
