-- The printed cells of a thread, by their rows: each text spells tokens, which say a label and an
-- instruction. Rows are made of these cells (PrintedRows), and columns of them say the threads
-- (PrintedColumns).
use Rattle.lw_x86.proofs.Common.{◌+◌, suc, most_instructions, EndsNoCell, ◌≡◌, ℕ, ◌<◌, ◌^◌, Bool, true, false}
use Rattle.lw_x86.proofs.Common.{Option, Some, None, List, [], ◌∷◌, ◌++◌, length, refl, arith, if◌then◌else◌}
use Rattle.lw_x86.proofs.Common.{codes, option_map, slice_get, slice_index_or, subst, AllByRecursion}
use Rattle.lw_x86.proofs.Common.{slice_get_within, get_or_from_slice_get, Bytes, NameTable, TokenList}
use Rattle.lw_x86.proofs.Common.{IsUnreservedName, begins_stop, AllByRecursion-append, Anything, IsBlankNext}
use Rattle.lw_x86.proofs.Common.{Spells, Spells-append, Spells-append_anything, Spells-before, Spells-mono}
use Rattle.lw_x86.proofs.Common.{Spells-nothing, Spells-space, blank_ends_name, Spells-colon}
use Rattle.lw_x86.proofs.Common.{HasNoEquals-blank, CellSyntax, MaybeStatement, Labels, ParsesCell}
use Rattle.lw_x86.proofs.Common.{IsWellFormedStatement, IsWellFormedThread, Instr, ParsesStatement}
use Rattle.lw_x86.proofs.Common.{x86_spelling, x86_language, label, printed_form, is_target, cells_of}
use Rattle.lw_x86.proofs.Common.{x86_grammar}
use Rattle.lw_x86.proofs.PrintedInstructions.{most_label_bytes, most_instruction_bytes, instruction_tokens}
use Rattle.lw_x86.proofs.PrintedInstructions.{HasSmallTarget, label_is_location, Spells-label}
use Rattle.lw_x86.proofs.PrintedInstructions.{IsPrintedAs-each, instruction_spelled, Fills-instruction_tokens}
use Rattle.lw_x86.proofs.PrintedInstructions.{instruction_no_end}
use Rattle.lw_x86.proofs.CellLists.{text_at_row, cells_of-get}
use Rattle.lw_x86.proofs.PrintedSlots.{name_no_end}

-- ---- the tokens of a cell, and what they say

-- The tokens of the label before the instruction at position k, if it is needed.
abbrev front_tokens : Bool → ℕ → TokenList
front_tokens needed k = if needed then label k ∷ codes ":" ∷ [] else []

-- The label before the instruction at position k, if it is needed.
abbrev pub front_labels : Bool → ℕ → List Bytes
front_labels needed k = if needed then label k ∷ [] else []

-- The tokens of an instruction, or none after the last.
abbrev maybe_tokens : NameTable → Option Instr → TokenList
maybe_tokens names None = []
maybe_tokens names (Some i) = instruction_tokens names i

-- The tokens of a thread's cell in the row at an index: a label if a jump targets the position, and the instruction.
abbrev pub cell_tokens : NameTable → List Instr → ℕ → TokenList
cell_tokens names code k = front_tokens (is_target code k) k ++ maybe_tokens names (slice_get code k)

-- The syntax of a thread's cell in the row at an index: its label if a jump targets the position, and its instruction.
abbrev pub cell_syntax : NameTable → List Instr → ℕ → CellSyntax (ParsesStatement x86_spelling)
cell_syntax names code k =
    record { labels = front_labels (is_target code k) k; stmt = option_map (printed_form names) (slice_get code k) }

-- ---- their texts

-- The maximum length of the label of a cell with `: ` after it, in bytes.
abbrev most_front_bytes : ℕ
most_front_bytes = most_label_bytes + 2

-- The maximum length of a cell, in bytes: a label and an instruction.
abbrev pub most_cell_bytes : ℕ
most_cell_bytes = most_front_bytes + most_instruction_bytes

-- The text spells these tokens before a blank, and is no longer than a cell; the tokens contain no end of a cell, and do not start as an
-- end of the rows does.
pub record IsPrintedCell (text : Bytes) (tokens : TokenList) : Type 0 where
  pub spells : Spells IsBlankNext most_cell_bytes text tokens
  pub plain : EndsNoCell tokens
  pub starts : begins_stop tokens ≡ false

-- The text of a label, or of none, spells its tokens.
front_spelled : (needed : Bool) (k : ℕ)
    → k < 2 ^ 32
    → Spells Anything most_front_bytes (if needed then label k ++ codes ": " else []) (front_tokens needed k)
front_spelled true k h =
    Spells-append (λ rest g. refl) (Spells-label k h) (Spells-append (λ rest g. refl) Spells-colon Spells-space)
front_spelled false k h = Spells-mono most_front_bytes (omega arith) (Spells-nothing Anything)

-- The tokens of a label contain no end of a cell.
front_plain : (needed : Bool) (k : ℕ) → k < 2 ^ 32 → EndsNoCell (front_tokens needed k)
front_plain true k h = (name_no_end (label k) (label_is_location k h).0, (refl, tt))
front_plain false k h = tt

-- If tokens do not start as an end of the rows does, neither do they with a label before them.
front_starts : (needed : Bool) (k : ℕ) (more : TokenList)
    → begins_stop more ≡ false
    → begins_stop (front_tokens needed k ++ more) ≡ false
front_starts true k more h = refl
front_starts false k more h = h

-- The cell after the last instruction is a printed cell: `end_cells`, whose test for a jump is `needed` here. (`++ []` are the tokens of no
-- instruction, as `maybe_printed` needs them.)
end_printed : (needed : Bool) (k : ℕ)
    → k < 2 ^ 32
    → IsPrintedCell (slice_index_or (if needed then (label k ++ codes ":") ∷ [] else []) 0 []) (front_tokens needed k ++ [])
end_printed true k h = record {
  spells =
      Spells-mono most_cell_bytes (omega arith)
      (Spells-append (λ rest g. refl) (Spells-label k h) (Spells-before IsBlankNext HasNoEquals-blank Spells-colon));
  plain = front_plain true k h;
  starts = refl;
}
end_printed false k h =
    record { spells = Spells-mono most_cell_bytes (omega arith) (Spells-nothing IsBlankNext); plain = tt; starts = refl }

-- The tokens of a label, or of none, say that label, or none.
Labels-front_tokens : (needed : Bool) (k : ℕ) (mid : TokenList)
    → k < 2 ^ 32
    → Labels (front_tokens needed k ++ mid) (front_labels needed k) mid
Labels-front_tokens true k mid h = (mid, refl, label_is_location k h, refl)
Labels-front_tokens false k mid h = refl

-- ---- a thread

-- The maximum number of cells of a thread: one for each instruction, and one for the label at the end.
abbrev pub most_cells : ℕ
most_cells = suc most_instructions

module _ (names : NameTable) (table : AllByRecursion IsUnreservedName names) (code : List Instr)
    (thread : IsWellFormedThread x86_language (length names) code) where
  -- Each instruction of the thread is well-formed.
  pub IsWellFormedStatement-get : (k : ℕ) (i : Instr)
      → slice_get code k ≡ Some i
      → IsWellFormedStatement x86_language (length names) i
  IsWellFormedStatement-get k i e =
      subst (IsWellFormedStatement x86_language (length names)) (get_or_from_slice_get code k i i e)
      (thread.statements_formed k i (slice_get_within code k i e))

  -- Each target in the thread is below `2 ^ 32`.
  pub HasSmallTarget-in_thread : (k : ℕ) (i : Instr) → slice_get code k ≡ Some i → HasSmallTarget i
  HasSmallTarget-in_thread k i e = λ to f. omega (arith, (thread.forward k i e to f).1, thread.short)

  module _ (k : ℕ) (small : k < 2 ^ 32) where
    -- The text of a cell, of an instruction or of the end, spells its label and what follows.
    maybe_printed : (o : Option Instr)
        → slice_get code k ≡ o
        → IsPrintedCell (text_at_row names code k o) (front_tokens (is_target code k) k ++ maybe_tokens names o)
    maybe_printed None e = end_printed (is_target code k) k small
    maybe_printed (Some i) e =
        let fine = IsWellFormedStatement-get k i e in
        let goes = HasSmallTarget-in_thread k i e in
        record {
          spells =
              Spells-before IsBlankNext blank_ends_name
              (Spells-mono most_cell_bytes (omega arith)
              (Spells-append_anything (front_spelled _ k small) (instruction_spelled names table i fine goes)));
          starts = front_starts (is_target code k) k (instruction_tokens names i) (IsPrintedAs-each names i).starts;
          plain = AllByRecursion-append _ _ _ (front_plain _ k small) (instruction_no_end names table i fine goes);
        }

    -- The tokens after a cell's label say the instruction, or nothing at the end.
    MaybeStatement-maybe_tokens : (o : Option Instr)
        → slice_get code k ≡ o
        → MaybeStatement x86_grammar (maybe_tokens names o) (option_map (printed_form names) o)
    MaybeStatement-maybe_tokens None e = refl
    MaybeStatement-maybe_tokens (Some i) e =
        Fills-instruction_tokens names table i (IsWellFormedStatement-get k i e) (HasSmallTarget-in_thread k i e)

    -- The text of a thread's cell spells its tokens.
    pub cell_printed : IsPrintedCell (slice_index_or (cells_of names code) k []) (cell_tokens names code k)
    cell_printed = rw (cells_of-get names (length names) code thread k) (maybe_printed (slice_get code k) refl)

    -- The tokens of a thread's cell say its label and its instruction.
    pub ParsesCell-cell_tokens : ParsesCell x86_grammar (cell_tokens names code k) (cell_syntax names code k)
    ParsesCell-cell_tokens = (
      maybe_tokens names (slice_get code k),
      Labels-front_tokens (is_target code k) k (maybe_tokens names (slice_get code k)) small,
      MaybeStatement-maybe_tokens (slice_get code k) refl,
    )
