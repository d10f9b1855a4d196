-- Statements that are read and not yet resolved, and the representation of a thread's cells at that time.
use Rattle.std.specs.Prelude.{◌≡◌, ◌≤◌, ◌+◌, ◌*◌, ℕ, if◌then◌else◌, Option, Some, None, List, [], ◌∷◌, length, map}
use Rattle.std.specs.List.{AllZip}
use Rattle.std.specs.Option.{option_map}
use Rattle.std.specs.BTreeMap.{BTreeMap, get_by}
use Rattle.std.specs.Cmp.Lexicographic.{slice_cmp}
use Rattle.std.specs.Ordering.{nat_cmp}
use denote.Ref.{Bor}
use Rattle.lw_base.specs.Limits.{most_locations}
use Rattle.lw_base.specs.Types.{Bytes, NameTable}
use Rattle.lw_base.specs.Lists.{IsDuplicateFree}
use Rattle.lw_base.specs.Tables.{contains_name, insert_names}
use Rattle.lw_text.specs.declared.cell.Cell.{Cell}
use Rattle.lw_text.specs.Places.{cells_texts}
use Rattle.lw_statements.specs.declared.column.DraftColumn.{DraftColumn}
use Rattle.lw_statements.specs.declared.draft.DraftCell.{DraftCell}
use Rattle.lw_statements.specs.Grammars.{Grammar}
use Rattle.lw_statements.specs.Cells.{CellSyntax, ParsesCell, statements, labels_of, names_in, location_index}

-- A thread's labels in memory: names, and the indices of the statements that they target.
abbrev pub LabelMap : Type 0
LabelMap = BTreeMap (Bor Bytes) ℕ

-- The index of the statement that a name targets in the map, if it is in it.
abbrev pub target_by : LabelMap → Bytes → Option ℕ
target_by labels n = get_by (λ k. slice_cmp nat_cmp n k.now) labels

-- The index of the statement that a name targets, if it is a label of these cells; `above` statements precede them.
abbrev pub label_target : {Syntax : Type 0} → ℕ → List (CellSyntax Syntax) → Bytes → Option ℕ
label_target above [] n = None
label_target above (syntax ∷ syntaxes) n =
    if contains_name syntax.labels n then Some above else label_target (above + length (statements (syntax ∷ []))) syntaxes n

-- The map takes every name to the statement that the cells say.
abbrev pub MapsLabelsAs : {Syntax : Type 0} → LabelMap → List (CellSyntax Syntax) → Type 0
MapsLabelsAs labels syntaxes = (n : Bytes) → target_by labels n ≡ label_target 0 syntaxes n

-- Reading inserts names into the table of locations: the input has some syntax, the table grew by the names in it from before to after, and
-- the result is what `make` makes of this syntax with the table after.
pub record ReadWithTable {X D : Type 0} (Says : X → Type 0) (names_by : X → List Bytes) (make : NameTable → X → D)
    (before : NameTable) (result : D) (after : NameTable) : Type 0 where
  pub syntax : X
  pub says : Says syntax
  pub names : after ≡ insert_names before (names_by syntax)
  pub made : result ≡ make after syntax

-- The column of no cells.
pub record IsFresh {D A : Type 0} (column : DraftColumn D A) : Type 0 where
  pub cells : column.cells ≡ []
  pub labels : (n : Bytes) → target_by column.labels n ≡ None
  pub count : column.count ≡ 0

module _ {Syntax Stmt : Type 0} (grammar : Grammar Syntax Stmt) where
  -- Drafts, each from a statement's syntax and its location's index.
  module _ {D : Type 0} (draft_of : ℕ → Syntax → D) where
    -- The draft of a statement, with its location's index in a table.
    abbrev pub draft_in : NameTable → Syntax → D
    draft_in names s = draft_of (location_index names (grammar.name_of s)) s

    -- The draft of a cell: the number of tokens of its labels, each with its `:`, and the draft of its statement.
    abbrev pub draft_cell : NameTable → CellSyntax Syntax → DraftCell D
    draft_cell names syntax =
        record { start = 2 * length syntax.labels; stmt = option_map (draft_in names) syntax.stmt }

    -- These cells of a thread were read: the column has their drafts, labels and number of statements, and the table grew by their names
    -- from before to after. Their jumps are not checked yet.
    pub record ColumnDrafted
        {A : Type 0} (cells : List (Cell A)) (before : NameTable) (column : DraftColumn D A) (after : NameTable) : Type 0 where
      pub read : ReadWithTable (AllZip (ParsesCell grammar) (cells_texts cells)) (names_in grammar) (λ names. map (draft_cell names))
          before column.cells after
      pub bounded : length (statements read.syntax) ≤ grammar.language.most
      pub without_duplicates : IsDuplicateFree (labels_of read.syntax)
      pub labels_are : MapsLabelsAs column.labels read.syntax
      pub counted : column.count ≡ length (statements read.syntax)
      pub room : length after ≤ most_locations
