-- The labels and statements of a test's cells, by docs/FORMAT.md.
use Rattle.std.specs.Prelude.{◌≡◌, ◌<◌, ◌≤◌, ◌+◌, ℕ, if◌then◌else◌, Option, Some, None, List, [], ◌∷◌, length, map, codes, slice_get, Contains}
use Rattle.std.specs.List.{flat_map, filter_map, AllZip}
use Rattle.std.specs.Option.{ForSome}
use Rattle.lw_base.specs.Limits.{most_locations}
use Rattle.lw_base.specs.Types.{Bytes, NameTable, TokenList, Cells}
use Rattle.lw_base.specs.Heads.{TestHead, set_location_names}
use Rattle.lw_base.specs.Lists.{IsDuplicateFree}
use Rattle.lw_base.specs.Names.{IsUnreservedName}
use Rattle.lw_base.specs.Tables.{contains_name, insert_names, position_of_name}
use Rattle.lw_text.specs.Frames.{TestFrame}
use Rattle.lw_statements.specs.Grammars.{Grammar}
use Rattle.lw_litmus.specs.Tests.{Test}

-- The content of a cell: labels, and at most one statement.
pub record CellSyntax (Syntax : Type 0) : Type 0 where
  pub labels : List Bytes
  pub stmt : Option Syntax

-- The tokens are labels, each followed by a `:`, and then rest. A label is a name that is not reserved, as for a location.
abbrev pub Labels : TokenList → List Bytes → TokenList → Type 0
Labels ts [] rest = ts ≡ rest
Labels ts (l ∷ ls) rest = (mid : TokenList) × (ts ≡ l ∷ codes ":" ∷ mid) × IsUnreservedName l × Labels mid ls rest

-- The statements of cells, from top to bottom.
abbrev pub statements : {Syntax : Type 0} → List (CellSyntax Syntax) → List Syntax
statements {Syntax} syntaxes = filter_map (λ (syntax : CellSyntax Syntax). syntax.stmt) syntaxes

-- The labels of cells, from top to bottom.
abbrev pub labels_of : {Syntax : Type 0} → List (CellSyntax Syntax) → List Bytes
labels_of {Syntax} syntaxes = flat_map (λ (syntax : CellSyntax Syntax). syntax.labels) syntaxes

-- The index of the statement that a label targets: the first in the label's cell or after it. It is the number of statements if there is
-- none, or if no cell has the label.
abbrev pub target_in : {Syntax : Type 0} → List (CellSyntax Syntax) → Bytes → ℕ
target_in [] l = 0
target_in (syntax ∷ syntaxes) l =
    if contains_name syntax.labels l then 0 else length (statements (syntax ∷ [])) + target_in syntaxes l

-- The index of a location in a table; 0 if no name is given.
abbrev pub location_index : NameTable → Option Bytes → ℕ
location_index names None = 0
location_index names (Some x) = position_of_name names x

-- The index of the statement that a label targets; 0 if no label is given.
abbrev pub resolved_target : {Syntax : Type 0} → List (CellSyntax Syntax) → Option Bytes → ℕ
resolved_target syntaxes None = 0
resolved_target syntaxes (Some l) = target_in syntaxes l

module _ {Syntax Stmt : Type 0} (grammar : Grammar Syntax Stmt) where
  -- The tokens after a cell's labels are empty, or this statement.
  abbrev pub MaybeStatement : TokenList → Option Syntax → Type 0
  MaybeStatement ts None = ts ≡ []
  MaybeStatement ts (Some s) = grammar.says ts s

  -- The cell's tokens are labels, followed by nothing or a statement.
  abbrev pub ParsesCell : TokenList → CellSyntax Syntax → Type 0
  ParsesCell cell syntax = (mid : TokenList) × Labels cell syntax.labels mid × MaybeStatement mid syntax.stmt

  -- If the statement at this index jumps, its label is one of the thread's, and targets a later statement or the thread's end.
  abbrev pub LabelsLeadForward : List (CellSyntax Syntax) → ℕ → Syntax → Type 0
  LabelsLeadForward syntaxes k s =
      ForSome (grammar.label_of s) (λ l. Contains (labels_of syntaxes) l × (k < target_in syntaxes l))

  -- The cells of a thread have this content, from top to bottom: at most as many statements as the language allows, labels without
  -- duplicates, and jumps forward.
  pub record Column (cells : Cells) (syntaxes : List (CellSyntax Syntax)) : Type 0 where
    pub says : AllZip ParsesCell cells syntaxes
    pub bounded : length (statements syntaxes) ≤ grammar.language.most
    pub without_duplicates : IsDuplicateFree (labels_of syntaxes)
    pub forward :
        (k : ℕ) (s : Syntax) → slice_get (statements syntaxes) k ≡ Some s → LabelsLeadForward syntaxes k s

  -- The names of the locations in a thread's statements, from top to bottom.
  abbrev pub names_in : List (CellSyntax Syntax) → List Bytes
  names_in syntaxes = filter_map grammar.name_of (statements syntaxes)

  -- The names of the locations in the statements of all threads, thread by thread.
  abbrev pub names_of : List (List (CellSyntax Syntax)) → List Bytes
  names_of threads = flat_map names_in threads

  -- The resolved statement, with its location's index in a table, and the index of the statement that its label targets.
  abbrev pub resolved_statement : NameTable → List (CellSyntax Syntax) → Syntax → Stmt
  resolved_statement names syntaxes s =
      grammar.statement_of (location_index names (grammar.name_of s)) (resolved_target syntaxes (grammar.label_of s)) s

  -- A thread's code: the statements of its cells, resolved.
  abbrev pub code_in : NameTable → List (CellSyntax Syntax) → List Stmt
  code_in names syntaxes = map (resolved_statement names syntaxes) (statements syntaxes)

  -- The test of a head and of the content of its threads' cells, with this table.
  abbrev pub resolve_test : TestHead → NameTable → List (List (CellSyntax Syntax)) → Test Stmt
  resolve_test head names threads =
      record { head = set_location_names head names; threads = map (code_in names) threads }

  -- The frame is of the language, and its cells are the statements of the test, on at most eight locations.
  pub record FrameHasTest (frame : TestFrame) (test : Test Stmt) : Type 0 where
    pub arch : frame.head.arch ≡ grammar.language.arch
    pub threads : List (List (CellSyntax Syntax))
    pub says : AllZip Column frame.cells threads
    pub bounded : length (insert_names frame.head.locs (names_of threads)) ≤ most_locations
    pub test_is : test ≡ resolve_test frame.head (insert_names frame.head.locs (names_of threads)) threads
