-- What is true at the place of a cell's fault: what precedes it is read, and the token there, or the end of the cell, is at fault as the
-- cause says.
use Rattle.std.specs.Prelude.{◌≡◌, ◌≢◌, ◌≤◌, ◌⊎◌, ℕ, true, Some, List, [], ◌∷◌, ◌++◌, length, codes, slice_get, Contains}
use Rattle.std.specs.List.{AllZip, filter_map}
use Rattle.lw_base.specs.Limits.{most_locations}
use Rattle.lw_base.specs.Lists.{IsDuplicateFree}
use Rattle.lw_base.specs.Types.{Bytes, NameTable, TokenList}
use Rattle.lw_base.specs.declared.fault.CellFault.{CellFault}
use Rattle.lw_base.specs.declared.fault.CellCause.{CellCause}
use Rattle.lw_base.specs.declared.fault.CellCause.TheVariants.{Form, Register, LabelMissing, LabelTwice, Backward, TooMany, Memory}
use Rattle.lw_base.specs.declared.head.Arch.TheVariants.{Source}
use Rattle.lw_base.specs.Names.{IsName, IsUnreservedName, is_numbered_register}
use Rattle.lw_base.specs.Registers.{IsRegisterName}
use Rattle.lw_base.specs.Tables.{insert_names}
use Rattle.lw_text.specs.PlacedTokens.{PlacedToken, texts_of_tokens}
use Rattle.lw_text.specs.PlacedCells.{PlacedCell, texts_of_cells, texts_of_grid}
use Rattle.lw_statements.specs.Grammars.{Grammar, BeginsStatement, CanBegin, IsLocationAfter, IsBeforeRegister}
use Rattle.lw_statements.specs.Cells.{CellSyntax, Labels, ParsesCell, Column, statements, labels_of, target_in, names_in, names_of, LabelsLeadForward}

-- A cell among the columns, with the cells above and below it in its column, and the columns before and after that.
pub record CellPosition (columns : List (List PlacedCell)) : Type 0 where
  pub before : List (List PlacedCell)
  pub above : List PlacedCell
  pub cell : PlacedCell
  pub below : List PlacedCell
  pub after : List (List PlacedCell)
  pub in_columns : columns ≡ before ++ (above ++ cell ∷ below) ∷ after

-- The token that begins at an offset, with its cell, and the tokens before and after it in the cell. A fault is reported there.
pub record TokenPosition (columns : List (List PlacedCell)) (at : ℕ) : Type 0 where
  pub place : CellPosition columns
  pub front : List PlacedToken
  pub token : PlacedToken
  pub back : List PlacedToken
  pub in_cell : place.cell.tokens ≡ front ++ token ∷ back
  pub begins : token.at ≡ at

-- The content of a thread's cells, from top to bottom: those above a cell, that cell, and those below it.
abbrev pub all_syntaxes : {Syntax : Type 0} → List (CellSyntax Syntax) → CellSyntax Syntax → List (CellSyntax Syntax) → List (CellSyntax Syntax)
all_syntaxes above syntax below = above ++ syntax ∷ below

-- The tokens begin with a `:`.
abbrev pub BeginsWithColon : TokenList → Type 0
BeginsWithColon ts = slice_get ts 0 ≡ Some (codes ":")

-- The second of these tokens is a `:`, so the first is in the place of a label.
abbrev pub BeginsWithLabel : TokenList → Type 0
BeginsWithLabel ts = slice_get ts 1 ≡ Some (codes ":")

-- The token is `r` followed by digits, and no register of the source language.
abbrev pub IsUnknownRegister : Bytes → Type 0
IsUnknownRegister t = (is_numbered_register t ≡ true) × ((r : ℕ) → IsRegisterName Source t r → ⊥)

-- The cause of a token that fits none of the statements is Register if the token is meant as a register, which is what `IsMeant` says, and
-- otherwise Form.
abbrev pub IsMisfitCause : Type 0 → CellCause → Type 0
IsMisfitCause IsMeant Form = IsMeant → ⊥
IsMisfitCause IsMeant Register = IsMeant
IsMisfitCause IsMeant cause = ⊥

module _ {Syntax Stmt : Type 0} (grammar : Grammar Syntax Stmt) where
  -- After the tokens `mid`, the token is meant as a register: it is a name where a register may appear and no location, or `r` with digits
  -- and no register.
  abbrev pub IsMeantAsRegister : TokenList → Bytes → Type 0
  IsMeantAsRegister mid t = (IsName t × IsBeforeRegister grammar mid) ⊎ IsUnknownRegister t

  -- The table of locations, after threads with this content and further cells with this content.
  abbrev pub table_after : NameTable → List (List (CellSyntax Syntax)) → List (CellSyntax Syntax) → NameTable
  table_after names threads syntaxes = insert_names names (names_of grammar threads ++ names_in grammar syntaxes)

  -- The threads before a cell and the cells above it have this content, without a fault, and `labels` follow: the threads before are those
  -- of a test; this one has at most as many statements as a thread may have, and no label twice; and the table has at most eight locations.
  pub record AreRead (names : NameTable) (before : List (List PlacedCell)) (above : List PlacedCell)
      (threads : List (List (CellSyntax Syntax))) (syntaxes : List (CellSyntax Syntax)) (labels : List Bytes) : Type 0 where
    pub before_says : AllZip (Column grammar) (texts_of_grid before) threads
    pub says : AllZip (ParsesCell grammar) (texts_of_cells above) syntaxes
    pub bounded : length (statements syntaxes) ≤ grammar.language.most
    pub without_duplicates : IsDuplicateFree (labels_of syntaxes ++ labels)
    pub room : length (table_after names threads syntaxes) ≤ most_locations

  -- What precedes a fault in a cell is read: the threads before, the cells above, and of the cell the tokens `ts`, which are labels
  -- followed by `mid`.
  pub record IsReadTo (names : NameTable) {columns : List (List PlacedCell)} (c : CellPosition columns) (ts mid : TokenList) : Type 0 where
    pub threads : List (List (CellSyntax Syntax))
    pub syntaxes : List (CellSyntax Syntax)
    pub labels : List Bytes
    pub read : AreRead names c.before c.above threads syntaxes labels
    pub in_front : Labels ts labels mid

  -- The table of locations, after what is read.
  abbrev pub table_of : {names : NameTable} {columns : List (List PlacedCell)} {c : CellPosition columns} {ts mid : TokenList}
      → IsReadTo names c ts mid → NameTable
  table_of {names} r = table_after names r.threads r.syntaxes

  -- Some statement begins with the tokens, on a location that the table has or has room for.
  pub record BeginsFitting (names : NameTable) (ts : TokenList) : Type 0 where
    pub rest : TokenList
    pub syntax : Syntax
    pub says : grammar.says (ts ++ rest) syntax
    pub room : length (insert_names names (filter_map grammar.name_of (syntax ∷ []))) ≤ most_locations

  -- The thread has room for one more statement, and some statement that fits the table begins with the tokens.
  pub record IsBegun {names : NameTable} {columns : List (List PlacedCell)} {c : CellPosition columns} {ts mid : TokenList}
      (r : IsReadTo names c ts mid) : Type 0 where
    pub has_room : length (statements r.syntaxes) ≢ grammar.language.most
    pub begins : BeginsFitting (table_of r) mid

  -- The cell ends too early: the tokens after its labels begin a statement that fits, and are none.
  pub record EndsEarly (names : NameTable) {columns : List (List PlacedCell)} (c : CellPosition columns) (at : ℕ) : Type 0 where
    pub mid : TokenList
    pub read : IsReadTo names c (texts_of_tokens c.cell.tokens) mid
    pub no_label : BeginsWithLabel mid → ⊥
    pub not_empty : mid ≢ []
    pub begun : IsBegun read
    pub none : (s : Syntax) → grammar.says mid s → ⊥
    pub ends : c.cell.end ≡ at

  module _ (names : NameTable) {columns : List (List PlacedCell)} {at : ℕ} where
    -- The token is in the place of a label, since a `:` follows, and is no name that a label may have.
    pub record IsNoLabel (p : TokenPosition columns at) : Type 0 where
      pub read : IsReadTo names p.place (texts_of_tokens p.front) []
      pub colon : BeginsWithColon (texts_of_tokens p.back)
      pub none : IsUnreservedName p.token.text → ⊥

    -- The token follows the labels of its cell and `mid`. Unless `mid` is empty, some statement that fits begins with it; none begins with
    -- `mid` and the token.
    pub record IsMisfit (p : TokenPosition columns at) : Type 0 where
      pub mid : TokenList
      pub read : IsReadTo names p.place (texts_of_tokens p.front) mid
      pub no_label : BeginsWithLabel (mid ++ p.token.text ∷ texts_of_tokens p.back) → ⊥
      pub begun : mid ≢ [] → IsBegun read
      pub none : BeginsStatement grammar (mid ++ p.token.text ∷ []) → ⊥

    -- The token fits none of the statements, and this is the cause.
    abbrev pub IsWrong : TokenPosition columns at → CellCause → Type 0
    IsWrong p cause =
        (IsNoLabel p × IsMisfitCause (IsUnknownRegister p.token.text) cause)
        ⊎ ((m : IsMisfit p) × IsMisfitCause (IsMeantAsRegister m.mid p.token.text) cause)

    -- The token is a label that its thread has already: above, or earlier in its cell.
    pub record IsSecondLabel (p : TokenPosition columns at) : Type 0 where
      pub read : IsReadTo names p.place (texts_of_tokens p.front) []
      pub colon : BeginsWithColon (texts_of_tokens p.back)
      pub label_is_taken : Contains (labels_of read.syntaxes ++ read.labels) p.token.text

    -- The token is the first after the labels of its cell, is no label, and can begin a statement; the cells above have as many statements
    -- as a thread may have.
    pub record IsSurplus (p : TokenPosition columns at) : Type 0 where
      pub read : IsReadTo names p.place (texts_of_tokens p.front) []
      pub begins : CanBegin grammar p.token.text
      pub no_label : BeginsWithColon (texts_of_tokens p.back) → ⊥
      pub full : length (statements read.syntaxes) ≡ grammar.language.most

    -- The token is a location and no label, of a statement for which the thread has room, and is not among the eight locations of the table
    -- and of the tokens before. Only a first token is a label if a `:` follows: in `r0 := y :` the first fault is the location y, not the
    -- `:`.
    pub record IsNinth (p : TokenPosition columns at) : Type 0 where
      pub mid : TokenList
      pub read : IsReadTo names p.place (texts_of_tokens p.front) mid
      pub no_label : BeginsWithLabel (mid ++ p.token.text ∷ texts_of_tokens p.back) → ⊥
      pub has_room : length (statements read.syntaxes) ≢ grammar.language.most
      pub begun : mid ≢ [] → IsBegun read
      pub is_location : IsLocationAfter grammar mid p.token.text
      pub full : length (table_of read) ≡ most_locations
      pub new : Contains (table_of read) p.token.text → ⊥

    -- The token is the label of its cell's jump. All cells of its thread are read, with this content, and the jumps above lead forward.
    pub record IsJumpLabel (p : TokenPosition columns at)
        (above : List (CellSyntax Syntax)) (syntax : CellSyntax Syntax) (below : List (CellSyntax Syntax)) : Type 0 where
      pub threads : List (List (CellSyntax Syntax))
      pub read : AreRead names p.place.before (p.place.above ++ p.place.cell ∷ p.place.below) threads (all_syntaxes above syntax below) []
      pub above_says : AllZip (ParsesCell grammar) (texts_of_cells p.place.above) above
      pub ahead : (k : ℕ) (s : Syntax) → slice_get (statements above) k ≡ Some s
          → LabelsLeadForward grammar (all_syntaxes above syntax below) k s
      pub last : p.back ≡ []
      pub jump : (s : Syntax) × (syntax.stmt ≡ Some s) × (grammar.label_of s ≡ Some p.token.text)

    -- The token is the label of a jump, and no label of its thread.
    abbrev pub IsMissing : TokenPosition columns at → Type 0
    IsMissing p =
        (above : List (CellSyntax Syntax)) × (syntax : CellSyntax Syntax) × (below : List (CellSyntax Syntax))
        × IsJumpLabel p above syntax below
        × (Contains (labels_of (all_syntaxes above syntax below)) p.token.text → ⊥)

    -- The token is the label of a jump, and that label is at the jump or above it.
    abbrev pub IsBackward : TokenPosition columns at → Type 0
    IsBackward p =
        (above : List (CellSyntax Syntax)) × (syntax : CellSyntax Syntax) × (below : List (CellSyntax Syntax))
        × IsJumpLabel p above syntax below
        × Contains (labels_of (all_syntaxes above syntax below)) p.token.text
        × (target_in (all_syntaxes above syntax below) p.token.text ≤ length (statements above))

  -- What a cause means for a place: the token that begins there, or the cell that ends there, is at fault in this way. Memory means
  -- nothing.
  abbrev pub CellCauseIsTrue : NameTable → List (List PlacedCell) → ℕ → CellCause → Type 0
  CellCauseIsTrue names columns at Form =
      ((p : TokenPosition columns at) × IsWrong names p Form) ⊎ ((c : CellPosition columns) × EndsEarly names c at)
  CellCauseIsTrue names columns at Register = (p : TokenPosition columns at) × IsWrong names p Register
  CellCauseIsTrue names columns at LabelMissing = (p : TokenPosition columns at) × IsMissing names p
  CellCauseIsTrue names columns at LabelTwice = (p : TokenPosition columns at) × IsSecondLabel names p
  CellCauseIsTrue names columns at Backward = (p : TokenPosition columns at) × IsBackward names p
  CellCauseIsTrue names columns at TooMany = (p : TokenPosition columns at) × (IsSurplus names p ⊎ IsNinth names p)
  CellCauseIsTrue names columns at Memory = Unit {0}

  -- What a fault in the cells means: what precedes its place is read, and there the cells are at fault as its cause says. The names are
  -- those of the table before the cells are read.
  abbrev pub CellFaultIsTrue : NameTable → List (List PlacedCell) → CellFault → Type 0
  CellFaultIsTrue names columns f = CellCauseIsTrue names columns f.at f.cause
