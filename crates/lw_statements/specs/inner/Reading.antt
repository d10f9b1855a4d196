-- What a reader of cells has read, and why it failed.
use Rattle.std.specs.Prelude.{◌≡◌, ◌≢◌, ◌<◌, ◌≤◌, ◌+◌, ◌*◌, ◌⊎◌, ℕ, if◌then◌else◌, Option, Some, None, List, [], ◌∷◌, ◌++◌, length, map, take, drop}
use Rattle.std.specs.Prelude.{codes, slice_get, All, Contains, IsSome, IfSome, MatchOption, is_some}
use Rattle.std.specs.List.{AllZip, filter_map}
use Rattle.std.specs.Option.{option_map, ForSome}
use Rattle.lw_base.specs.Limits.{most_locations}
use Rattle.lw_base.specs.Types.{Bytes, NameTable, TokenList, Cells, CellGrid}
use Rattle.lw_base.specs.declared.fault.CellFault.{CellFault}
use Rattle.lw_base.specs.declared.fault.CellCause.{CellCause}
use Rattle.lw_base.specs.declared.fault.CellCause.TheVariants.{Form, LabelMissing, Backward, Memory}
use Rattle.lw_base.specs.Lists.{IsDuplicateFree}
use Rattle.lw_base.specs.Names.{IsUnreservedName}
use Rattle.lw_base.specs.NoParse.{HoldsOfNothing}
use Rattle.lw_base.specs.Tables.{contains_name, insert_names}
use Rattle.lw_text.specs.declared.cell.Cell.{Cell}
use Rattle.lw_text.specs.declared.token.Token.{Token}
use Rattle.lw_text.specs.PlacedCells.{PlacedCell, texts_of_grid}
use Rattle.lw_text.specs.Places.{cells_texts, all_texts, placed_row, placed_cells, EndsBefore}
use Rattle.lw_text.specs.Spans.{token_texts}
use Rattle.lw_statements.specs.declared.phrase.Phrase.{Phrase}
use Rattle.lw_statements.specs.declared.draft.Draft.{Draft}
use Rattle.lw_statements.specs.declared.draft.DraftCell.{DraftCell}
use Rattle.lw_statements.specs.declared.draft.Operands.{Operands}
use Rattle.lw_statements.specs.Grammars.{Grammar, BeginsStatement, CanBegin, IsLocationAfter}
use Rattle.lw_statements.specs.Cells.{CellSyntax, MaybeStatement, Labels, Column, statements, LabelsLeadForward, names_in, names_of, code_in}
use Rattle.lw_statements.specs.declared.column.DraftColumn.{DraftColumn}
use Rattle.lw_statements.specs.inner.Drafts.{LabelMap, target_by, ReadWithTable, draft_in, ColumnDrafted}
use Rattle.lw_statements.specs.Faults.{BeginsWithLabel, IsMisfitCause, IsUnknownRegister, IsMeantAsRegister, BeginsFitting, CellCauseIsTrue}
use Rattle.lw_statements.specs.Bindings.{with_target}
use Rattle.lw_statements.specs.inner.Tokens.{FaultClaim, Refused, IsOverflowName, AllEndBefore}

-- ---- Labels.

-- The map has exactly these names.
abbrev pub HasExactlyLabels : LabelMap → List Bytes → Type 0
HasExactlyLabels labels names = (n : Bytes) → is_some (target_by labels n) ≡ contains_name names n

-- The first `next` tokens of a cell are labels of the statement at the index `to`. The map after has them beside those that the thread had
-- before.
pub record LabelsRead (tokens : List Token) (to : ℕ) (labels : LabelMap) (next : ℕ) (after : LabelMap) : Type 0 where
  pub names : List Bytes
  pub within : next ≤ length tokens
  pub two_each : next ≡ 2 * length names
  pub says : Labels (token_texts (take next tokens)) names []
  pub made : (n : Bytes) → target_by after n ≡ (if contains_name names n then Some to else target_by labels n)
  pub without_duplicates : (known : List Bytes) → HasExactlyLabels labels known → IsDuplicateFree known → IsDuplicateFree (known ++ names)

-- These are all labels of the cell: the rest begins with no label.
pub record LabelsTaken (tokens : List Token) (to : ℕ) (labels : LabelMap) (next : ℕ) (after : LabelMap) : Type 0 where
  pub read : LabelsRead tokens to labels next after
  pub stops : BeginsWithLabel (token_texts (drop next tokens)) → ⊥

-- These names are all labels of a cell; none of them is in the map before, and there are no duplicates.
pub record LabelsFit (labels : LabelMap) (ts : TokenList) (names : List Bytes) : Type 0 where
  pub known : List Bytes
  pub knows : HasExactlyLabels labels known
  pub rest : TokenList
  pub says : Labels ts names rest
  pub stops : BeginsWithLabel rest → ⊥
  pub without_duplicates : IsDuplicateFree (known ++ names)

-- A token in the place of a label is at this place of a cell, after labels of which none is a duplicate.
pub record IsAtLabel (tokens : List Token) (labels : LabelMap) (at : ℕ) : Type 0 where
  pub names : List Bytes
  pub place : ℕ
  pub token : Token
  pub token_at : slice_get tokens place ≡ Some token
  pub begins : token.at ≡ at
  pub says : Labels (token_texts (take place tokens)) names []
  pub colon : slice_get (token_texts tokens) (place + 1) ≡ Some (codes ":")
  pub without_duplicates : (known : List Bytes) → HasExactlyLabels labels known → IsDuplicateFree known → IsDuplicateFree (known ++ names)

-- A label that its thread has already is at this place of a cell.
abbrev pub HasDuplicateLabelAt : List Token → LabelMap → ℕ → Type 0
HasDuplicateLabelAt tokens labels at =
    (l : IsAtLabel tokens labels at)
    × ((known : List Bytes) → HasExactlyLabels labels known → Contains (known ++ l.names) l.token.text.now)

-- A token that can be no label is in the place of one, at this place of a cell.
abbrev pub HasNoLabelAt : List Token → LabelMap → ℕ → CellCause → Type 0
HasNoLabelAt tokens labels at cause =
    (l : IsAtLabel tokens labels at)
    × (IsUnreservedName l.token.text.now → ⊥) × IsMisfitCause (IsUnknownRegister l.token.text.now) cause

-- The labels of a cell are rejected: they do not fit, and at the place a token is no label or a second one, as the cause says.
abbrev pub LabelsRefused : List Token → LabelMap → CellFault → Type 0
LabelsRefused tokens labels =
    Refused (HoldsOfNothing (LabelsFit labels (token_texts tokens)))
    (λ at. FaultClaim (HasNoLabelAt tokens labels at) ⊥ (HasDuplicateLabelAt tokens labels at) ⊥ ⊥)
    (λ len. All (λ t. t.at ≤ len) tokens)

-- ---- Jumps.

-- The jump of the statement at this index to a label is rejected for this cause.
abbrev pub IsJumpCause : LabelMap → ℕ → Bytes → CellCause → Type 0
IsJumpCause labels own_index l LabelMissing = target_by labels l ≡ None
IsJumpCause labels own_index l Backward = (to : ℕ) × (target_by labels l ≡ Some to) × (to ≤ own_index)
IsJumpCause labels own_index l cause = ⊥

-- If the statement has a label, at this index among its tokens, its target is `to`, and `to` is greater than the statement's own index.
abbrev pub HasForwardTarget : LabelMap → ℕ → List Token → Option ℕ → Option ℕ → Type 0
HasForwardTarget labels own_index tokens None to = to ≡ None
HasForwardTarget labels own_index tokens (Some k) to =
    (t : Token) × (n : ℕ) × (slice_get tokens k ≡ Some t) × (to ≡ Some n) × (target_by labels t.text.now ≡ Some n) × (own_index < n)

-- The label at this index among the tokens does not target a statement after the one at the index `own_index`; the fault says at that token
-- whether it is missing, or leads backward.
pub record JumpRefused (labels : LabelMap) (own_index : ℕ) (tokens : List Token) (label : Option ℕ) (fault : CellFault) : Type 0 where
  pub index : ℕ
  pub token : Token
  pub labelled : label ≡ Some index
  pub token_at : slice_get tokens index ≡ Some token
  pub begins : token.at ≡ fault.at
  pub because : IsJumpCause labels own_index token.text.now fault.cause

-- Resolving drafts, by the function from a form and operands to a statement.
module _ {Form Stmt : Type 0} (make : Form → Operands → Option Stmt) where
  -- The label of a draft, if it has one, is one of the tokens; and for any target a statement results from the draft.
  pub record IsResolvable (tokens : List Token) (draft : Draft Form) : Type 0 where
    pub labelled : IfSome draft.label (λ k. k < length tokens)
    pub makes : (labels : LabelMap) (own_index : ℕ) (to : Option ℕ) → HasForwardTarget labels own_index tokens draft.label to
        → IsSome (make draft.form (with_target to draft.operands))

  -- This statement, at the index `own_index`, results from the draft, and the draft's label, if it has one, leads forward.
  pub record IsResolved (labels : LabelMap) (own_index : ℕ) (tokens : List Token) (draft : Draft Form) (stmt : Stmt) : Type 0 where
    pub to : Option ℕ
    pub leads_forward : HasForwardTarget labels own_index tokens draft.label to
    pub made : make draft.form (with_target to draft.operands) ≡ Some stmt

  -- The statement of a cell, if it has one, is resolved and appended to those before.
  abbrev pub IsCellResolved : {A : Type 0} → LabelMap → Cell A → DraftCell (Draft Form) → List Stmt → List Stmt → Type 0
  IsCellResolved labels cell draft before after =
      MatchOption draft.stmt (after ≡ before)
      (λ d. (stmt : Stmt) × IsResolved labels (length before) (drop draft.start cell.tokens) d stmt × (after ≡ before ++ stmt ∷ []))

-- Why a cell's statement, with this index, is not resolved: memory ran out, or its label does not lead forward.
abbrev pub IsUnresolved : {Form A : Type 0} → LabelMap → ℕ → Cell A → DraftCell (Draft Form) → CellFault → Type 0
IsUnresolved {Form} labels own_index cell draft f =
    ((f.cause ≡ Memory) × (f.at ≡ 0))
    ⊎ ((d : Draft Form) × (draft.stmt ≡ Some d) × JumpRefused labels own_index (drop draft.start cell.tokens) d.label f)

-- The content of a cell without labels, with this statement or none.
abbrev pub cell_without_labels : {Syntax : Type 0} → Option Syntax → CellSyntax Syntax
cell_without_labels o = record { labels = []; stmt = o }

module _ {Syntax Stmt : Type 0} (grammar : Grammar Syntax Stmt) where
  -- ---- Statements.

  -- A token after which no statement is possible is at this place; a statement that fits the table begins with those before it, if there
  -- are any. The cause is Register if it is meant as a register, and otherwise Form.
  pub record HasMisfitIn (tokens : List Token) (names : NameTable) (at : ℕ) (cause : CellCause) : Type 0 where
    pub place : ℕ
    pub token : Token
    pub token_at : slice_get tokens place ≡ Some token
    pub begins : token.at ≡ at
    pub begun : place ≢ 0 → BeginsFitting grammar names (token_texts (take place tokens))
    pub none : BeginsStatement grammar (token_texts (take place tokens) ++ token.text.now ∷ []) → ⊥
    pub meant : IsMisfitCause (IsMeantAsRegister grammar (token_texts (take place tokens)) token.text.now) cause

  -- The tokens end too early, at this place: they are no statement, and one that fits the table begins with them.
  pub record EndsEarlyIn (tokens : List Token) (end : ℕ) (names : NameTable) (at : ℕ) : Type 0 where
    pub ends : end ≡ at
    pub begun : token_texts tokens ≢ [] → BeginsFitting grammar names (token_texts tokens)
    pub none : (s : Syntax) → grammar.says (token_texts tokens) s → ⊥

  -- A token that is a ninth location is at this place, where a statement has its location.
  pub record HasOverflowIn (tokens : List Token) (names : NameTable) (at : ℕ) : Type 0 where
    pub place : ℕ
    pub token : Token
    pub token_at : slice_get tokens place ≡ Some token
    pub begun : place ≢ 0 → BeginsFitting grammar names (token_texts (take place tokens))
    pub location : IsLocationAfter grammar (token_texts (take place tokens)) token.text.now
    pub overflow : IsOverflowName names token at

  -- The tokens of a statement are wrong at this place, for this cause.
  abbrev pub WrongIn : List Token → ℕ → NameTable → ℕ → CellCause → Type 0
  WrongIn tokens end names at cause =
      HasMisfitIn tokens names at cause ⊎ ((cause ≡ Form) × EndsEarlyIn tokens end names at)

  -- What a cause means for a place in a rejected statement.
  abbrev pub StatementFaultIsTrue : List Token → ℕ → NameTable → ℕ → CellCause → Type 0
  StatementFaultIsTrue tokens end names at = FaultClaim (WrongIn tokens end names at) ⊥ ⊥ ⊥ (HasOverflowIn tokens names at)

  -- The name of a statement's location, if it has one.
  abbrev pub named_by : Syntax → List Bytes
  named_by s = filter_map grammar.name_of (s ∷ [])

  -- The tokens are the statement, and the table has its location or room for it.
  abbrev pub Fits : NameTable → TokenList → Syntax → Type 0
  Fits names ts s = grammar.says ts s × (length (insert_names names (named_by s)) ≤ most_locations)

  -- The tokens are rejected as a statement: they are none that fits the table, and the cause is true of the place.
  abbrev pub StatementRefused : NameTable → Phrase → CellFault → Type 0
  StatementRefused names phrase =
      Refused (HoldsOfNothing (Fits names (token_texts phrase.tokens.now))) (StatementFaultIsTrue phrase.tokens.now phrase.end names) (λ len. AllEndBefore len phrase)

  -- The tokens after a cell's labels are this statement, or none; the table has room for its location, and the thread for the statement
  -- after `above` others.
  pub record FitsBelow (above : ℕ) (names : NameTable) (ts : TokenList) (o : Option Syntax) : Type 0 where
    pub says : MaybeStatement grammar ts o
    pub bounded : above + length (statements (cell_without_labels o ∷ [])) ≤ grammar.language.most
    pub room : length (insert_names names (names_in grammar (cell_without_labels o ∷ []))) ≤ most_locations

  -- The token at this place is the first, and can begin a statement.
  abbrev pub BeginsStatementAt : List Token → ℕ → Type 0
  BeginsStatementAt tokens at = (t : Token) × (slice_get tokens 0 ≡ Some t) × (t.at ≡ at) × CanBegin grammar t.text.now

  -- What a cause means for a place after a cell's labels, if the cells above have `above` statements: the thread has room for a statement,
  -- whose tokens are wrong or have a ninth location; or it has none, and the first token begins a statement beyond the limit or is wrong.
  abbrev pub OptionalStatementFaultIsTrue : ℕ → List Token → ℕ → NameTable → ℕ → CellCause → Type 0
  OptionalStatementFaultIsTrue above tokens end names at =
      FaultClaim
      (λ cause.
      ((m : HasMisfitIn tokens names at cause) × ((m.place ≡ 0) ⊎ (above ≢ grammar.language.most)))
      ⊎ ((cause ≡ Form) × (above ≢ grammar.language.most) × (token_texts tokens ≢ []) × EndsEarlyIn tokens end names at))
      ⊥ ⊥ ⊥
      (((above ≡ grammar.language.most) × BeginsStatementAt tokens at) ⊎ ((above ≢ grammar.language.most) × HasOverflowIn tokens names at))

  -- The tokens after a cell's labels are rejected: they are nothing that fits, and the cause is true of the place.
  abbrev pub MaybeRefused : ℕ → NameTable → Phrase → CellFault → Type 0
  MaybeRefused above names phrase =
      Refused (HoldsOfNothing (FitsBelow above names (token_texts phrase.tokens.now))) (OptionalStatementFaultIsTrue above phrase.tokens.now phrase.end names) (λ len. AllEndBefore len phrase)

  -- ---- Columns.

  -- All jumps of a thread lead forward.
  abbrev pub AllForward : List (CellSyntax Syntax) → Type 0
  AllForward syntaxes =
      (k : ℕ) (s : Syntax) → slice_get (statements syntaxes) k ≡ Some s → LabelsLeadForward grammar syntaxes k s

  -- The cells of a thread have this content, and the table has room for its locations. If nothing fits, the column is rejected.
  abbrev pub ColumnFits : NameTable → Cells → List (CellSyntax Syntax) → Type 0
  ColumnFits names cells t = Column grammar cells t × (length (insert_names names (names_in grammar t)) ≤ most_locations)

  -- The cells of threads have this content, and the table has room for the locations of all of them.
  abbrev pub ColumnsFit : NameTable → CellGrid → List (List (CellSyntax Syntax)) → Type 0
  ColumnsFit names columns t =
      AllZip (Column grammar) columns t × (length (insert_names names (names_of grammar t)) ≤ most_locations)

  -- The cells of a thread are read: these are its resolved statements; the tables are those before and after its locations' names.
  abbrev pub ColumnRead : Cells → NameTable → List Stmt → NameTable → Type 0
  ColumnRead cells = ReadWithTable (Column grammar cells) (names_in grammar) (code_in grammar)

  -- The cells of threads are read: these are their resolved statements; the tables are those before and after their locations' names.
  abbrev pub ColumnsRead : CellGrid → NameTable → List (List Stmt) → NameTable → Type 0
  ColumnsRead columns = ReadWithTable (AllZip (Column grammar) columns) (names_of grammar) (λ names. map (code_in grammar names))

  -- What the cause of a fault in a thread's cells means for its place, whatever the other threads are; those before it were read, and the
  -- table grew by their names.
  abbrev pub ColumnFaultIsTrue : List PlacedCell → NameTable → ℕ → CellCause → Type 0
  ColumnFaultIsTrue column mid at cause =
      (names : NameTable) (front rest : List (List PlacedCell)) (threads : List (List (CellSyntax Syntax)))
      → AllZip (Column grammar) (texts_of_grid front) threads → mid ≡ insert_names names (names_of grammar threads)
      → CellCauseIsTrue grammar names (front ++ column ∷ rest) at cause

  -- The cells of a thread are rejected: they have no content that fits, and the cause is true of the place.
  abbrev pub ColumnRefused : {A : Type 0} → NameTable → List (Cell A) → CellFault → Type 0
  ColumnRefused names cells =
      Refused (HoldsOfNothing (ColumnFits names (cells_texts cells))) (ColumnFaultIsTrue (placed_row cells) names) (λ len. All (EndsBefore len) cells)

  -- The cells of threads are rejected: they have no content that fits, and the cause is true of the place.
  abbrev pub ColumnsRefused : {A : Type 0} → NameTable → List (List (Cell A)) → CellFault → Type 0
  ColumnsRefused names columns =
      Refused (HoldsOfNothing (ColumnsFit names (all_texts columns))) (CellCauseIsTrue grammar names (placed_cells columns))
      (λ len. All (λ column. All (EndsBefore len) column) columns)

-- Reading drafts, with a table that grows by the names of locations.
module _ {Syntax Stmt D : Type 0} (grammar : Grammar Syntax Stmt) (draft_of : ℕ → Syntax → D) where
  -- The tokens are a statement, and this is its draft. The tables are those before and after its location's name.
  abbrev pub StatementRead : TokenList → NameTable → D → NameTable → Type 0
  StatementRead ts = ReadWithTable (grammar.says ts) (named_by grammar) (draft_in grammar draft_of)

  -- The tokens after a cell's labels are empty, or a statement for which the thread has room; this is its draft.
  pub record MaybeRead (above : ℕ) (ts : TokenList) (before : NameTable) (draft : Option D) (after : NameTable) : Type 0 where
    pub room : ForSome draft (λ _. above ≢ grammar.language.most)
    pub read : ReadWithTable (MaybeStatement grammar ts) (λ o. names_in grammar (cell_without_labels o ∷ [])) (λ names. option_map (draft_in grammar draft_of names))
        before draft after

  -- The cell is read: if the old column results from the cells above it, the new one results from these and it.
  abbrev pub CellRead : {A : Type 0} → Cell A → DraftColumn D A → NameTable → DraftColumn D A → NameTable → Type 0
  CellRead {A} cell old names new after =
      (front : List (Cell A)) (before : NameTable) → ColumnDrafted grammar draft_of front before old names
      → ColumnDrafted grammar draft_of (front ++ cell ∷ []) before new after

  -- The cell is rejected: if the old column results from the cells above it, the thread is rejected, whatever is below.
  abbrev pub CellRefused : {A : Type 0} → Cell A → DraftColumn D A → NameTable → CellFault → Type 0
  CellRefused {A} cell old names f =
      (front rest : List (Cell A)) (before : NameTable) → ColumnDrafted grammar draft_of front before old names
      → ColumnRefused grammar before (front ++ cell ∷ rest) f
