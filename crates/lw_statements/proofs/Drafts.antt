-- Reading the cells of a thread, from top to bottom: the invariant when one more is read. The loop of
-- `read_cells` goes by `ColumnDrafted`.
use Rattle.lw_statements.proofs.Common.{◌≡◌, ℕ, ◌≤◌, ◌+◌, ◌*◌, Option, Some, None, ◌⊎◌, inl, inr, List, []}
use Rattle.lw_statements.proofs.Common.{◌∷◌, ◌++◌, length, drop, sym, ap, ◌∙◌, arith, refl, is_some}
use Rattle.lw_statements.proofs.Common.{slice_get, option_map, append-nil, option_len, ForSome, map-append}
use Rattle.lw_statements.proofs.Common.{most_locations, CellCause, TooMany, CellFault, insert_names}
use Rattle.lw_statements.proofs.Common.{NameTable, TokenList, Cell, Token, token_texts, cell_texts}
use Rattle.lw_statements.proofs.Common.{cells_texts, DraftColumn, DraftCell, Phrase, Grammar, CanBegin}
use Rattle.lw_statements.proofs.Common.{CellSyntax, ParsesCell, statements, labels_of, names_in, draft_in}
use Rattle.lw_statements.proofs.Common.{draft_cell, IsFresh, ColumnDrafted, Fits, FitsBelow}
use Rattle.lw_statements.proofs.Common.{OptionalStatementFaultIsTrue, HasExactlyLabels, LabelsTaken}
use Rattle.lw_statements.proofs.Common.{StatementRead, MaybeRead, cell_without_labels, StatementRefused}
use Rattle.lw_statements.proofs.Common.{MaybeRefused, HasMisfitIn, EndsEarlyIn, WrongIn, Form}
use Rattle.lw_statements.proofs.Causes.{FaultClaim-weakened, FaultClaim-TooMany, FaultClaim-wrong}
use Rattle.lw_statements.proofs.Elements.{All-get}
use Rattle.lw_statements.proofs.FrontLabels.{get_text, Labels-whole}
use Rattle.lw_statements.proofs.Leads.{count-append, labels_of-append, is_some-label_target}
use Rattle.lw_statements.proofs.Leads.{label_target-one_more_cell}
use Rattle.lw_statements.proofs.ResolvedNames.{location_index-insert_names, names_in-append}
use Rattle.lw_statements.proofs.TablesRead.{AreIn, columns_read-push}

-- A count stays within its bound if an item is added only while the count is below it.
pub at_most_room : {X : Type 0} (count most : ℕ) (o : Option X)
    → count ≤ most
    → ForSome o (λ x. count ≡ most → ⊥)
    → count + option_len o ≤ most
at_most_room count most None few room = omega (arith, few)
at_most_room count most (Some x) few room = let free : count ≡ most → ⊥ = room x refl in omega (arith, few, free)

module _ {Syntax Stmt D : Type 0} (grammar : Grammar Syntax Stmt) (draft_of : ℕ → Syntax → D) where
  -- ---- what follows the labels of a cell, by its first token

  -- If the tokens after the labels were read as a statement, and the thread has room for it, then this is the cell's statement.
  pub MaybeRead-some : (above : ℕ) (ts : TokenList) (before : NameTable) (stmt : D) (after : NameTable)
      → (above ≡ grammar.language.most → ⊥)
      → StatementRead grammar draft_of ts before stmt after
      → MaybeRead grammar draft_of above ts before (Some stmt) after
  MaybeRead-some above ts before stmt after free r = record {
    room = λ d is. free;
    read = record { syntax = Some r.syntax; says = r.says; names = r.names; made = ap Some r.made };
  }

  -- If no tokens follow the labels, the cell has no statement.
  pub MaybeRead-none : (above : ℕ) (tokens : List Token) (names : NameTable)
      → None ≡ slice_get tokens 0
      → MaybeRead grammar draft_of above (token_texts tokens) names None names
  MaybeRead-none above [] names e =
      record { room = λ d is. absurd cc; read = record { syntax = None; says = refl; names = refl; made = refl } }
  MaybeRead-none above (t ∷ tokens) names e = absurd cc

  module _ (phrase : Phrase) (t : Token) (first : Some t ≡ slice_get phrase.tokens.now 0) (names : NameTable) (above : ℕ)
      (f : CellFault) where
    -- The tokens after the labels.
    abbrev tokens : List Token
    tokens = phrase.tokens.now

    -- At least one token follows the labels.
    not-empty-tokens : token_texts tokens ≡ [] → ⊥
    not-empty-tokens e =
        let none : slice_get (token_texts tokens) 0 ≡ None = ap (λ (ts : TokenList). slice_get ts 0) e in
        let some = get_text tokens 0 t (sym first) in
        absurd cc

    -- A thread that is full has no room for a statement.
    no_statement_fits : above ≡ grammar.language.most
        → (s : Option Syntax)
        → FitsBelow grammar above names (token_texts tokens) s
        → ⊥
    no_statement_fits full None h = not-empty-tokens h.says
    no_statement_fits full (Some s) h = omega (arith, full, h.bounded)

    -- What follows the labels is not nothing, so if it is no statement with room it does not fit.
    no_FitsBelow-if_no_Fits : ((s : Syntax) → Fits grammar names (token_texts tokens) s → ⊥)
        → (s : Option Syntax)
        → FitsBelow grammar above names (token_texts tokens) s
        → ⊥
    no_FitsBelow-if_no_Fits none None h = not-empty-tokens h.says
    no_FitsBelow-if_no_Fits none (Some s) h = none s (h.says, h.room)

    -- The first token begins a statement beyond the limit, or is wrong.
    abbrev pub IsSurplusFault : CellFault → Type 0
    IsSurplusFault e =
        ((e.cause ≡ TooMany) × (e.at ≡ t.at) × CanBegin grammar t.text.now)
        ⊎ ((m : HasMisfitIn grammar tokens names e.at e.cause) × (m.place ≡ 0))

    -- If the thread has the maximum number of statements and tokens follow the labels, the first of them is rejected.
    pub MaybeRefused-surplus : above ≡ grammar.language.most
        → IsSurplusFault f
        → f.at ≡ t.at
        → MaybeRefused grammar above names phrase f
    MaybeRefused-surplus full told place = record {
      none = λ known. no_statement_fits full;
      cause = go told;
      place = λ len lies. omega (arith, place, All-get (λ (u : Token). u.at ≤ len) tokens 0 t (sym first) lies.0);
    }
      where
        -- The fault of a statement beyond the limit is true of what follows the labels.
        go : IsSurplusFault f → OptionalStatementFaultIsTrue grammar above tokens phrase.end names f.at f.cause
        go (inl (e, here, begins)) = rw e (FaultClaim-TooMany (inl (full, (t, sym first, sym here, begins))))
        go (inr (m, at_first)) = FaultClaim-wrong _ f.cause m.meant (inl (m, inl at_first))

    -- If the tokens after the labels are rejected as a statement, so is what follows the labels.
    pub MaybeRefused-StatementRefused : (above ≡ grammar.language.most → ⊥)
        → StatementRefused grammar names phrase f
        → MaybeRefused grammar above names phrase f
    MaybeRefused-StatementRefused free r = record {
      none = λ known. no_FitsBelow-if_no_Fits (r.none known);
      cause = FaultClaim-weakened WrongIn-cases (λ none. none) (λ over. inr (free, over)) r.cause;
      place = r.place;
    }
      where
        -- Either the first token is wrong, or the thread has room and a later one is, or the cell ends too
        -- early.
        WrongIn-cases : (e : CellCause)
            → WrongIn grammar tokens phrase.end names f.at e
            → ((m : HasMisfitIn grammar tokens names f.at e) × ((m.place ≡ 0) ⊎ (above ≡ grammar.language.most → ⊥)))
            ⊎ ((e ≡ Form)
            × (above ≡ grammar.language.most → ⊥)
            × (token_texts tokens ≡ [] → ⊥)
            × EndsEarlyIn grammar tokens phrase.end names f.at)
        WrongIn-cases e (inl m) = inl (m, inr free)
        WrongIn-cases e (inr (is, early)) = inr (is, free, not-empty-tokens, early)

  -- ---- cells

  -- The draft of what follows the labels has as many statements as the syntax: one or none.
  pub statement_count-of_draft : (o : Option Syntax) (stmt : Option D) (f : Syntax → D)
      → stmt ≡ option_map f o
      → option_len stmt ≡ length (statements (cell_without_labels o ∷ []))
  statement_count-of_draft None stmt f e = ap option_len e
  statement_count-of_draft (Some s) stmt f e = ap option_len e

  -- Inserting names into the table preserves the draft of a cell whose names are in it.
  pub draft_cell-insert_names : (names ns : NameTable) (syntax : CellSyntax Syntax)
      → AreIn names (names_in grammar (syntax ∷ []))
      → draft_cell grammar draft_of (insert_names names ns) syntax ≡ draft_cell grammar draft_of names syntax
  draft_cell-insert_names names ns syntax all =
      ap (λ (o : Option D). (let c : DraftCell D = record { start = 2 * length syntax.labels; stmt = o } in c))
      (go syntax.stmt all)
    where
      -- By whether the cell has a statement.
      go : (o : Option Syntax)
          → AreIn names (names_in grammar (cell_without_labels o ∷ []))
          → option_map (draft_in grammar draft_of (insert_names names ns)) o ≡ option_map (draft_in grammar draft_of names) o
      go None all = refl
      go (Some s) all = ap (λ (x : ℕ). Some (draft_of x s)) (location_index-insert_names names ns (grammar.name_of s) all)

  -- A fresh column is the result of reading no cells.
  pub ColumnDrafted-none : {A : Type 0} (names : NameTable) (column : DraftColumn D A)
      → IsFresh column
      → length names ≤ most_locations
      → ColumnDrafted grammar draft_of [] names column names
  ColumnDrafted-none names column fresh few = record {
    read = record { syntax = []; says = tt; names = refl; made = fresh.cells };
    bounded = omega arith;
    without_duplicates = tt;
    labels_are = fresh.labels;
    counted = fresh.count;
    room = few;
  }

  module _ {A : Type 0} (front : List (Cell A)) (before mid : NameTable) (column : DraftColumn D A)
      (drafted : ColumnDrafted grammar draft_of front before column mid) where
    -- The column has at most as many statements as the language allows.
    pub column_count_at_most : column.count ≤ grammar.language.most
    column_count_at_most = omega (arith, drafted.counted, drafted.bounded)

    -- The column's map has exactly the labels of these cells.
    pub HasExactlyLabels-drafted : HasExactlyLabels column.labels (labels_of drafted.read.syntax)
    HasExactlyLabels-drafted n = ap is_some (drafted.labels_are n) ∙ is_some-label_target drafted.read.syntax 0 n

    -- If the labels of the next cell and what follows them are read, then the column with its draft is the result of reading the cells up
    -- to it.
    pub ColumnDrafted-push : (now : DraftColumn D A) (cell : Cell A) (next : ℕ) (after : NameTable) (stmt : Option D)
        → LabelsTaken cell.tokens column.count column.labels next now.labels
        → MaybeRead grammar draft_of column.count (token_texts (drop next cell.tokens)) mid stmt after
        → now.cells ≡ column.cells ++ record { start = next; stmt = stmt } ∷ []
        → now.count ≡ column.count + option_len stmt
        → length after ≤ most_locations
        → ColumnDrafted grammar draft_of (front ++ cell ∷ []) before now after
    ColumnDrafted-push now cell next after stmt taken maybe pushed counted room =
        let ls = taken.read in
        let old = drafted.read.syntax in
        let syntax : CellSyntax Syntax = record { labels = ls.names; stmt = maybe.read.syntax } in
        let draft : DraftCell D = record { start = next; stmt = stmt } in
        let same : draft ≡ draft_cell grammar draft_of after syntax = rw (ls.two_each, maybe.read.made) refl in
        let more =
        columns_read-push (names_in grammar) (draft_cell grammar draft_of) (names_in-append grammar) draft_cell-insert_names
        (ParsesCell grammar) (cells_texts front) before mid column.cells drafted.read (cell_texts cell) syntax draft after
        (token_texts (drop next cell.tokens), Labels-whole cell.tokens next ls.names ls.says, maybe.read.says) maybe.read.names
        same in
        let each = ls.without_duplicates (labels_of old) HasExactlyLabels-drafted drafted.without_duplicates in
        let count = count-append old (syntax ∷ []) in
        let held = statement_count-of_draft maybe.read.syntax stmt (draft_in grammar draft_of after) maybe.read.made in
        record {
          read = record {
            syntax = old ++ syntax ∷ [];
            says = rw (map-append cell_texts front (cell ∷ [])) more.0;
            names = more.1;
            made = pushed ∙ more.2;
          };
          bounded = omega (
            arith,
            count,
            held,
            drafted.counted,
            at_most_room column.count grammar.language.most stmt column_count_at_most maybe.room,
          );
          without_duplicates = rw (labels_of-append old (syntax ∷ []), append-nil ls.names) each;
          labels_are =
              λ n. rw (ls.made n, label_target-one_more_cell syntax n old each, drafted.counted, drafted.labels_are n) refl;
          counted = omega (arith, counted, count, held, drafted.counted);
          room = room;
        }
