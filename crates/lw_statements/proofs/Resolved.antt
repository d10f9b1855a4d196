-- Resolving the jumps of a thread, from top to bottom: the invariant when one more cell is resolved. The loop
-- of `resolve` goes by `Resolved`.
use Rattle.lw_statements.proofs.Common.{◌≡◌, ℕ, suc, ◌<◌, ◌≤◌, ◌+◌, ◌*◌, Option, Some, None, List, [], ◌∷◌}
use Rattle.lw_statements.proofs.Common.{◌++◌, length, length-take, get_or, map, take, drop, refl, sym, ap}
use Rattle.lw_statements.proofs.Common.{◌∙◌, subst, arith, ◌⊎◌, inl, inr, slice_get, All, Contains, IfSome}
use Rattle.lw_statements.proofs.Common.{MatchOption, option_map, append-nil, append_assoc, take-append-drop}
use Rattle.lw_statements.proofs.Common.{AllZip, cons_option, slice_get-map, same_Some, map-append, length-map}
use Rattle.lw_statements.proofs.Common.{drop-map, CellCause, LabelMissing, Backward, CellFault, Bytes}
use Rattle.lw_statements.proofs.Common.{NameTable, TokenList, slice_get-append_cases, slice_get-append_middle}
use Rattle.lw_statements.proofs.Common.{Cell, Token, token_texts, cell_texts, cells_texts, placed_row}
use Rattle.lw_statements.proofs.Common.{EndsBefore, cells_placed, DraftColumn, Draft, DraftCell, Operands}
use Rattle.lw_statements.proofs.Common.{Grammar, CellSyntax, MaybeStatement, ParsesCell, statements}
use Rattle.lw_statements.proofs.Common.{labels_of, target_in, resolved_statement, LabelsLeadForward}
use Rattle.lw_statements.proofs.Common.{TokenPosition, IsJumpLabel, IsBackward, draft_in, draft_cell}
use Rattle.lw_statements.proofs.Common.{target_by, ColumnDrafted, IsJumpCause, IsResolvable, IsCellResolved}
use Rattle.lw_statements.proofs.Common.{IsUnresolved, AllForward, ColumnRead, ColumnFaultIsTrue}
use Rattle.lw_statements.proofs.Common.{ColumnRefused, IsResolved, draft_of, IsSpelling, Spelling}
use Rattle.lw_statements.proofs.Common.{ParsesStatement, grammar_of, AreRead, table_after, names_in, names_of}
use Rattle.lw_statements.proofs.Common.{insert_names, insert_names-append, placed_cell, all_syntaxes}
use Rattle.lw_statements.proofs.CellsRefused.{ColumnRefused-out_of_memory}
use Rattle.lw_statements.proofs.Elements.{All-middle, take-item-drop, slice_get-of_get_or}
use Rattle.lw_statements.proofs.Elements.{option_map-Some_inv, take_further}
use Rattle.lw_statements.proofs.FaultPlaces.{TokenPosition-in_cell, CellCauseIsTrue-FaultClaim}
use Rattle.lw_statements.proofs.FrontLabels.{drop-labels}
use Rattle.lw_statements.proofs.JumpsResolved.{label_last, is_resolvable, resolved_statement-IsResolved}
use Rattle.lw_statements.proofs.Leads.{statements-append, label_target-is_label, not-label-if_target_none}
use Rattle.lw_statements.proofs.OneReading.{ParsesCell-unique}
use Rattle.lw_statements.proofs.api.Forms.{IsGrammar-of_spelling}
use Rattle.lw_statements.proofs.api.Zips.{Cut, AllZip-unique, AllZip-snoc, AllZip-length, Cut-AllZip}

module _ {W Form Stmt : Type 0} (spelling : Spelling W Form Stmt) where
  -- The language's grammar.
  abbrev grammar : Grammar (ParsesStatement spelling) Stmt
  grammar = grammar_of spelling

  -- The draft of a statement whose location has this index.
  abbrev drafting : ℕ → ParsesStatement spelling → Draft Form
  drafting = draft_of spelling

  -- The syntax of a cell.
  abbrev CellContent : Type 0
  CellContent = CellSyntax (ParsesStatement spelling)

  -- The tokens of a cell say its syntax.
  abbrev Says : TokenList → CellContent → Type 0
  Says = ParsesCell grammar

  -- The statements of the cells in `front` are resolved to this code, and their jumps lead forward. `syntaxes` are those of all cells of
  -- the thread, in which labels are looked up.
  pub record Resolved {A : Type 0} (names : NameTable) (syntaxes : List CellContent) (front : List (Cell A))
      (code : List Stmt) : Type 0 where
    pub above : List CellContent
    pub says : AllZip Says (cells_texts front) above
    pub made : code ≡ map (resolved_statement grammar names syntaxes) (statements above)
    pub ahead : (k : ℕ) (s : ParsesStatement spelling)
        → slice_get (statements above) k ≡ Some s
        → LabelsLeadForward grammar syntaxes k s

  -- The statements of no cells are resolved to the empty code.
  pub Resolved-none : {A : Type 0} (names : NameTable) (syntaxes : List CellContent) → Resolved {A = A} names syntaxes [] []
  Resolved-none names syntaxes = record { above = []; says = tt; made = refl; ahead = λ k s e. absurd cc }

  module _ (made : Form → Operands → Option Stmt) (lawful : IsSpelling spelling made) {A : Type 0} (cells : List (Cell A))
      (before after : NameTable) (column : DraftColumn (Draft Form) A)
      (drafted : ColumnDrafted grammar drafting cells before column after) where
    -- The syntaxes of the thread's cells.
    abbrev syntaxes : List CellContent
    syntaxes = drafted.read.syntax

    -- The statement with its jump resolved by them.
    abbrev resolve : ParsesStatement spelling → Stmt
    resolve = resolved_statement grammar after syntaxes

    -- A cell says one syntax.
    Says-unique : (cell : TokenList) (x y : CellContent) → Says cell x → Says cell y → x ≡ y
    Says-unique = ParsesCell-unique grammar (IsGrammar-of_spelling spelling made lawful)

    -- The column has a draft for each cell.
    pub as_many_rows : length column.cells ≡ length cells
    as_many_rows =
        ap length drafted.read.made
        ∙ length-map syntaxes (draft_cell grammar drafting after)
        ∙ sym (AllZip-length Says (cells_texts cells) syntaxes drafted.read.says)
        ∙ length-map cells cell_texts

    -- If the statements of all cells are resolved, the thread's cells are read.
    pub ColumnRead-Resolved : (code : List Stmt)
        → Resolved after syntaxes cells code
        → ColumnRead grammar (cells_texts cells) before code after
    ColumnRead-Resolved code r =
        let same = AllZip-unique Says Says-unique (cells_texts cells) r.above syntaxes r.says drafted.read.says in
        record {
          syntax = syntaxes;
          says = record {
            says = drafted.read.says;
            bounded = drafted.bounded;
            without_duplicates = drafted.without_duplicates;
            forward =
                subst (λ (ys : List CellContent).
                (k : ℕ) (s : ParsesStatement spelling)
                → slice_get (statements ys) k ≡ Some s
                → LabelsLeadForward grammar syntaxes k s) same r.ahead;
          };
          names = drafted.read.names;
          made = r.made ∙ ap (λ (ys : List CellContent). map resolve (statements ys)) same;
        }

    -- A cell and its draft, after those whose statements are resolved.
    module _ (row : ℕ) (cell : Cell A) (within : row < length cells) (at_row : cell ≡ get_or cells row cell)
        (d : DraftCell (Draft Form)) (drafted_at : d ≡ get_or column.cells row d) where
      -- The cells above this one.
      abbrev front : List (Cell A)
      front = take row cells

      -- The cells below it.
      abbrev rest : List (Cell A)
      rest = drop (suc row) cells

      -- The thread is these three.
      cells_split : cells ≡ front ++ cell ∷ rest
      cells_split = take-item-drop cells row cell within at_row

      -- The syntaxes of the thread, split at this cell.
      cut_at_cell : Cut Says (cells_texts front) (cell_texts cell) (cells_texts rest) syntaxes
      cut_at_cell =
          Cut-AllZip Says (cells_texts front) (cell_texts cell) (cells_texts rest) syntaxes
          (subst (λ cs. AllZip Says cs syntaxes) (ap cells_texts cells_split ∙ map-append cell_texts front (cell ∷ rest))
          drafted.read.says)

      -- The cell's draft is that of its syntax.
      is_draft : d ≡ draft_cell grammar drafting after cut_at_cell.here
      is_draft =
          let long : row ≡ length cut_at_cell.above = omega (
            arith,
            length-take row cells,
            length-map front cell_texts,
            AllZip-length Says (cells_texts front) cut_at_cell.above cut_at_cell.above_says,
          ) in
          let is : slice_get column.cells row ≡ Some d =
          slice_get-of_get_or column.cells row d (omega (arith, within, as_many_rows)) drafted_at in
          let draft = draft_cell grammar drafting after in
          same_Some _ _
          (sym is
          ∙ ap (λ (ds : List (DraftCell (Draft Form))). slice_get ds row) drafted.read.made
          ∙ slice_get-map draft syntaxes row
          ∙ ap (option_map draft)
          (ap (λ (ys : List CellContent). slice_get ys row) cut_at_cell.whole
          ∙ slice_get-append_middle cut_at_cell.above cut_at_cell.here cut_at_cell.below row long))

      -- The tokens of the statement, after the labels.
      abbrev tail : List Token
      tail = drop d.start cell.tokens

      -- The cell's labels take as many tokens as the draft says, and the tokens after them are its statement.
      MaybeStatement-tail : (d.start ≤ length cell.tokens) × MaybeStatement grammar (token_texts tail) cut_at_cell.here.stmt
      MaybeStatement-tail =
          let start : d.start ≡ 2 * length cut_at_cell.here.labels = ap (λ (c : DraftCell (Draft Form)). c.start) is_draft in
          let r = drop-labels (token_texts cell.tokens) cut_at_cell.here.labels cut_at_cell.says.0 cut_at_cell.says.1 in (
            omega (arith, start, r.0, length-map cell.tokens (λ (t : Token). t.text.now)),
            subst (λ (ts : TokenList). MaybeStatement grammar ts cut_at_cell.here.stmt)
                (sym r.1
                ∙ ap (λ (n : ℕ). drop n (token_texts cell.tokens)) (sym start)
                ∙ drop-map (λ (t : Token). t.text.now) d.start cell.tokens) cut_at_cell.says.2,
          )

      -- A draft's statement starts within the cell's tokens.
      pub start_within : d.start ≤ length cell.tokens
      start_within = MaybeStatement-tail.0

      -- The draft's statement is that of its syntax.
      draft_is-draft_in : d.stmt ≡ option_map (draft_in grammar drafting after) cut_at_cell.here.stmt
      draft_is-draft_in = ap (λ (c : DraftCell (Draft Form)). c.stmt) is_draft

      -- The draft of the cell's statement can be resolved.
      pub IsResolvable-of_draft : IfSome d.stmt (IsResolvable made tail)
      IsResolvable-of_draft = rw draft_is-draft_in (go cut_at_cell.here.stmt MaybeStatement-tail.1)
        where
          -- By whether the cell has a statement.
          go : (o : Option (ParsesStatement spelling))
              → MaybeStatement grammar (token_texts tail) o
              → IfSome (option_map (draft_in grammar drafting after) o) (IsResolvable made tail)
          go None says = tt
          go (Some s) says = is_resolvable spelling made lawful after tail s says

      module _ (code : List Stmt) (r : Resolved after syntaxes front code) where
        -- The syntaxes above are those that are resolved.
        syntaxes_above_equal : cut_at_cell.above ≡ r.above
        syntaxes_above_equal =
            AllZip-unique Says Says-unique (cells_texts front) cut_at_cell.above r.above cut_at_cell.above_says r.says

        -- The resolved code has as many statements as the cells above.
        code_length : length code ≡ length (statements r.above)
        code_length = ap length r.made ∙ length-map (statements r.above) resolve

        -- If this cell is resolved, the statements of the cells up to it are resolved.
        pub Resolved-next_row : (more : List Stmt)
            → IsCellResolved made column.labels cell d code more
            → Resolved after syntaxes (take (row + 1) cells) more
        Resolved-next_row more here =
            let done = go cut_at_cell.here.stmt MaybeStatement-tail.1 (rw draft_is-draft_in at here) in
            let both = statements-append r.above (cut_at_cell.here ∷ []) in
            record {
              above = r.above ++ cut_at_cell.here ∷ [];
              says =
                  rw (take_further cells row cell within at_row, map-append cell_texts front (cell ∷ []))
                  (AllZip-snoc Says (cells_texts front) r.above (cell_texts cell) cut_at_cell.here r.says cut_at_cell.says);
              made = rw both done.0;
              ahead = rw both done.1;
            }
          where
            -- By whether the cell has a statement.
            go : (o : Option (ParsesStatement spelling))
                → MaybeStatement grammar (token_texts tail) o
                → MatchOption (option_map (draft_in grammar drafting after) o) (more ≡ code) (λ draft.
                (stmt : Stmt) × IsResolved made column.labels (length code) tail draft stmt × (more ≡ code ++ stmt ∷ []))
                → (more ≡ map resolve (statements r.above ++ cons_option o []))
                × ((k : ℕ) (s : ParsesStatement spelling)
                → slice_get (statements r.above ++ cons_option o []) k ≡ Some s
                → LabelsLeadForward grammar syntaxes k s)
            go None says e = rw append-nil (e ∙ r.made, r.ahead)
            go (Some s) says (stmt, resolved, e) =
                let q =
                resolved_statement-IsResolved spelling made lawful after tail s says syntaxes column.labels (length code) stmt
                drafted.labels_are resolved in (
                  e
                      ∙ ap (λ (ss : List Stmt). ss ++ stmt ∷ []) r.made
                      ∙ ap (λ (x : Stmt). map resolve (statements r.above) ++ x ∷ []) q.0
                      ∙ sym (map-append resolve (statements r.above) (s ∷ [])),
                  λ k t at. LabelsLeadForward-of_index k t q.1 (slice_get-append_cases (statements r.above) s t k at),
                )
              where
                -- The jumps up to this statement lead forward, if its own does.
                LabelsLeadForward-of_index : (k : ℕ) (t : ParsesStatement spelling)
                    → LabelsLeadForward grammar syntaxes (length code) s
                    → (slice_get (statements r.above) k ≡ Some t) ⊎ ((k ≡ length (statements r.above)) × (s ≡ t))
                    → LabelsLeadForward grammar syntaxes k t
                LabelsLeadForward-of_index k t forward (inl old) = r.ahead k t old
                LabelsLeadForward-of_index k t forward (inr (last, one)) = rw (last, ← code_length, ← one) forward

        -- The token is the label of a jump that is rejected.
        module _ (s : ParsesStatement spelling) (jump : cut_at_cell.here.stmt ≡ Some s) (token : Token)
            (label : grammar.label_of s ≡ Some token.text.now) (before_label : List Token)
            (last : cell.tokens ≡ before_label ++ token ∷ []) (f : CellFault) (begins : token.at ≡ f.at)
            (because : IsJumpCause column.labels (length code) token.text.now f.cause) where
          -- The text of the label.
          abbrev word : Bytes
          word = token.text.now

          -- If the map does not have the label, no cell has.
          not-label-if_no_target : target_by column.labels word ≡ None → Contains (labels_of syntaxes) word → ⊥
          not-label-if_no_target none = not-label-if_target_none syntaxes word (sym (drafted.labels_are word) ∙ none)

          -- If it has, its target is that of the rule of cells.
          label-target_by : (to : ℕ)
              → target_by column.labels word ≡ Some to
              → Contains (labels_of syntaxes) word × (to ≡ target_in syntaxes word)
          label-target_by to by = label_target-is_label syntaxes word to (sym (drafted.labels_are word) ∙ by)

          -- A jump whose label is missing, or is not after the jump, does not lead forward.
          not-LabelsLeadForward-IsJumpCause : (cause : CellCause)
              → IsJumpCause column.labels (length code) word cause
              → LabelsLeadForward grammar syntaxes (length code) s
              → ⊥
          not-LabelsLeadForward-IsJumpCause LabelMissing none ahead = not-label-if_no_target none (ahead word label).0
          not-LabelsLeadForward-IsJumpCause Backward (to, by, less) ahead =
              omega (arith, less, (label-target_by to by).1, (ahead word label).1)
          not-LabelsLeadForward-IsJumpCause cause none ahead = none

          -- Not all jumps of the thread lead forward, since this one does not.
          not-AllForward : AllForward grammar syntaxes → ⊥
          not-AllForward all =
              let parts : statements syntaxes ≡ statements r.above ++ s ∷ statements cut_at_cell.below =
              ap statements cut_at_cell.whole
              ∙ statements-append cut_at_cell.above (cut_at_cell.here ∷ cut_at_cell.below)
              ∙ ap (λ (o : Option (ParsesStatement spelling)).
              statements cut_at_cell.above ++ cons_option o (statements cut_at_cell.below)) jump
              ∙ ap (λ (ys : List CellContent). statements ys ++ s ∷ statements cut_at_cell.below) syntaxes_above_equal in
              not-LabelsLeadForward-IsJumpCause f.cause because
              (all (length code) s
              (ap (λ (ss : List (ParsesStatement spelling)). slice_get ss (length code)) parts
              ∙ slice_get-append_middle (statements r.above) s (statements cut_at_cell.below) (length code) code_length))

          -- The fault reported of the jump is true.
          ColumnFaultIsTrue-jump : ColumnFaultIsTrue grammar (placed_row cells) before f.at f.cause
          ColumnFaultIsTrue-jump names others others_after threads others_say grown =
              CellCauseIsTrue-FaultClaim grammar names (others ++ placed_row cells ∷ others_after) f.at f.cause (record {
                form = λ e. absurd (rw e at because);
                register = λ e. absurd (rw e at because);
                missing = λ e. (
                  jump_token_position,
                  (
                    cut_at_cell.above,
                    cut_at_cell.here,
                    cut_at_cell.below,
                    IsJumpLabel-of_token,
                    λ there. not-label-if_no_target (rw e at because) (rw (← cut_at_cell.whole) at there),
                  ),
                );
                twice = λ e. absurd (rw e at because);
                back = λ e. IsBackward-of_jump (rw e at because);
                many = λ e. absurd (rw e at because);
              })
            where
              -- The position of the label's token.
              jump_token_position : TokenPosition (others ++ placed_row cells ∷ others_after) f.at
              jump_token_position =
                  TokenPosition-in_cell others others_after cells front rest cell cells_split f.at before_label [] token last
                  begins

              -- The syntaxes above, here and below are all.
              syntaxes_joined : all_syntaxes cut_at_cell.above cut_at_cell.here cut_at_cell.below ≡ syntaxes
              syntaxes_joined = sym cut_at_cell.whole

              -- The table after the thread is the one that was read.
              table_after_is_after : table_after grammar names threads syntaxes ≡ after
              table_after_is_after =
                  insert_names-append names (names_of grammar threads) (names_in grammar syntaxes)
                  ∙ ap (λ (ns : NameTable). insert_names ns (names_in grammar syntaxes)) (sym grown)
                  ∙ sym drafted.read.names

              -- All cells of the thread are read, so jumps can be judged.
              AreRead-all_cells :
                  AreRead grammar names others (placed_row front ++ placed_cell cell ∷ placed_row rest) threads syntaxes []
              AreRead-all_cells = record {
                before_says = others_say;
                says =
                    rw (← map-append placed_cell front (cell ∷ rest), ← ap placed_row cells_split, cells_placed cells)
                    drafted.read.says;
                bounded = drafted.bounded;
                without_duplicates = rw append-nil drafted.without_duplicates;
                room = rw table_after_is_after drafted.room;
              }

              -- The token is the label of the cell's jump.
              IsJumpLabel-of_token :
                  IsJumpLabel grammar names jump_token_position cut_at_cell.above cut_at_cell.here cut_at_cell.below
              IsJumpLabel-of_token = record {
                threads = threads;
                read =
                    subst (λ (ys : List CellContent).
                    AreRead grammar names others (placed_row front ++ placed_cell cell ∷ placed_row rest) threads ys [])
                    (sym syntaxes_joined) AreRead-all_cells;
                above_says = rw (cells_placed front) cut_at_cell.above_says;
                ahead =
                    subst (λ (ys : List CellContent).
                    (k : ℕ) (t : ParsesStatement spelling)
                    → slice_get (statements cut_at_cell.above) k ≡ Some t
                    → LabelsLeadForward grammar ys k t) (sym syntaxes_joined)
                    (subst (λ (ys : List CellContent).
                    (k : ℕ) (t : ParsesStatement spelling)
                    → slice_get (statements ys) k ≡ Some t
                    → LabelsLeadForward grammar syntaxes k t) (sym syntaxes_above_equal) r.ahead);
                last = refl;
                jump = (s, jump, label);
              }

              -- A label that leads back or to the jump itself is a backward jump.
              IsBackward-of_jump : (to : ℕ) × (target_by column.labels word ≡ Some to) × (to ≤ length code)
                  → (p : TokenPosition (others ++ placed_row cells ∷ others_after) f.at) × IsBackward grammar names p
              IsBackward-of_jump (to, by, less) =
                  let l = label-target_by to by in
                  let at : target_in syntaxes word ≤ length (statements cut_at_cell.above) = omega (
                    arith,
                    l.1,
                    less,
                    code_length,
                    ap (λ (ys : List CellContent). length (statements ys)) syntaxes_above_equal,
                  ) in (
                    jump_token_position,
                    (
                      cut_at_cell.above,
                      cut_at_cell.here,
                      cut_at_cell.below,
                      IsJumpLabel-of_token,
                      rw cut_at_cell.whole at l.0,
                      subst (λ (ys : List CellContent). target_in ys word ≤ length (statements cut_at_cell.above))
                          cut_at_cell.whole at,
                    ),
                  )

          -- A thread with such a jump has no code, and the fault reported of it is true and lies in the text.
          ColumnRefused-JumpRefused : ColumnRefused grammar before cells f
          ColumnRefused-JumpRefused = record {
            none = λ known t (column_says, few).
                not-AllForward (subst (AllForward grammar)
                (AllZip-unique Says Says-unique (cells_texts cells) t syntaxes column_says.says drafted.read.says)
                column_says.forward);
            cause = ColumnFaultIsTrue-jump;
            place = λ len all.
                let here = (All-middle (EndsBefore len) front rest cell (subst (All (EndsBefore len)) cells_split all)).0 in
                omega (
                  arith,
                  begins,
                  All-middle (λ (t : Token). t.at ≤ len) before_label [] token
                      (subst (All (λ (t : Token). t.at ≤ len)) last here),
                );
          }

        -- If a cell's jump is rejected, so is the thread.
        pub ColumnRefused-unresolved_cell : (f : CellFault)
            → IsUnresolved column.labels (length code) cell d f
            → ColumnRefused grammar before cells f
        ColumnRefused-unresolved_cell f (inl (memory, first)) = ColumnRefused-out_of_memory grammar before cells f memory first
        ColumnRefused-unresolved_cell f (inr (draft, there, lost)) =
            let m =
            option_map-Some_inv (draft_in grammar drafting after) cut_at_cell.here.stmt draft (sym there ∙ draft_is-draft_in) in
            let label =
            label_last spelling made lawful after tail m.0 (rw m.1 at MaybeStatement-tail.1) lost.index lost.token
            (ap (λ (x : Draft Form). x.label) (sym m.2) ∙ lost.labelled) lost.token_at in
            let front_part = take d.start cell.tokens ++ take lost.index tail in
            ColumnRefused-JumpRefused m.0 m.1 lost.token label.0 front_part
            (sym (take-append-drop d.start cell.tokens)
            ∙ ap (λ (ts : List Token). take d.start cell.tokens ++ ts) label.1
            ∙ sym (append_assoc (take d.start cell.tokens) (take lost.index tail) (lost.token ∷ []))) f lost.begins lost.because
