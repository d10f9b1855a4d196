-- The position of a cell's fault among the columns. What precedes the fault's token has been read, which is
-- what each claim of a fault begins with; CellsRefused and Resolved prove so that a fault is true.
use Rattle.lw_statements.proofs.Common.{◌≡◌, ℕ, suc, ◌+◌, ◌≤◌, inl, inr, ◌⊎◌, Some, List, [], ◌∷◌, ◌++◌}
use Rattle.lw_statements.proofs.Common.{length, take, drop, refl, sym, ap, ◌∙◌, subst, arith, slice_get}
use Rattle.lw_statements.proofs.Common.{Contains, codes, append_assoc, take-append-drop, AllZip, map-append}
use Rattle.lw_statements.proofs.Common.{drop-map, CellCause, Form, LabelMissing, LabelTwice, Backward}
use Rattle.lw_statements.proofs.Common.{TooMany, Memory, IsDuplicateFree, most_locations, insert_names, Bytes}
use Rattle.lw_statements.proofs.Common.{NameTable, TokenList, insert_names-append, take_drop-at, drop-cons_at}
use Rattle.lw_statements.proofs.Common.{Cell, Token, token_texts, texts_of_tokens, PlacedCell, with_span}
use Rattle.lw_statements.proofs.Common.{with_spans, placed_cell, placed_row, cells_texts, texts_placed}
use Rattle.lw_statements.proofs.Common.{cells_placed, Grammar, CellSyntax, Column, ParsesCell, Labels}
use Rattle.lw_statements.proofs.Common.{statements, labels_of, names_in, names_of, CellPosition}
use Rattle.lw_statements.proofs.Common.{TokenPosition, IsReadTo, IsMissing, IsSecondLabel, IsBackward}
use Rattle.lw_statements.proofs.Common.{IsSurplus, IsNinth, IsWrong, IsMisfit, EndsEarly, CellCauseIsTrue}
use Rattle.lw_statements.proofs.Common.{BeginsWithColon, BeginsWithLabel, BeginsFitting, table_after}
use Rattle.lw_statements.proofs.Common.{LabelMap, HasExactlyLabels, LabelsTaken, IsAtLabel}
use Rattle.lw_statements.proofs.Common.{HasDuplicateLabelAt, HasNoLabelAt, HasMisfitIn, EndsEarlyIn}
use Rattle.lw_statements.proofs.Common.{BeginsStatementAt, HasOverflowIn, OptionalStatementFaultIsTrue}
use Rattle.lw_statements.proofs.Common.{ColumnFaultIsTrue, FaultClaim, texts_of_grid}
use Rattle.lw_statements.proofs.Causes.{FaultClaim-weakened}
use Rattle.lw_statements.proofs.FrontLabels.{Labels-rest, Labels-whole}
use Rattle.lw_base.specs.declared.fault.CellCause.TheVariants.{Register}

-- If a `:` follows the first token, the tokens start with a label.
BeginsWithLabel-colon_after_first : (tail front back : List Token) (t : Token)
    → tail ≡ front ++ t ∷ back
    → token_texts front ≡ []
    → BeginsWithColon (token_texts back)
    → BeginsWithLabel (token_texts tail)
BeginsWithLabel-colon_after_first tail [] back t e none colon = rw e colon
BeginsWithLabel-colon_after_first tail (u ∷ front) back t e none colon = absurd cc

module _ {Syntax Stmt : Type 0} (grammar : Grammar Syntax Stmt) (names : NameTable) (columns : List (List PlacedCell))
    (at : ℕ) where
  -- A token fits none of the statements, for this cause, or a cell ends too early.
  abbrev IsWrongAt : CellCause → Type 0
  IsWrongAt cause =
      ((p : TokenPosition columns at) × IsWrong grammar names p cause)
      ⊎ ((cause ≡ Form) × (c : CellPosition columns) × EndsEarly grammar names c at)

  -- What a cause claims by the table `FaultClaim`, of tokens in the columns, it claims by the rule of cells.
  pub CellCauseIsTrue-FaultClaim : (cause : CellCause)
      → FaultClaim IsWrongAt ((p : TokenPosition columns at) × IsMissing grammar names p)
      ((p : TokenPosition columns at) × IsSecondLabel grammar names p)
      ((p : TokenPosition columns at) × IsBackward grammar names p)
      ((p : TokenPosition columns at) × (IsSurplus grammar names p ⊎ IsNinth grammar names p)) cause
      → CellCauseIsTrue grammar names columns at cause
  CellCauseIsTrue-FaultClaim Form t = go (t.form refl)
    where
      -- If something is wrong at the place with the cause `Form`, this cause is true there.
      go : IsWrongAt Form → CellCauseIsTrue grammar names columns at Form
      go (inl wrong) = inl wrong
      go (inr ends) = inr (ends.1, ends.2)
  CellCauseIsTrue-FaultClaim Register t = go (t.register refl)
    where
      -- If something is wrong at the place with the cause `Register`, this cause is true there.
      go : IsWrongAt Register → CellCauseIsTrue grammar names columns at Register
      go (inl wrong) = wrong
      go (inr ends) = absurd (let same : Register ≡ Form = ends.0 in cc)
  CellCauseIsTrue-FaultClaim LabelMissing t = t.missing refl
  CellCauseIsTrue-FaultClaim LabelTwice t = t.twice refl
  CellCauseIsTrue-FaultClaim Backward t = t.back refl
  CellCauseIsTrue-FaultClaim TooMany t = t.many refl
  CellCauseIsTrue-FaultClaim Memory t = tt

-- The position of a cell in its thread between the others.
abbrev pub position_of_cell : {A : Type 0} (others later : List (List PlacedCell)) (cells above below : List (Cell A))
    (cell : Cell A)
    → cells ≡ above ++ cell ∷ below
    → CellPosition (others ++ placed_row cells ∷ later)
position_of_cell others later cells above below cell whole = record {
  before = others;
  above = placed_row above;
  cell = placed_cell cell;
  below = placed_row below;
  after = later;
  in_columns =
      ap (λ (c : List PlacedCell). others ++ c ∷ later) (ap placed_row whole ∙ map-append placed_cell above (cell ∷ below));
}

-- The token t of a cell, as a token of the columns, in its thread between the others.
abbrev pub TokenPosition-in_cell : {A : Type 0} (others later : List (List PlacedCell)) (cells above below : List (Cell A))
    (cell : Cell A)
    → cells ≡ above ++ cell ∷ below
    → (at : ℕ) (front back : List Token) (t : Token)
    → cell.tokens ≡ front ++ t ∷ back
    → t.at ≡ at
    → TokenPosition (others ++ placed_row cells ∷ later) at
TokenPosition-in_cell {A} others later cells above below cell whole at front back t in_cell begins = record {
  place = position_of_cell others later cells above below cell whole;
  front = with_spans front;
  token = with_span t;
  back = with_spans back;
  in_cell = ap with_spans in_cell ∙ map-append with_span front (t ∷ back);
  begins = begins;
}

-- A cell of a thread, and what was read above it.
module _ {Syntax Stmt A : Type 0} (grammar : Grammar Syntax Stmt) (front rest : List (Cell A)) (cell : Cell A)
    (syntaxes : List (CellSyntax Syntax)) (says : AllZip (ParsesCell grammar) (cells_texts front) syntaxes)
    (few : length (statements syntaxes) ≤ grammar.language.most) (before mid : NameTable)
    (table : mid ≡ insert_names before (names_in grammar syntaxes)) (room : length mid ≤ most_locations) (at : ℕ)
    (cause : CellCause) where
  -- The threads before it, which were read.
  module _ (names : NameTable) (others later : List (List PlacedCell)) (threads : List (List (CellSyntax Syntax)))
      (others_say : AllZip (Column grammar) (texts_of_grid others) threads)
      (grown : before ≡ insert_names names (names_of grammar threads)) where
    -- The table after the cells above is the one that the reader has.
    table_after_syntaxes : table_after grammar names threads syntaxes ≡ mid
    table_after_syntaxes =
        insert_names-append names (names_of grammar threads) (names_in grammar syntaxes)
        ∙ ap (λ (ns : NameTable). insert_names ns (names_in grammar syntaxes)) (sym grown)
        ∙ sym table

    -- The position of the cell.
    abbrev cell_position : CellPosition (others ++ placed_row (front ++ cell ∷ rest) ∷ later)
    cell_position = position_of_cell others later (front ++ cell ∷ rest) front rest cell refl

    -- What precedes is read, with the labels and tokens before the place.
    abbrev IsReadTo-labels_and_tokens : (labels : List Bytes) (ts more : TokenList)
        → Labels ts labels more
        → IsDuplicateFree (labels_of syntaxes ++ labels)
        → IsReadTo grammar names cell_position ts more
    IsReadTo-labels_and_tokens labels ts more in_front once = record {
      threads = threads;
      syntaxes = syntaxes;
      labels = labels;
      read = record {
        before_says = others_say;
        says = rw (cells_placed front) says;
        bounded = few;
        without_duplicates = once;
        room = rw table_after_syntaxes room;
      };
      in_front = in_front;
    }

  module _ (once : IsDuplicateFree (labels_of syntaxes)) (labels : LabelMap)
      (knows : HasExactlyLabels labels (labels_of syntaxes)) where
    -- If a fault in a cell's labels claims a token that is no label or a second one, it claims it at that position in the columns.
    pub ColumnFaultIsTrue-labels :
        FaultClaim (HasNoLabelAt cell.tokens labels at) ⊥ (HasDuplicateLabelAt cell.tokens labels at) ⊥ ⊥ cause
        → ColumnFaultIsTrue grammar (placed_row (front ++ cell ∷ rest)) before at cause
    ColumnFaultIsTrue-labels told names others later threads others_say grown =
        CellCauseIsTrue-FaultClaim grammar names _ at cause
        (FaultClaim-weakened IsWrongAt-of_cause IsSecondLabel-duplicate (λ none. absurd none) told)
      where
        -- The position of a label's token.
        label_position : IsAtLabel cell.tokens labels at → TokenPosition (others ++ placed_row (front ++ cell ∷ rest) ∷ later) at
        label_position c =
            TokenPosition-in_cell others later (front ++ cell ∷ rest) front rest cell refl at (take c.place cell.tokens)
            (drop (suc c.place) cell.tokens) c.token (take_drop-at _ _ _ c.token_at) c.begins

        -- What precedes this token is read.
        IsReadTo-token : (c : IsAtLabel cell.tokens labels at)
            → IsReadTo grammar names (label_position c).place (texts_of_tokens (label_position c).front) []
        IsReadTo-token c =
            IsReadTo-labels_and_tokens names others later threads others_say grown c.names
            (texts_of_tokens (with_spans (take c.place cell.tokens))) [] (rw (texts_placed (take c.place cell.tokens)) c.says)
            (c.without_duplicates (labels_of syntaxes) knows once)

        -- A `:` follows it.
        colon_after_label : (c : IsAtLabel cell.tokens labels at) → BeginsWithColon (texts_of_tokens (label_position c).back)
        colon_after_label c =
            let one : c.place + 1 ≡ suc c.place = omega arith in
            ap (λ (ts : TokenList). slice_get ts 0)
            (texts_placed (drop (suc c.place) cell.tokens)
            ∙ sym (drop-map _ (suc c.place) _)
            ∙ drop-cons_at (token_texts cell.tokens) (suc c.place) (codes ":")
            (ap (slice_get (token_texts cell.tokens)) (sym one) ∙ c.colon))

        -- A token before a `:` that is no name is wrong there.
        IsWrongAt-of_cause : (e : CellCause)
            → HasNoLabelAt cell.tokens labels at e
            → IsWrongAt grammar names (others ++ placed_row (front ++ cell ∷ rest) ∷ later) at e
        IsWrongAt-of_cause e (c, none, meant) =
            inl (label_position c, inl (record { read = IsReadTo-token c; colon = colon_after_label c; none = none }, meant))

        -- A label that the thread has already is a second one.
        IsSecondLabel-duplicate : HasDuplicateLabelAt cell.tokens labels at
            → (p : TokenPosition (others ++ placed_row (front ++ cell ∷ rest) ∷ later) at) × IsSecondLabel grammar names p
        IsSecondLabel-duplicate (c, there) = (
          label_position c,
          record { read = IsReadTo-token c; colon = colon_after_label c; label_is_taken = there (labels_of syntaxes) knows },
        )

    -- If a fault after a cell's labels claims something wrong or one item too many, it claims it at that position in the columns.
    pub ColumnFaultIsTrue-statement : (after : LabelMap) (next : ℕ)
        → LabelsTaken cell.tokens (length (statements syntaxes)) labels next after
        → OptionalStatementFaultIsTrue grammar (length (statements syntaxes)) (drop next cell.tokens) cell.end mid at cause
        → ColumnFaultIsTrue grammar (placed_row (front ++ cell ∷ rest)) before at cause
    ColumnFaultIsTrue-statement after next taken told names others later threads others_say grown =
        CellCauseIsTrue-FaultClaim grammar names _ at cause
        (FaultClaim-weakened IsWrongAt-of_cause (λ none. absurd none) IsSurplus_or_IsNinth told)
      where
        -- No label of the cell is one of the cells above.
        labels_are_duplicate_free : IsDuplicateFree (labels_of syntaxes ++ taken.read.names)
        labels_are_duplicate_free = taken.read.without_duplicates (labels_of syntaxes) knows once

        -- The position of a token after the labels.
        token_position : (k : ℕ) (t : Token)
            → slice_get (drop next cell.tokens) k ≡ Some t
            → t.at ≡ at
            → TokenPosition (others ++ placed_row (front ++ cell ∷ rest) ∷ later) at
        token_position k t is begins =
            TokenPosition-in_cell others later (front ++ cell ∷ rest) front rest cell refl at
            (take next cell.tokens ++ take k (drop next cell.tokens)) (drop (suc k) (drop next cell.tokens)) t
            (sym (take-append-drop next cell.tokens)
            ∙ ap (λ ts. take next cell.tokens ++ ts) (take_drop-at (drop next cell.tokens) k t is)
            ∙ sym (append_assoc (take next cell.tokens) (take k (drop next cell.tokens))
            (t ∷ drop (suc k) (drop next cell.tokens)))) begins

        -- The labels, and the tokens of the statement before it, precede it.
        Labels-tokens_before : (k : ℕ)
            → Labels (texts_of_tokens (with_spans (take next cell.tokens ++ take k (drop next cell.tokens)))) taken.read.names
            (token_texts (take k (drop next cell.tokens)))
        Labels-tokens_before k =
            rw (
              texts_placed (take next cell.tokens ++ take k (drop next cell.tokens)),
              map-append (λ (t : Token). t.text.now) (take next cell.tokens) (take k (drop next cell.tokens)),
            ) (Labels-rest _ _ _ taken.read.says)

        -- No `:` follows the first token after the labels.
        no_colon_after_first : (k : ℕ) (t : Token)
            → slice_get (drop next cell.tokens) k ≡ Some t
            → token_texts (take k (drop next cell.tokens)) ≡ []
            → BeginsWithColon (texts_of_tokens (with_spans (drop (suc k) (drop next cell.tokens))))
            → ⊥
        no_colon_after_first k t is none colon =
            taken.stops (BeginsWithLabel-colon_after_first _ (take k (drop next cell.tokens))
            (drop (suc k) (drop next cell.tokens)) t (take_drop-at (drop next cell.tokens) k t is) none
            (subst BeginsWithColon (texts_placed (drop (suc k) (drop next cell.tokens))) colon))

        -- No token after the labels is a label: the labels end where no label begins.
        no_label_at_token : (k : ℕ) (t : Token)
            → slice_get (drop next cell.tokens) k ≡ Some t
            → BeginsWithLabel (token_texts (take k (drop next cell.tokens)) ++ t.text.now
            ∷ texts_of_tokens (with_spans (drop (suc k) (drop next cell.tokens))))
            → ⊥
        no_label_at_token k t is label =
            taken.stops (subst BeginsWithLabel
            (ap (λ (ts : TokenList). token_texts (take k (drop next cell.tokens)) ++ t.text.now ∷ ts)
            (texts_placed (drop (suc k) (drop next cell.tokens)))
            ∙ sym (map-append (λ (u : Token). u.text.now) (take k (drop next cell.tokens))
            (t ∷ drop (suc k) (drop next cell.tokens)))
            ∙ ap token_texts (sym (take_drop-at (drop next cell.tokens) k t is))) label)

        -- What precedes a token after the labels is read: the labels, and the tokens of the statement before it.
        IsReadTo-token : (k : ℕ) (t : Token) (is : slice_get (drop next cell.tokens) k ≡ Some t) (begins : t.at ≡ at)
            → IsReadTo grammar names (token_position k t is begins).place (texts_of_tokens (token_position k t is begins).front)
            (token_texts (take k (drop next cell.tokens)))
        IsReadTo-token k t is begins =
            IsReadTo-labels_and_tokens names others later threads others_say grown taken.read.names _
            (token_texts (take k (drop next cell.tokens))) (Labels-tokens_before k) labels_are_duplicate_free

        -- If the first k tokens after the labels are not none, k is not 0.
        front_not_empty-index_nonzero : (k : ℕ) → (token_texts (take k (drop next cell.tokens)) ≡ [] → ⊥) → k ≡ 0 → ⊥
        front_not_empty-index_nonzero k some first = some (ap (λ (n : ℕ). token_texts (take n (drop next cell.tokens))) first)

        -- If a token after the labels is not the first of them, and only for the first the thread may be full, the thread has
        -- room for one more statement.
        count_below_most : (k : ℕ)
            → (token_texts (take k (drop next cell.tokens)) ≡ [] → ⊥)
            → (k ≡ 0) ⊎ (length (statements syntaxes) ≡ grammar.language.most → ⊥)
            → length (statements syntaxes) ≡ grammar.language.most
            → ⊥
        count_below_most k some (inl first) = absurd (front_not_empty-index_nonzero k some first)
        count_below_most k some (inr room) = room

        -- What begins a statement in the reader's table does so in that of the definitions.
        BeginsFitting-table_after : (ts : TokenList)
            → BeginsFitting grammar mid ts
            → BeginsFitting grammar (table_after grammar names threads syntaxes) ts
        BeginsFitting-table_after ts =
            subst (λ (ns : NameTable). BeginsFitting grammar ns ts)
            (sym (table_after_syntaxes names others later threads others_say grown))

        -- A token after the labels that fits no statement is a misfit at its position in the test.
        IsMisfit-at_token : (e : CellCause) (m : HasMisfitIn grammar (drop next cell.tokens) mid at e)
            → (m.place ≡ 0) ⊎ (length (statements syntaxes) ≡ grammar.language.most → ⊥)
            → IsMisfit grammar names (token_position m.place m.token m.token_at m.begins)
        IsMisfit-at_token e m at_first = record {
          mid = token_texts (take m.place (drop next cell.tokens));
          read = IsReadTo-token m.place m.token m.token_at m.begins;
          no_label = no_label_at_token m.place m.token m.token_at;
          begun = λ some. record {
            has_room = count_below_most m.place some at_first;
            begins = BeginsFitting-table_after _ (m.begun (front_not_empty-index_nonzero m.place some));
          };
          none = m.none;
        }

        -- If the cause is that of a token that fits no statement, or of a cell that ends too early, it is wrong at the
        -- position.
        IsWrongAt-of_cause : (e : CellCause)
            → ((m : HasMisfitIn grammar (drop next cell.tokens) mid at e)
            × ((m.place ≡ 0) ⊎ (length (statements syntaxes) ≡ grammar.language.most → ⊥)))
            ⊎ ((e ≡ Form)
            × (length (statements syntaxes) ≡ grammar.language.most → ⊥)
            × (token_texts (drop next cell.tokens) ≡ [] → ⊥)
            × EndsEarlyIn grammar (drop next cell.tokens) cell.end mid at)
            → IsWrongAt grammar names (others ++ placed_row (front ++ cell ∷ rest) ∷ later) at e
        IsWrongAt-of_cause e (inl (m, at_first)) =
            inl (token_position m.place m.token m.token_at m.begins, inr (IsMisfit-at_token e m at_first, m.meant))
        IsWrongAt-of_cause e (inr (is, room_there, some, early)) = inr (
          is,
          cell_position names others later threads others_say grown,
          record {
            mid = token_texts (drop next cell.tokens);
            read =
                IsReadTo-labels_and_tokens names others later threads others_say grown taken.read.names
                (texts_of_tokens (with_spans cell.tokens)) (token_texts (drop next cell.tokens))
                (rw (texts_placed cell.tokens) (Labels-whole cell.tokens next taken.read.names taken.read.says))
                labels_are_duplicate_free;
            no_label = taken.stops;
            not_empty = some;
            begun = record { has_room = room_there; begins = BeginsFitting-table_after _ (early.begun some) };
            none = early.none;
            ends = early.ends;
          },
        )

        -- A token that is one too many is a surplus statement's, or names a ninth location.
        IsSurplus_or_IsNinth : ((length (statements syntaxes) ≡ grammar.language.most)
            × BeginsStatementAt grammar (drop next cell.tokens) at)
            ⊎ ((length (statements syntaxes) ≡ grammar.language.most → ⊥) × HasOverflowIn grammar (drop next cell.tokens) mid at)
            → (p : TokenPosition (others ++ placed_row (front ++ cell ∷ rest) ∷ later) at)
            × (IsSurplus grammar names p ⊎ IsNinth grammar names p)
        IsSurplus_or_IsNinth (inl (full, (t, is, begins, can))) = (
          token_position 0 t is begins,
          inl (record {
            read = IsReadTo-token 0 t is begins;
            begins = can;
            no_label = no_colon_after_first 0 t is refl;
            full = full;
          }),
        )
        IsSurplus_or_IsNinth (inr (room_there, c)) = (
          token_position c.place c.token c.token_at c.overflow.0,
          inr (record {
            mid = token_texts (take c.place (drop next cell.tokens));
            read = IsReadTo-token c.place c.token c.token_at c.overflow.0;
            no_label = no_label_at_token c.place c.token c.token_at;
            has_room = room_there;
            begun = λ some. record {
              has_room = room_there;
              begins = BeginsFitting-table_after _ (c.begun (front_not_empty-index_nonzero c.place some));
            };
            is_location = c.location;
            full = ap length (table_after_syntaxes names others later threads others_say grown) ∙ c.overflow.2;
            new = λ there.
                c.overflow.3 (subst (λ (ns : NameTable). Contains ns c.token.text.now)
                (table_after_syntaxes names others later threads others_say grown) there);
          }),
        )
