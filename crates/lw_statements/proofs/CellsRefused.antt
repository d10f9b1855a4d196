-- If a cell of a thread is rejected, so is the thread: no reading of the thread exists, and the fault is true
-- at its place. `read_cell` fails by these lemmas.
use Rattle.lw_statements.proofs.Common.{◌≡◌, ℕ, ◌≤◌, ◌+◌, List, [], ◌∷◌, ◌++◌, drop, length, sym, ap, ◌∙◌}
use Rattle.lw_statements.proofs.Common.{append_assoc, subst, arith, map-append, Contains-append_left}
use Rattle.lw_statements.proofs.Common.{most_locations, IsDuplicateFree, insert_names, NameTable, Memory}
use Rattle.lw_statements.proofs.Common.{CellFault, Cell, EndsBefore, cell_texts, cells_texts, token_texts}
use Rattle.lw_statements.proofs.Common.{DraftColumn, Phrase, Grammar, IsGrammar, CellSyntax, MaybeStatement}
use Rattle.lw_statements.proofs.Common.{ParsesCell, statements, labels_of, names_in, AllEndBefore, LabelMap}
use Rattle.lw_statements.proofs.Common.{draft_cell, ColumnDrafted, LabelsTaken, LabelsRefused, MaybeRefused}
use Rattle.lw_statements.proofs.Common.{ColumnFits, ColumnRefused, cell_without_labels}
use Rattle.lw_statements.proofs.Causes.{Refused-Memory}
use Rattle.lw_statements.proofs.Drafts.{draft_cell-insert_names, HasExactlyLabels-drafted}
use Rattle.lw_statements.proofs.Elements.{All-middle}
use Rattle.lw_statements.proofs.FaultPlaces.{ColumnFaultIsTrue-labels, ColumnFaultIsTrue-statement}
use Rattle.lw_statements.proofs.FrontLabels.{Labels-whole, Labels-unique}
use Rattle.lw_statements.proofs.Leads.{labels_of-append, count-append}
use Rattle.lw_statements.proofs.OneReading.{ParsesCell-unique, no_label-if_statement}
use Rattle.lw_statements.proofs.ResolvedNames.{names_in-append}
use Rattle.lw_statements.proofs.TablesRead.{syntaxes_above_read, room_for_read_names}
use Rattle.lw_statements.proofs.api.Zips.{Cut, Cut-AllZip}

-- A prefix of a list without duplicates has none.
pub IsDuplicateFree-front : (xs ys : List (List ℕ)) → IsDuplicateFree (xs ++ ys) → IsDuplicateFree xs
IsDuplicateFree-front [] ys h = tt
IsDuplicateFree-front (x ∷ xs) ys h = ((λ there. h.0 (Contains-append_left xs ys x there)), IsDuplicateFree-front xs ys h.1)

module _ {Syntax Stmt : Type 0} (grammar : Grammar Syntax Stmt) where
  -- A fault because memory ran out rejects the cells of a thread.
  pub ColumnRefused-out_of_memory : {A : Type 0} (names : NameTable) (cells : List (Cell A)) (f : CellFault)
      → f.cause ≡ Memory
      → f.at ≡ 0
      → ColumnRefused grammar names cells f
  ColumnRefused-out_of_memory names cells f = Refused-Memory f (λ at table front rest threads says grown. tt)

  module _ (lawful : IsGrammar grammar) {D : Type 0} (draft_of : ℕ → Syntax → D) where
    -- A cell, after those that were read and before the others.
    module _ {A : Type 0} (front : List (Cell A)) (before mid : NameTable) (column : DraftColumn D A)
        (drafted : ColumnDrafted grammar draft_of front before column mid) (cell : Cell A) (rest : List (Cell A)) where
      -- A parse of all cells starts with what was read.
      module _ (t : List (CellSyntax Syntax)) (fits : ColumnFits grammar before (cells_texts (front ++ cell ∷ rest)) t) where
        -- The syntaxes of the thread, split at this cell.
        cut : Cut (ParsesCell grammar) (cells_texts front) (cell_texts cell) (cells_texts rest) t
        cut = Cut-AllZip _ _ _ _ t (rw (map-append cell_texts front (cell ∷ rest)) at fits.0.says)

        -- In a parse of all cells, the syntaxes above this cell are those that were read.
        syntaxes_above_equal : cut.above ≡ drafted.read.syntax
        syntaxes_above_equal =
            syntaxes_above_read (names_in grammar) (draft_cell grammar draft_of) (names_in-append grammar)
            (draft_cell-insert_names grammar draft_of) (ParsesCell grammar) (cells_texts front) before mid column.cells
            drafted.read (cell_texts cell) (ParsesCell-unique grammar lawful) (cells_texts rest) t cut

        -- The names of the cell have room in the table.
        names_fit : length (insert_names mid (names_in grammar (cut.here ∷ []))) ≤ most_locations
        names_fit =
            let room =
            room_for_read_names _ _ (names_in-append grammar) (draft_cell-insert_names grammar draft_of) _ _ before mid
            column.cells drafted.read (cell_texts cell) (ParsesCell-unique grammar lawful) _ t cut in
            omega (arith, room, fits.1)

        -- The cell's statement has room in the thread.
        count_fits : column.count + length (statements (cell_without_labels cut.here.stmt ∷ [])) ≤ grammar.language.most
        count_fits = omega (
          arith,
          fits.0.bounded,
          ap (λ (ss : List (CellSyntax Syntax)). length (statements ss)) cut.whole,
          count-append cut.above (cut.here ∷ cut.below),
          count-append (cut.here ∷ []) cut.below,
          ap (λ (ss : List (CellSyntax Syntax)). length (statements ss)) syntaxes_above_equal,
          drafted.counted,
        )

        -- The cell's labels are no labels of the cells above.
        labels_duplicate_free-with_cell : IsDuplicateFree (labels_of drafted.read.syntax ++ cut.here.labels)
        labels_duplicate_free-with_cell =
            let whole : labels_of t ≡ (labels_of drafted.read.syntax ++ cut.here.labels) ++ labels_of cut.below =
            ap labels_of cut.whole
            ∙ labels_of-append cut.above (cut.here ∷ cut.below)
            ∙ ap (λ ss. labels_of ss ++ (cut.here.labels ++ labels_of cut.below)) syntaxes_above_equal
            ∙ sym (append_assoc (labels_of drafted.read.syntax) cut.here.labels (labels_of cut.below)) in
            IsDuplicateFree-front _ (labels_of cut.below) (subst IsDuplicateFree whole fits.0.without_duplicates)

      -- If this cell's labels are rejected, so are the thread's cells.
      pub ColumnRefused-LabelsRefused : (f : CellFault)
          → LabelsRefused cell.tokens column.labels f
          → ColumnRefused grammar before (front ++ cell ∷ rest) f
      ColumnRefused-LabelsRefused f r = record {
        none = λ known t fits.
            let y = cut t fits in
            r.none known y.here.labels (record {
              known = labels_of drafted.read.syntax;
              knows = HasExactlyLabels-drafted grammar draft_of front before mid column drafted;
              rest = y.says.0;
              says = y.says.1;
              stops = no_label-if_statement grammar lawful y.says.0 y.here.stmt y.says.2;
              without_duplicates = labels_duplicate_free-with_cell t fits;
            });
        cause =
            ColumnFaultIsTrue-labels grammar front rest cell drafted.read.syntax drafted.read.says drafted.bounded before mid
            drafted.read.names drafted.room f.at f.cause drafted.without_duplicates column.labels
            (HasExactlyLabels-drafted grammar draft_of front before mid column drafted) r.cause;
        place = λ len within. r.place len (All-middle (EndsBefore len) front rest cell within).0;
      }

      -- If what follows this cell's labels is rejected, so are the thread's cells.
      pub ColumnRefused-MaybeRefused : (f : CellFault) (next : ℕ) (after : LabelMap)
          → LabelsTaken cell.tokens column.count column.labels next after
          → (phrase : Phrase)
          → phrase.tokens.now ≡ drop next cell.tokens
          → phrase.end ≡ cell.end
          → ((len : ℕ) → EndsBefore len cell → AllEndBefore len phrase)
          → MaybeRefused grammar column.count mid phrase f
          → ColumnRefused grammar before (front ++ cell ∷ rest) f
      ColumnRefused-MaybeRefused f next after taken phrase later ends lies r = record {
        none = λ known t fits.
            let y = cut t fits in
            let stops = no_label-if_statement grammar lawful y.says.0 y.here.stmt y.says.2 in
            let one =
            Labels-unique (cell_texts cell) y.says.0 _ y.here.labels taken.read.names y.says.1
            (Labels-whole cell.tokens next taken.read.names taken.read.says) stops taken.stops in
            let rest_is : y.says.0 ≡ token_texts phrase.tokens.now = one.1 ∙ ap token_texts (sym later) in
            r.none known y.here.stmt (record {
              says = subst (λ u. MaybeStatement grammar u y.here.stmt) rest_is y.says.2;
              bounded = count_fits t fits;
              room = names_fit t fits;
            });
        cause =
            ColumnFaultIsTrue-statement grammar front rest cell _ drafted.read.says drafted.bounded before mid drafted.read.names
            drafted.room f.at f.cause drafted.without_duplicates column.labels
            (HasExactlyLabels-drafted grammar draft_of front before mid column drafted) after next (rw drafted.counted at taken)
            (rw (drafted.counted, later, ends) at r.cause);
        place = λ len within. r.place len (lies len (All-middle (EndsBefore len) front rest cell within));
      }
