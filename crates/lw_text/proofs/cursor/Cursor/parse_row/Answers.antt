-- `parse_row` promises the cells of a row, or that there is no row of this many cells, and where it fails.
-- Each round reads a cell and its mark (`CellsRead-push`); a `;` closes the row (`RowCells-CellsRead`). A row with
-- another number of cells is none (`no_row-if_count_differs`).
use Rattle.lw_text.proofs.Common.{◌≡◌, [], ◌∷◌, ◌∙◌, append-nil, refl, ap, sym, length, arith, length-append}
use Rattle.lw_text.proofs.Common.{length-map, RowCells, cell_texts, cells_texts, remaining, remaining_texts}
use Rattle.lw_text.proofs.Common.{no_end, ragged}
use Rattle.lw_text.proofs.Lists.{IsSuffix-join}
use Rattle.lw_text.proofs.Texts.{bytes_equal}
use Rattle.lw_text.proofs.Faults.{Err-clause_known, MatchResult-Memory_error}
use Rattle.lw_text.proofs.Cells.{no_cells-if_no_mark, no_row-if_count_differs}
use Rattle.lw_text.proofs.CellPlaces.{CellsRead-push, RowCells-CellsRead}
use Rattle.lw_text.proofs.cursor.Cursor.parse_row.Goals as goal

-- If no token left ends a cell, there is no row, and it fails at the end of the tokens.
pub returns-in_err-mark : goal.returns-in_err-mark
returns-in_err-mark g c = Err-clause_known _ _ _ c.from_residual.ensures.1 (λ ne.
    let lost = c.in_err-mark.ensures ne in
    let none =
    no_cells-if_no_mark (remaining_texts c.args.self.now) (remaining_texts c.cells.self) (cells_texts c.cells.cells)
    c.cells.invariant.read.before lost.0 in (
      λ all rest line. none all rest line.0,
      record {
        rest = [];
        suffix = (remaining c.args.self.now, sym (append-nil (remaining c.args.self.now)));
        place = lost.1;
        way = no_end refl none;
      },
    ))

-- If `;` ends the row with another number of cells than threads, there is no row of the test, and it fails at the `;`.
pub returns-then-eq : goal.returns-then-eq
returns-then-eq g c =
    let closed = RowCells-CellsRead c.cells.invariant.read c.in_ok-mark.ensures (sym c.eq.ensures ∙ c.if-eq.true) in
    let line : RowCells (remaining_texts c.args.self.now) (cells_texts c.push.new.self) (remaining_texts c.parse_cell.new.self) =
    rw c.in_ok-push.ensures.ok closed.0 in
    let other : length (cells_texts c.push.new.self) ≡ c.args.threads → ⊥ =
    λ e. c.if-len-threads.false (omega (arith, c.len.ensures, length-map c.push.new.self cell_texts, e)) in
    λ _. (
      no_row-if_count_differs (remaining_texts c.args.self.now) (remaining_texts c.parse_cell.new.self) _ line c.args.threads
          other,
      record {
        rest = c.in_ok-mark.mark ∷ remaining c.parse_cell.new.self;
        suffix = IsSuffix-join c.cells.invariant.advances (c.parse_cell.new.cell, c.in_ok-mark.ensures.parts);
        place = refl;
        way =
            ragged _ line
            (ap (λ x. x ∷ remaining_texts c.parse_cell.new.self) (bytes_equal _ _ (sym c.eq.ensures ∙ c.if-eq.true))) other refl;
      },
    )

-- If `;` ends the row with a cell for each thread, the cells read are the row.
pub returns-then-len-threads : goal.returns-then-len-threads
returns-then-len-threads g c =
    let closed = RowCells-CellsRead c.cells.invariant.read c.in_ok-mark.ensures (sym c.eq.ensures ∙ c.if-eq.true) in (
      (
        rw c.in_ok-push.ensures.ok closed.0,
        omega (arith, c.if-len-threads.true, c.len.ensures, length-map c.push.new.self cell_texts),
      ),
      rw c.in_ok-push.ensures.ok closed.1,
      IsSuffix-join c.cells.invariant.advances
          (IsSuffix-join (c.parse_cell.new.cell, c.in_ok-mark.ensures.parts) (c.in_ok-mark.mark ∷ [], refl)),
    )

pub cells-smaller : goal.cells-smaller
cells-smaller g c = omega (
  arith,
  ap length c.in_ok-mark.ensures.parts,
  length-append c.parse_cell.new.cell (c.in_ok-mark.mark ∷ remaining c.parse_cell.new.self),
)

pub cells-preserved : goal.cells-preserved
cells-preserved g c = rw c.in_ok-push.ensures.ok (record {
  read = CellsRead-push c.cells.invariant.read c.in_ok-mark.ensures (sym c.eq.ensures ∙ c.if-eq.false);
  advances =
      IsSuffix-join c.cells.invariant.advances
      (IsSuffix-join (c.parse_cell.new.cell, c.in_ok-mark.ensures.parts) (c.in_ok-mark.mark ∷ [], refl));
})

pub parse_cell-requires : goal.parse_cell-requires
parse_cell-requires g c = c.new-tokens.ensures

pub returns-in_err-push : goal.returns-in_err-push
returns-in_err-push g c = MatchResult-Memory_error _ _ _ c.from_residual-in_err-push.ensures.1
