-- `parse_rows` promises all rows up to a token that ends them, or that there are none, and where they fail. Each
-- round reads a row (`AreReadTill-next_row`), unless the next token ends the rows (`Rows-at_stop`), 64 have been read
-- (`no_rows-if_too_many`) or no row follows (`no_rows-if_no_row`). Each exit with a fault shows two things, in
-- this order: that there is no such reading, and where it fails (`Fails-later`).
use Rattle.lw_text.proofs.Common.{most_rows, ◌≡◌, ◌<◌, ◌∷◌, [], ◌∙◌, refl, subst, ap, sym, length, arith}
use Rattle.lw_text.proofs.Common.{length-append, map_push, length-map, cells_texts, remaining_texts}
use Rattle.lw_text.proofs.Common.{FailsInRows, too_many_rows, in_row, in_rows_after}
use Rattle.lw_text.proofs.Lists.{IsSuffix-join}
use Rattle.lw_text.proofs.Failures.{Fails-here, Fails-later}
use Rattle.lw_text.proofs.Faults.{Err-clause_known, MatchResult-Memory_error}
use Rattle.lw_text.proofs.Cells.{Row-shorter, Rows-at_stop, AreReadTill-next_row, no_rows-if_no_row}
use Rattle.lw_text.proofs.Cells.{no_rows-if_too_many}
use Rattle.lw_text.proofs.CellPlaces.{RowsFrom-push}
use Rattle.lw_text.proofs.cursor.Cursor.parse_rows.Goals as goal

pub returns-then-at_stop : goal.returns-then-at_stop
returns-then-at_stop g c = (
  Rows-at_stop c.args.threads _ (remaining_texts c.rows.self) _ c.rows.invariant.passed
      (sym c.at_stop.ensures ∙ c.if-at_stop.true) (omega (arith, c.rows.invariant.bounded, length-map c.rows.rows cells_texts)),
  c.rows.invariant.cut,
  c.rows.invariant.advances,
)

-- If 64 rows have been read, and the next token does not end the rows, there are too many.
pub returns-then-len-eq-MAX_ROWS : goal.returns-then-len-eq-MAX_ROWS
returns-then-len-eq-MAX_ROWS g c =
    let full : length c.rows.rows ≡ most_rows = omega (arith, c.if-len-eq-MAX_ROWS.true, c.len.ensures) in
    let more = sym c.at_stop.ensures ∙ c.if-at_stop.false in
    λ _. (
      no_rows-if_too_many c.args.threads _ _ _ c.rows.invariant.passed more
          (omega (arith, c.if-len-eq-MAX_ROWS.true, c.len.ensures, length-map c.rows.rows cells_texts)),
      Fails-later {Later = λ ts rest cause. FailsInRows c.args.threads rest cause (length c.rows.rows) ts}
          c.rows.invariant.advances c.rows.invariant.fails
          (Fails-here c.rows.self _ c.refusal.ensures.place (too_many_rows full more refl c.refusal.ensures.cause)),
    )

pub returns-in_err-parse_row : goal.returns-in_err-parse_row
returns-in_err-parse_row g c = Err-clause_known _ _ _ c.from_residual.ensures.1 (λ ne.
    let lost = c.in_err-parse_row.ensures ne in
    let more = sym c.at_stop.ensures ∙ c.if-at_stop.false in
    let few : length c.rows.rows < most_rows =
    omega (arith, c.if-len-eq-MAX_ROWS.false, c.len.ensures, c.rows.invariant.bounded) in (
      no_rows-if_no_row c.args.threads _ _ _ c.rows.invariant.passed more lost.0,
      Fails-later c.rows.invariant.advances (λ rest cause w. c.rows.invariant.fails rest cause (in_row few more w)) lost.1,
    ))

pub rows-smaller : goal.rows-smaller
rows-smaller g c = Row-shorter c.args.threads _ _ _ c.in_ok-parse_row.ensures.0

-- A row that follows is one more row read.
pub rows-preserved : goal.rows-preserved
rows-preserved g c = record {
  passed =
      rw (c.in_ok-push.ensures.ok, map_push cells_texts c.rows.rows)
      (AreReadTill-next_row c.args.threads _ _ _ c.rows.invariant.passed _ _ (sym c.at_stop.ensures ∙ c.if-at_stop.false)
      c.in_ok-parse_row.ensures.0);
  cut = rw c.in_ok-push.ensures.ok (RowsFrom-push _ _ _ c.rows.rows _ c.rows.invariant.cut c.in_ok-parse_row.ensures.1);
  bounded = omega (
    arith,
    ap length c.in_ok-push.ensures.ok,
    length-append c.rows.rows (c.in_ok-parse_row.field-0 ∷ []),
    c.if-len-eq-MAX_ROWS.false,
    c.len.ensures,
    c.rows.invariant.bounded,
  );
  advances = IsSuffix-join c.rows.invariant.advances c.in_ok-parse_row.ensures.2;
  fails = λ rest cause w.
      c.rows.invariant.fails rest cause
      (in_rows_after _ (omega (arith, c.if-len-eq-MAX_ROWS.false, c.len.ensures, c.rows.invariant.bounded))
      (sym c.at_stop.ensures ∙ c.if-at_stop.false) c.in_ok-parse_row.ensures.0
      (subst (λ k. FailsInRows c.args.threads rest cause k (remaining_texts c.parse_row.new.self))
      (omega (arith, ap length c.in_ok-push.ensures.ok, length-append c.rows.rows (c.in_ok-parse_row.field-0 ∷ []))) w));
}

pub returns-in_err-push : goal.returns-in_err-push
returns-in_err-push g c = MatchResult-Memory_error _ _ _ c.from_residual-in_err-push.ensures.1
