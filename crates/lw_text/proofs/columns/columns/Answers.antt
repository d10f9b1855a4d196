-- `columns` promises the columns of the rows, one for each thread. Each round adds one row to the columns of
-- the rows before it (`columns-one_more_row`). A row has a cell for each thread, which `add_row` requires.
use Rattle.lw_text.proofs.Common.{◌∙◌, ◌++◌, ◌∷◌, [], length, map, ap, arith, sym, append_assoc}
use Rattle.lw_text.proofs.Common.{length-map-range_with_len, column, columns, zip}
use Rattle.lw_text.proofs.RowColumns.{columns-one_more_row, row_length, none_left-before_is_all, with_last}
use Rattle.lw_text.proofs.columns.columns.Goals as goal

pub loop-row-init : goal.loop-row-init
loop-row-init g c =
    let given = c.into_iter-row-iterator.ensures.into_iter_gives in
    record {
      made = c.in_ok-columns.ensures;
      rest = given.0 ∙ c.into_vec-row-items.ensures;
      len = omega (arith, given.1, c.into_vec-row-items.result.ok.0, ap length given.0);
    }

pub add_row-requires : goal.add_row-requires
add_row-requires g c =
    let inv = c.loop-row.invariant in
    row_length c.args.threads c.args.rows c.loop-row.yielded _ _ _ c.requires inv.rest c.in-Some.ensures.steps.0
    ∙ sym (ap length inv.made ∙ length-map-range_with_len (column c.loop-row.yielded) 0 c.args.threads)

-- A round adds one row to the columns of the rows before it.
pub loop-row-preserved : goal.loop-row-preserved
loop-row-preserved g c =
    let s = c.in-Some.ensures.steps in
    let inv = c.loop-row.invariant in
    let row = c.in-Some.row in
    record {
      made =
          c.in_ok-add_row.ensures
          ∙ ap (λ l. map with_last (zip l row)) inv.made
          ∙ columns-one_more_row c.args.threads c.loop-row.yielded row
          (row_length c.args.threads c.args.rows c.loop-row.yielded _ _ row c.requires inv.rest s.0);
      rest = append_assoc c.loop-row.yielded (row ∷ []) _ ∙ ap (λ l. c.loop-row.yielded ++ l) (sym s.0) ∙ inv.rest;
      len = omega (arith, s.1, inv.len, ap length s.0);
    }

pub returns : goal.returns
returns g c =
    let inv = c.loop-row.invariant in
    let all =
    none_left-before_is_all c.args.rows c.loop-row.yielded _ inv.rest (omega (arith, inv.len, c.in-None.ensures.steps.0)) in
    c.from.ensures ∙ inv.made ∙ ap (columns c.args.threads) all
