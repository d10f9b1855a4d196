-- `add_row` promises that each column has the row's cell of its index appended. Each round appends one cell
-- (`Filling-push`), at an index that is in range since a cell remains (`Filling-in_range`); at the end none
-- remains (`Filling-all`).
use Rattle.lw_text.proofs.Common.{◌∙◌, length, ap, arith}
use Rattle.lw_text.proofs.RowColumns.{Filling-none, Filling-in_range, Filling-push, Filling-all}
use Rattle.lw_text.proofs.columns.add_row.Goals as goal

-- Before the first round no column has got its cell.
pub loop-index-init : goal.loop-index-init
loop-index-init g c =
    let given = c.into_iter-index-iterator.ensures.into_iter_gives in
    let source = c.enumerate-index-items.ensures.source in
    let rest =
    ap (λ i. i.iter.rest.items) given ∙ ap (λ i. i.rest.items) source ∙ c.into_iter.ensures.rest ∙ c.into_vec.ensures in
    let count = ap (λ i. i.count) given ∙ c.enumerate-index-items.ensures.count in
    let len = ap (λ i. i.iter.rest.len) given ∙ ap (λ i. i.rest.len) source ∙ c.into_iter.ensures.len in
    record {
      filling = rw (rest, count) (Filling-none _ _ c.requires);
      len = omega (arith, len, c.into_vec.result.ok.0, ap length rest, ap length c.into_vec.ensures);
    }

pub index_mut-requires : goal.index_mut-requires
index_mut-requires g c =
    let s = c.in-Some.ensures.steps in
    omega (arith, Filling-in_range c.loop-index.invariant.filling s.0.0, s.1, c.loop-index.columns.ok.0)

pub loop-index-preserved : goal.loop-index-preserved
loop-index-preserved g c =
    let s = c.in-Some.ensures.steps in
    let more = Filling-push c.loop-index.invariant.filling s.0.0 (rw s.1 at c.index_mut.ensures.value) in
    record {
      filling = rw (s.1, s.2, c.in_ok-push.ensures.ok) more;
      len = omega (arith, s.0.1, c.loop-index.invariant.len, ap length s.0.0);
    }

pub returns : goal.returns
returns g c = Filling-all c.loop-index.invariant.filling (omega (arith, c.in-None.ensures.steps.0, c.loop-index.invariant.len))
