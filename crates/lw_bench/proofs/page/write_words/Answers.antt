-- `write_words` promises a line with a title and each location's word. The loop goes through the first items
-- of `Loc::all()`, so the item at an index is that index (`is_index`); there is a word for each name by the
-- contract's premise.
use Rattle.lw_bench.proofs.Common.{◌≤◌, decimal, length, slice_get, slice_index, refl, sym, ap, ◌∙◌, arith}
use Rattle.lw_bench.proofs.Common.{length-take, is_index, named, most_locations}
use Rattle.lw_bench.proofs.Pages.{AllWritten-step, whole_text-AllWritten, OnOk-line_with_title}
use Rattle.lw_bench.proofs.page.write_words.Goals as goal

pub loop-loc-init : goal.loop-loc-init
loop-loc-init g c = record { left = refl }

pub loop-loc-preserved : goal.loop-loc-preserved
loop-loc-preserved g c =
    let index_is = is_index most_locations _ c.all.ensures refl c.loop-loc-test.true c.loc-item.is in
    AllWritten-step c.loop-loc.invariant c.name.result.now _ _ (ap (slice_get c.args.locs.now) (sym index_is) ∙ c.name.ensures)
    (ap (λ k. named (λ _. decimal (slice_index c.args.words.now k)) 0 c.name.result.now) (c.index.ensures.value ∙ index_is))
    c.in_ok-write_assignment.ensures

-- At the loop's end all locations are written, and with the line's end the line.
pub returns : goal.returns
returns g c =
    let table : length c.args.locs.now ≤ most_locations = c.len.ensures.table.bounded in
    let whole : length c.args.locs.now ≤ c.loop-loc.loc-index =
    omega (
      arith,
      length-take c.len.result c.all.result,
      ap length c.all.ensures,
      c.len.ensures.len,
      table,
      c.loop-loc-test.false,
    ) in
    OnOk-line_with_title c.push_str-2.result _ c.args.title.now _ c.in_ok-push_str.ensures.bytes
    (whole_text-AllWritten c.loop-loc.invariant whole) refl c.push_str-2.ensures.bytes

pub name-requires : goal.name-requires
name-requires g c =
    let index_is = is_index most_locations _ c.all.ensures refl c.loop-loc-test.true c.loc-item.is in
    omega (arith, index_is, c.loop-loc-test.true, length-take c.len.result c.all.result, c.len.ensures.len)

-- The loop's index is below the number of words.
pub bounds-words-index : goal.bounds-words-index
bounds-words-index g c =
    let index_is = is_index most_locations _ c.all.ensures refl c.loop-loc-test.true c.loc-item.is in
    omega (
      arith,
      index_is,
      c.index.ensures.value,
      c.loop-loc-test.true,
      length-take c.len.result c.all.result,
      c.len.ensures.len,
      c.requires,
    )
