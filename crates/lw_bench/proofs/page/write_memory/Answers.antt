-- `write_memory` promises a line with each location's word in memory. The loop goes through the first items
-- of `Loc::all()`, so the item at an index is that index (`is_index`); `AllWritten` says what has been
-- written.
use Rattle.lw_bench.proofs.Common.{◌≤◌, codes, decimal, length, slice_get, slice_index, refl, sym, ap, ◌∙◌}
use Rattle.lw_bench.proofs.Common.{arith, length-take, is_index, named, most_locations}
use Rattle.lw_bench.proofs.Pages.{AllWritten-step, whole_text-AllWritten, OnOk-line_with_title}
use Rattle.lw_bench.proofs.page.write_memory.Goals as goal

pub loop-loc-init : goal.loop-loc-init
loop-loc-init g c = record { left = refl }

pub loop-loc-preserved : goal.loop-loc-preserved
loop-loc-preserved g c =
    let index_is = is_index most_locations _ c.all.ensures refl c.loop-loc-test.true c.loc-item.is in
    let word = c.word_in_memory.ensures.word ∙ ap (slice_index (g.M.MemorySystem.memory c.args.memory.now)) index_is in
    AllWritten-step c.loop-loc.invariant _ _ _ (ap (slice_get c.args.locs.now) (sym index_is) ∙ c.name.ensures)
    (ap (λ w. named (λ _. decimal w) 0 c.name.result.now) word) c.in_ok-write_assignment.ensures

-- At the loop's end all locations are written, and with the line's end the line.
pub returns : goal.returns
returns g c =
    let table : length c.args.locs.now ≤ most_locations = c.len.ensures.table.bounded in
    let whole : length c.args.locs.now ≤ c.loop-loc.loc-index =
    omega (
      arith,
      length-take c.len.result c.all.result,
      ap length c.all.ensures,
      c.len.ensures.len,
      table,
      c.loop-loc-test.false,
    ) in
    OnOk-line_with_title c.push_str-2.result _ (codes "Memory") _ c.in_ok-push_str.ensures.bytes
    (whole_text-AllWritten c.loop-loc.invariant whole) refl c.push_str-2.ensures.bytes

pub name-requires : goal.name-requires
name-requires g c =
    let index_is = is_index most_locations _ c.all.ensures refl c.loop-loc-test.true c.loc-item.is in
    omega (arith, index_is, c.loop-loc-test.true, length-take c.len.result c.all.result, c.len.ensures.len)

pub word_in_memory-requires : goal.word_in_memory-requires
word_in_memory-requires g c = omega (
  arith,
  (is_index most_locations _ c.all.ensures refl c.loop-loc-test.true c.loc-item.is),
  c.loop-loc-test.true,
  length-take c.len.result c.all.result,
  c.len.ensures.len,
  c.requires,
)
