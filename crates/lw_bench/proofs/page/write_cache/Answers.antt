-- `write_cache` promises a line with the state of each location in a processor's cache. The loop goes
-- through the first items of `Loc::all()`, so the item at an index is that index (`is_index`); `AllWritten`
-- says what has been written.
use Rattle.lw_bench.proofs.Common.{◌≤◌, codes, length, slice_get, refl, sym, ap, ◌∙◌, arith, length-take}
use Rattle.lw_bench.proofs.Common.{is_index, named, letter, most_locations}
use Rattle.lw_bench.proofs.Pages.{AllWritten-step, whole_text-AllWritten, OnOk-line_with_title}
use Rattle.lw_bench.proofs.Pages.{processor_title-append}
use Rattle.lw_bench.proofs.page.write_cache.Goals as goal

pub loop-loc-init : goal.loop-loc-init
loop-loc-init g c = record { left = refl }

pub loop-loc-preserved : goal.loop-loc-preserved
loop-loc-preserved g c =
    let index_is = is_index most_locations _ c.all.ensures refl c.loop-loc-test.true c.loc-item.is in
    let held = c.state_of.ensures.letter ∙ ap (g.M.MemorySystem.state c.args.memory.now c.args.cpu) index_is in
    AllWritten-step c.loop-loc.invariant _ _ _ (ap (slice_get c.args.locs.now) (sym index_is) ∙ c.name.ensures)
    (ap (λ s. named (λ _. letter s) 0 c.name.result.now) held) c.in_ok-write_line_state.ensures

-- At the loop's end all locations are written, and with the line's end the line.
pub returns : goal.returns
returns g c =
    let table : length c.args.locs.now ≤ most_locations = c.len.ensures.table.bounded in
    let whole : length c.args.locs.now ≤ c.loop-loc.loc-index =
    omega (
      arith,
      length-take c.len.result c.all.result,
      ap length c.all.ensures,
      c.len.ensures.len,
      table,
      c.loop-loc-test.false,
    ) in
    OnOk-line_with_title c.push_str.result _ _ _ (rw c.index.ensures.value at c.in_ok-write.ensures.bytes)
    (whole_text-AllWritten c.loop-loc.invariant whole) (processor_title-append c.args.cpu (codes " lines") _)
    c.push_str.ensures.bytes

pub name-requires : goal.name-requires
name-requires g c =
    let index_is = is_index most_locations _ c.all.ensures refl c.loop-loc-test.true c.loc-item.is in
    omega (arith, index_is, c.loop-loc-test.true, length-take c.len.result c.all.result, c.len.ensures.len)

-- The location of the loop's index is one of the memory's.
pub state_of-requires : goal.state_of-requires
state_of-requires g c =
    let index_is = is_index most_locations _ c.all.ensures refl c.loop-loc-test.true c.loc-item.is in
    record {
      cpu = c.requires.cpu;
      loc =
          omega (
            arith,
            index_is,
            c.loop-loc-test.true,
            length-take c.len.result c.all.result,
            c.len.ensures.len,
            c.requires.words,
          );
    }
