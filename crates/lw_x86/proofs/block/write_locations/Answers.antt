-- `write_locations` promises the initializers of all locations. The loop goes through the first items of
-- `Loc::all()`, so the item at an index is that index (`is_index`). Each round takes one text from those that
-- remain (`numbers_written-push`), and at the end none remains (`numbers_written-all`).
use Rattle.lw_x86.proofs.Common.{◌<◌, ◌≤◌, ◌∙◌, ◌++◌, length, ap, refl, sym, arith, length-take, string_bytes}
use Rattle.lw_x86.proofs.Common.{head_of, is_index, numbers_written-push, numbers_written-all, ℕ, ◌≡◌, List}
use Rattle.lw_x86.proofs.Common.{get_or, range_with_len, take, most_locations}
use Rattle.lw_x86.proofs.BlockTexts.{location_initializer, initializer_texts-locations}
use Rattle.lw_x86.proofs.block.write_locations.Goals as goal

-- The item at an index of the first `len` locations is below `len`.
location-lt : (len : ℕ) {k x : ℕ} {all xs : List ℕ}
    → all ≡ range_with_len 0 most_locations
    → xs ≡ take len all
    → k < length xs
    → x ≡ get_or xs k x
    → x < len
location-lt len {all = all} e f here at =
    rw (is_index most_locations len e f here at) (omega (arith, here, ap length f, length-take len all))

pub loop-loc-preserved : goal.loop-loc-preserved
loop-loc-preserved g c =
    let names = length c.args.head.now.locs in
    let index_is = is_index most_locations _ c.all.ensures refl c.loop-loc-test.true c.loc-item.is in
    let within : c.loop-loc.loc-index < names =
    omega (arith, c.loop-loc-test.true, length-take c.len.result c.all.result, c.len.ensures.len) in
    numbers_written-push (location_initializer (head_of c.args.head.now)) names c.loop-loc.loc-index _ _ c.loop-loc.invariant _
    within (rw index_is at c.in_ok-write_location.ensures)

-- At the loop's end all locations are written.
pub returns : goal.returns
returns g c =
    let head = head_of c.args.head.now in
    let names = length c.args.head.now.locs in
    let whole : names ≤ c.loop-loc.loc-index = omega (
      arith,
      c.loop-loc-test.false,
      length-take c.len.result c.all.result,
      ap length c.all.ensures,
      c.len.ensures.len,
      c.requires.table.bounded,
    ) in
    numbers_written-all (location_initializer head) names c.loop-loc.loc-index _ _ c.loop-loc.invariant whole
    ∙ ap (λ t. string_bytes c.args.out.now ++ t) (sym (initializer_texts-locations head names))

pub write_location-requires-clause-name : goal.write_location-requires-clause-name
write_location-requires-clause-name g c =
    rw (← c.len.ensures.len) (location-lt c.len.result c.all.ensures refl c.loop-loc-test.true c.loc-item.is)

pub write_location-requires-clause-word : goal.write_location-requires-clause-word
write_location-requires-clause-word g c =
    rw (c.requires.words, ← c.len.ensures.len) (location-lt c.len.result c.all.ensures refl c.loop-loc-test.true c.loc-item.is)
