-- At each round `out`, followed by the initializers of the locations from the index on, is what it had at the
-- start, followed by all initializers.
use Rattle.lw_x86.proofs.Common.{◌≡◌, ◌++◌, drop, length, flat_map, string_bytes, range_with_len, head_of}
use Rattle.lw_x86.proofs.BlockTexts.{location_initializer}
use Rattle.lw_x86.proofs.block.write_locations.Given as goal

abbrev pub invariant-loop-loc : goal.invariant-loop-loc
invariant-loop-loc g l =
    let names = length l.head.locs in
    string_bytes l.out ++ flat_map (location_initializer (head_of l.head)) (drop l.loc-index (range_with_len 0 names))
    ≡ string_bytes l.fn.out ++ flat_map (location_initializer (head_of l.head)) (range_with_len 0 names)
