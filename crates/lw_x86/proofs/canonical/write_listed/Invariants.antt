-- At each round `out` has, after what it had before the loop, the elements before the index, joined by
-- spaces.
use Rattle.lw_x86.proofs.Common.{◌≡◌, ◌++◌, map, take, codes, string_bytes, joined, element_text}
use Rattle.lw_x86.proofs.canonical.write_listed.Given as goal

abbrev pub invariant-loop-index : goal.invariant-loop-index
invariant-loop-index g l =
    string_bytes l.out
    ≡ string_bytes l.initial.out ++ joined (codes " ") (take l.index (map (element_text l.head.locs) l.head.listed))
