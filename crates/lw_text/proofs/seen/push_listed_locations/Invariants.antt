-- At each round `seen` has, after what it had at the start, the listed locations before the index.
use Rattle.lw_text.proofs.Common.{◌≡◌, ◌++◌, filter, locations, is_listed}
use Rattle.lw_text.proofs.seen.push_listed_locations.Given as goal

abbrev pub invariant-loop-loc : goal.invariant-loop-loc
invariant-loop-loc g l = l.seen ≡ l.fn.seen ++ filter (is_listed l.sites) (locations l.loc-index)
