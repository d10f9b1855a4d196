-- At each round the observed ones of the first `loc` locations are appended.
use Rattle.lw_report.proofs.Common.{◌≡◌, ◌++◌, filter, head_of, locations, is_observed}
use Rattle.lw_report.proofs.projection.push_locations.Given as goal

abbrev pub invariant-loop-loc : goal.invariant-loop-loc
invariant-loop-loc g l = l.names ≡ l.fn.names ++ filter (is_observed (head_of l.head)) (locations l.loc-index)
