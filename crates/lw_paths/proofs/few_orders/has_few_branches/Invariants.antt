-- At each round the room left and the branches of the first threads together are the maximum.
use Rattle.lw_paths.proofs.Common.{◌≡◌, ◌+◌, take, sum_by, most_unordered, branches}
use Rattle.lw_paths.proofs.few_orders.has_few_branches.Given as goal

abbrev pub invariant-loop-code : goal.invariant-loop-code
invariant-loop-code g l = l.room + sum_by (branches g.S.Statement.language) (take l.code-index l.program) ≡ most_unordered
