-- The recursion ends since the function calls itself for one thread less.
use Rattle.lw_paths.proofs.Common.{length}
use Rattle.lw_paths.proofs.size.+max_items.Given as goal

-- The number of threads decreases with each recursive call.
abbrev pub decreases-max_items : goal.decreases-max_items
decreases-max_items g l = length l.program.now
