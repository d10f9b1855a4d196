-- The recursion ends since the index becomes smaller: the function calls itself only for a parent before the
-- state.
use Rattle.lw_search.proofs.collect.+push_schedule.Given as goal

abbrev pub decreases-push_schedule : goal.decreases-push_schedule
decreases-push_schedule g l = l.index
