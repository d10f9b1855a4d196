-- There is no loop: the recursion ends since each call has one slot fewer.
use Rattle.lw_statements.proofs.Common.{length}
use Rattle.lw_statements.proofs.statement_parser.+slot_after.Given as goal

-- The number of remaining slots decreases with each recursive call.
abbrev pub decreases-slot_after : goal.decreases-slot_after
decreases-slot_after g l = length l.slots.now
