-- There is no loop: the recursion ends since each call has one slot fewer.
use Rattle.lw_statements.proofs.Common.{length}
use Rattle.lw_statements.proofs.statement_parser.+read_slots.Given as goal

-- The number of remaining slots decreases with each recursive call.
abbrev pub decreases-read_slots : goal.decreases-read_slots
decreases-read_slots g l = length l.slots.now
