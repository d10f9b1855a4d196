-- There is no loop: the recursion ends since each call has one slot fewer.
use Rattle.lw_statements.proofs.Common.{length}
use Rattle.lw_statements.proofs.statement_parser.+accepted_prefix_len.Given as goal

-- The number of remaining slots decreases with each recursive call.
abbrev pub decreases-accepted_prefix_len : goal.decreases-accepted_prefix_len
decreases-accepted_prefix_len g l = length l.slots.now
