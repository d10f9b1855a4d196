-- The recursion ends since each call has fewer threads left, or as many and fewer statements of the current
-- one.
use Rattle.lw_paths.proofs.Common.{suc, ◌+◌, ◌-◌, ◌*◌, length, most_threads, most_instructions, assignment_of}
use Rattle.lw_paths.proofs.visit.+visit_from.Given as goal

-- The threads whose paths remain, and then the remaining statements, decrease with each recursive call.
abbrev pub decreases-visit_from : goal.decreases-visit_from
decreases-visit_from g l =
    suc most_instructions * (most_threads - length (assignment_of l.assignment.now)) + (most_instructions - l.at)
