-- At each round as many steps are appended as rounds were made.
use Rattle.lw_fence.proofs.Common.{◌≡◌, ◌++◌, replicate, Step}
use Rattle.lw_fence.proofs.schedule.push_statement.Given as goal

abbrev pub invariant-loop-instr : goal.invariant-loop-instr
invariant-loop-instr g l = l.events.items ≡ l.fn.events.items ++ replicate l._instr (Step l.cpu)
