-- At each round the observed ones of the thread's first registers are appended.
use Rattle.lw_report.proofs.Common.{◌≡◌, ◌++◌, map, filter, range_with_len, head_of, Register, is_observed}
use Rattle.lw_report.proofs.projection.push_registers.Given as goal

abbrev pub invariant-loop-reg : goal.invariant-loop-reg
invariant-loop-reg g l =
    l.names ≡ l.fn.names ++ filter (is_observed (head_of l.head)) (map (λ r. Register l.cpu r) (range_with_len 0 l.reg-index))
