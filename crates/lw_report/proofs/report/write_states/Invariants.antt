-- At each round what was written, followed by the lines of the remaining states, makes the lines of all
-- states.
use Rattle.lw_report.proofs.Common.{◌≡◌, ◌++◌, drop, flat_map, string_bytes, head_of, state_line}
use Rattle.lw_report.proofs.report.write_states.Given as goal

abbrev pub invariant-loop-state : goal.invariant-loop-state
invariant-loop-state g l =
    string_bytes l.out ++ flat_map (λ s. state_line (head_of l.fn.head) s.words) (drop l.state-index l.states)
    ≡ string_bytes l.initial.out ++ flat_map (λ s. state_line (head_of l.fn.head) s.words) l.states
