-- At each round what was written, followed by the lines of the remaining states, makes the lines of all
-- states.
use Rattle.lw_report.proofs.Common.{marked_line, ◌≡◌, ◌++◌, drop, flat_map, string_bytes, head_of}
use Rattle.lw_report.proofs.Common.{projection_of}
use Rattle.lw_report.proofs.marks.write_marked_states.Given as goal

abbrev pub invariant-loop-state : goal.invariant-loop-state
invariant-loop-state g l =
    string_bytes l.out ++ flat_map (λ s. marked_line (head_of l.fn.head) (projection_of s)) (drop l.state-index l.states)
    ≡ string_bytes l.initial.out ++ flat_map (λ s. marked_line (head_of l.fn.head) (projection_of s)) l.states
