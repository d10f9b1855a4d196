-- At each round what was written, followed by the lines of the remaining states, makes the lines of all
-- states.
use Rattle.lw_report.proofs.Common.{◌≡◌, ◌++◌, drop, flat_map, string_bytes, head_of, schedules_of, scheduled}
use Rattle.lw_report.proofs.Common.{scheduled_lines, ListedState}
use Rattle.lw_report.proofs.schedules.write_scheduled_states.Given as goal

abbrev pub invariant-loop-state : goal.invariant-loop-state
invariant-loop-state g l =
    let line = λ (s : ListedState). scheduled_lines (head_of l.head) (scheduled (schedules_of l.listing) s) in
    string_bytes l.out ++ flat_map line (drop l.state-index l.states) ≡ string_bytes l.initial.out ++ flat_map line l.states
