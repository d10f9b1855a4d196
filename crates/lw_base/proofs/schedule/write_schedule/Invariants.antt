-- At each round what was written, followed by the remaining events, each after a space, makes the whole
-- schedule.
use Rattle.lw_base.proofs.Common.{◌≡◌, ◌++◌, drop, flat_map, string_bytes, schedule_text}
use Rattle.lw_base.proofs.WrittenSchedules.{spaced_event_text}
use Rattle.lw_base.proofs.schedule.write_schedule.Given as goal

abbrev pub invariant-loop-event : goal.invariant-loop-event
invariant-loop-event g l =
    string_bytes l.out ++ flat_map (spaced_event_text l.names) (drop l.event-index l.others)
    ≡ string_bytes l.fn.out ++ schedule_text l.names l.events
