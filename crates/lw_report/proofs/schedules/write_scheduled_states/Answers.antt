-- Proves `write_scheduled_states`, which appends the two lines of each state. Each state's entry is in the
-- listing (`state_entry_in_range`); `scheduled_lines-as_written` and `items_written-push` add its lines to those before.
use Rattle.lw_report.proofs.Common.{◌∙◌, length, refl, head_of, items_written-push, items_written-all}
use Rattle.lw_report.proofs.Common.{schedules_of}
use Rattle.lw_report.proofs.Scheduled.{state_entry_in_range, scheduled_lines-as_written}
use Rattle.lw_report.proofs.schedules.write_scheduled_states.Goals as goal

pub loop-state-init : goal.loop-state-init
loop-state-init g c = refl

pub write_scheduled_state-requires-clause-schedules : goal.write_scheduled_state-requires-clause-schedules
write_scheduled_state-requires-clause-schedules g c = c.requires.schedules

pub write_scheduled_state-requires-clause-within : goal.write_scheduled_state-requires-clause-within
write_scheduled_state-requires-clause-within g c =
    state_entry_in_range (length c.args.listing.now) c.args.states.now c.loop-state.state-index c.state-item.result
    c.requires.within c.loop-state-test.true c.state-item.is

pub loop-state-preserved : goal.loop-state-preserved
loop-state-preserved g c =
    let schedules = schedules_of c.args.listing.now in
    let written =
    scheduled_lines-as_written (head_of c.args.head.now) schedules c.as_slice.result.now c.state-item.result _ _
    (c.as_slice.ensures ∙ c.in_ok-labels.ensures) c.in_ok-write_scheduled_state.ensures in
    items_written-push _ _ _ _ _ c.loop-state.invariant _ _ c.loop-state-test.true c.state-item.is written

pub returns : goal.returns
returns g c = items_written-all _ c.args.states.now _ _ _ c.loop-state.invariant c.loop-state-test.false
