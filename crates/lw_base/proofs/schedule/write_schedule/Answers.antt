-- Proves `write_schedule`, which appends a schedule's text: the first event, and each other one after a space.
-- `schedule_text-first_event` begins the loop; each event written is one of the test, as `write_event` requires.
use Rattle.lw_base.proofs.Common.{◌∙◌, ◌++◌, ap, arith, string_bytes, subst, sym, AllByRecursion}
use Rattle.lw_base.proofs.Common.{All-from_recursion, IsEvent}
use Rattle.lw_base.proofs.api.Writing.{written-append, items_written-push, items_written-all}
use Rattle.lw_base.proofs.WrittenSchedules.{schedule_text-nil, schedule_text-first_event, spaced_event_text}
use Rattle.lw_base.proofs.schedule.write_schedule.Goals as goal

pub loop-event-init : goal.loop-event-init
loop-event-init g c = schedule_text-first_event c.args.names.now _ _ _ _ _ c.in-Some.ensures.cases.0 c.in_ok-write_event.ensures

pub write_event-requires : goal.write_event-requires
write_event-requires g c = (subst (AllByRecursion (IsEvent c.args.names.now)) c.in-Some.ensures.cases.0 c.requires).0

pub write_event-requires-in-loop-event : goal.write_event-requires-in-loop-event
write_event-requires-in-loop-event g c =
    let others = (subst (AllByRecursion (IsEvent c.args.names.now)) c.in-Some.ensures.cases.0 c.requires).1 in
    subst (IsEvent c.args.names.now) (sym c.event-item.is)
    (All-from_recursion (IsEvent c.args.names.now) c.in-Some.others.now others c.loop-event.event-index c.event-item.result
    c.loop-event-test.true)

pub returns-in_default : goal.returns-in_default
returns-in_default g c = schedule_text-nil c.args.names.now c.args.events.now _ c.in_default.ensures.cases

pub loop-event-preserved : goal.loop-event-preserved
unfolding lib.Utf8.encode
loop-event-preserved g c =
    let space =
    c.in_ok-push.ensures.bytes ∙ ap (λ t. string_bytes c.loop-event.out ++ t) (c.in_ok-push.ensures.ascii (omega arith)) in
    items_written-push (spaced_event_text c.args.names.now) c.in-Some.others.now c.loop-event.event-index _ _
    c.loop-event.invariant c.event-item.result _ c.loop-event-test.true c.event-item.is
    (written-append _ _ _ _ _ space c.in_ok-write_event-2.ensures)

pub returns : goal.returns
returns g c =
    items_written-all (spaced_event_text c.args.names.now) c.in-Some.others.now c.loop-event.event-index _ _
    c.loop-event.invariant c.loop-event-test.false
