-- Proves `write_scheduled_state`, which appends a state's line and that of its schedule. The state's entry is in
-- the listing, and the schedule there names only the test's locations (`IsEvent-schedule_of_entry`); `scheduled_lines-of_parts` says
-- that the four written parts make the two lines.
use Rattle.lw_report.proofs.Common.{◌∙◌, ◌++◌, ap, arith, append_assoc, codes, refl, string_bytes, head_of}
use Rattle.lw_report.proofs.Common.{schedule_text, schedules_of, written-append, OnOk-push_str}
use Rattle.lw_report.proofs.Common.{written-two_parts, ListedState}
use Rattle.lw_report.proofs.Scheduled.{IsEvent-schedule_of_entry, scheduled_lines-of_parts}
use Rattle.lw_report.proofs.schedules.write_scheduled_state.Goals as goal

pub schedule-requires : goal.schedule-requires
schedule-requires g c = omega (arith, c.requires.within, ap (λ (s : ListedState). s.entry) c.state.view_is)

pub write_schedule-requires : goal.write_schedule-requires
write_schedule-requires g c =
    IsEvent-schedule_of_entry (head_of c.args.head.now) c.args.listing.now _ _ c.requires.schedules c.schedule.ensures

-- The four parts that were written in sequence are the state's line and that of its schedule.
pub returns : goal.returns
unfolding lib.Utf8.encode
returns g c =
    let line = string_bytes c.write_state.new.out in
    let text = schedule_text c.args.head.now.locs c.schedule.result.now in
    let told =
    scheduled_lines-of_parts c.args.head.now.locs (schedules_of c.args.listing.now) c.args.labels.now c.args.state.now _ text
    (record {
      entry = c.state.inside.entry;
      events = c.schedule.result.now;
      are_words = c.as_slice.ensures ∙ ap (λ (s : ListedState). s.words) c.state.view_is;
      is_entry = ap (λ (s : ListedState). s.entry) c.state.view_is;
      at = c.schedule.ensures;
      is_text = refl;
    }) in
    let space = c.in_ok-push.ensures.bytes ∙ ap (λ t. line ++ t) (c.in_ok-push.ensures.ascii (omega arith)) in
    let both =
    written-append _ line _ _ _ c.in_ok-write_state.ensures
    (written-append line _ _ (codes " ") text space c.in_ok-write_schedule.ensures) in
    written-two_parts c.push-2.result _ _ _ (codes "\n") both (append_assoc _ (codes " " ++ text) (codes "\n") ∙ told)
    (OnOk-push_str c.push-2.result _ _ (codes "\n") c.push-2.ensures.bytes)
