-- Proves `write_schedules`, which renders the list of schedules. The states are those of the listing, so
-- their entries are in it (`entry_indices_in_range`); `schedule_list_text-of_parts` puts title and lines
-- together.
use Rattle.lw_report.proofs.Common.{◌∙◌, head_of, schedules_of, string_bytes}
use Rattle.lw_report.proofs.Scheduled.{entry_indices_in_range, schedule_list_text-of_parts}
use Rattle.lw_report.proofs.schedules.write_schedules.Goals as goal

pub write_scheduled_states-requires-clause-within : goal.write_scheduled_states-requires-clause-within
write_scheduled_states-requires-clause-within g c =
    rw c.as_slice.ensures (entry_indices_in_range _ c.args.listing.now c.args.states.now c.requires.states)

-- The title, and the lines of each state, written in sequence into an empty text, are the list of schedules.
pub returns : goal.returns
returns g c =
    c.from.ensures ∙ schedule_list_text-of_parts (head_of c.args.head.now) (schedules_of c.args.listing.now) _ _ (record {
      first = string_bytes c.new-out.result;
      title = string_bytes c.writeln.new.self;
      name = c.as_str.result.now;
      count = c.len.result;
      starts_empty = c.new-out.ensures.bytes;
      title_is = c.in_ok-writeln.ensures.bytes;
      end_is = rw c.as_slice.ensures at c.in_ok-write_scheduled_states.ensures;
      is_name = c.as_str.ensures;
      is_count = c.len.ensures;
    })
