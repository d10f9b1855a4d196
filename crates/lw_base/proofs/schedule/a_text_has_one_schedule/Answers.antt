-- Proves the law that a text is a schedule of at most one list of events. This is the lemma `IsSchedule-unique`.
use Rattle.lw_base.proofs.Schedules.{IsSchedule-unique}
use Rattle.lw_base.proofs.schedule.a_text_has_one_schedule.Goals as goal

pub returns : goal.returns
returns c = IsSchedule-unique
