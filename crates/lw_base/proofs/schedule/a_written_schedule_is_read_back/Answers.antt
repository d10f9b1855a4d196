-- Proves the law that a written schedule is read back as the same events. This is the lemma `schedule_text-read_back`.
use Rattle.lw_base.proofs.WrittenSchedules.{schedule_text-read_back}
use Rattle.lw_base.proofs.schedule.a_written_schedule_is_read_back.Goals as goal

pub returns : goal.returns
returns c = schedule_text-read_back
