-- Proves the law that the schedule of a source run replays in the compiled program to the run's outcome. This
-- is the lemma `schedule_replays`.
use Rattle.lw_fence.proofs.SourceToMachine.{schedule_replays}
use Rattle.lw_fence.proofs.schedule.schedules_replay.Goals as goal

pub returns : goal.returns
returns c s p starts order o ok compiled run = schedule_replays p order o ok compiled run
