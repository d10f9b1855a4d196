-- `end_task` promises how a run with this task ends. An answer ends as `answer` ensures; a fault ends with
-- its line and status, and is one that is true of the text and not a device's.
use Rattle.lw_bench.proofs.Endings.{EndsTask-Reports}
use Rattle.lw_bench.proofs.whole_command.end_task.Goals as goal

pub returns-in-Err : goal.returns-in-Err
returns-in-Err g c =
    EndsTask-Reports c.args.task c.args.text.now c.in-Err.fault c.refusal_of.result c.in-Err.ensures.fault c.in-Err.ensures.device
    c.refusal_of.ensures
