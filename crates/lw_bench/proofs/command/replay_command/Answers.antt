-- `replay_command` returns the task that `replay` with these arguments names. Only the exit by `?` is
-- answered by hand: if what follows the schedule is no option of a protocol, no task is named (`not-IsCommand-if_bad_option`).
use Rattle.lw_bench.proofs.Commands.{not-IsCommand-if_bad_option}
use Rattle.lw_bench.proofs.command.replay_command.Goals as goal

pub returns-in_err-protocol : goal.returns-in_err-protocol
returns-in_err-protocol c =
    rw c.from_residual.ensures (not-IsCommand-if_bad_option c.args.others.now c.in-len1-up.len_at_least c.in_err-protocol.ensures)
