-- `command_of` returns the task that the arguments name, or `None` if they name none. One goal for each arm
-- of the match on the first word: the tasks without arguments are `IsResultOf-IsCommand_one_word`, `replay` is
-- `IsResultOf-IsCommand_replay`. The arm of other words compares the word with all four names.
use Rattle.lw_bench.proofs.Common.{refl, codes, arith, cons-head_eq, States, Compile, Schedules}
use Rattle.lw_bench.proofs.Commands.{IsResultOf-IsCommand_one_word, IsResultOf-IsCommand_replay}
use Rattle.lw_bench.proofs.Commands.{not-IsCommand-if_no_arguments, not-IsCommand-if_other_word}
use Rattle.lw_bench.proofs.command.command_of.Goals as goal

pub returns-in-states : goal.returns-in-states
returns-in-states c =
    IsResultOf-IsCommand_one_word c.args.arguments.now (codes "states") States c.without_arguments.result
    c.in-len1-up.len_at_least c.in-states.is (λ e. omega (arith, cons-head_eq 115 114 _ _ e)) refl c.without_arguments.ensures

pub returns-in-compile : goal.returns-in-compile
returns-in-compile c =
    IsResultOf-IsCommand_one_word c.args.arguments.now _ Compile c.without_arguments-in-compile.result c.in-len1-up.len_at_least
    c.in-compile.is (λ e. omega (arith, cons-head_eq 99 114 _ _ e)) refl c.without_arguments-in-compile.ensures

pub returns-in-schedules : goal.returns-in-schedules
returns-in-schedules c =
    IsResultOf-IsCommand_one_word c.args.arguments.now _ Schedules c.without_arguments-in-schedules.result
    c.in-len1-up.len_at_least c.in-schedules.is (λ e. omega (arith, cons-head_eq 115 114 _ _ e)) refl
    c.without_arguments-in-schedules.ensures

pub returns-in-replay : goal.returns-in-replay
returns-in-replay c = IsResultOf-IsCommand_replay _ _ c.in-len1-up.len_at_least c.in-replay.is c.replay_command.ensures

pub returns-in_default : goal.returns-in_default
returns-in_default c = λ task said. not-IsCommand-if_no_arguments c.args.arguments.now task c.in_default.len_below said

pub returns-in_default-command : goal.returns-in_default-command
returns-in_default-command c =
    let at = c.in_default-command in
    λ task said.
    not-IsCommand-if_other_word c.args.arguments.now task c.in-len1-up.len_at_least at.not-states at.not-compile at.not-schedules
    at.not-replay said
