-- The loop keeps no fact, since `command_of` promises only to return. It ends: each round leaves fewer words.
use Rattle.lw_beyond.proofs.Common.{length}
use Rattle.lw_beyond.proofs.command.command_of.Given as goal

abbrev pub decreases-loop-rest : goal.decreases-loop-rest
decreases-loop-rest l = length l.rest
