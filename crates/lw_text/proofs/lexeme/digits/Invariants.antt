-- At each round `n` is the value of the digits before `rest`, and a word (`DigitsContinueAt`). The rest becomes shorter.
use Rattle.lw_text.proofs.Common.{◌<◌, ◌^◌, length}
use Rattle.lw_text.proofs.Numbers.{DigitsContinueAt}
use Rattle.lw_text.proofs.lexeme.digits.Given as goal

abbrev pub invariant-loop-first : goal.invariant-loop-first
invariant-loop-first l = record { reads : DigitsContinueAt l.base l.digits l.n l.rest; low : l.n < 2 ^ 32 }

abbrev pub decreases-loop-first : goal.decreases-loop-first
decreases-loop-first l = length l.rest
