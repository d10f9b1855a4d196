-- At each round trivia has been skipped up to `rest`, which does not start with a blank (`TriviaContinuesAt`). The rest
-- becomes shorter.
use Rattle.lw_text.proofs.Common.{◌≡◌, false, length, is_blank, first_byte_is}
use Rattle.lw_text.proofs.TriviaLemmas.{TriviaContinuesAt}
use Rattle.lw_text.proofs.trivia.after_trivia.Given as goal

abbrev pub invariant-loop-inner : goal.invariant-loop-inner
invariant-loop-inner l = record { skipped : TriviaContinuesAt l.bytes l.rest; no_blank : first_byte_is is_blank l.rest ≡ false }

abbrev pub decreases-loop-inner : goal.decreases-loop-inner
decreases-loop-inner l = length l.rest
