-- At each round `words` has the initial words of the locations before the index.
use Rattle.lw_text.proofs.Common.{◌≡◌, map, locations, word_at}
use Rattle.lw_text.proofs.initial.initial_words.Given as goal

abbrev pub invariant-loop-loc : goal.invariant-loop-loc
invariant-loop-loc g l = l.words ≡ map (word_at l.initializers) (locations l.loc-index)
