-- At each round `words` are the words of the first names.
use Rattle.lw_report.proofs.Common.{final_word, ◌≡◌, map, take}
use Rattle.lw_report.proofs.projection.words_of.Given as goal

abbrev pub invariant-loop-name : goal.invariant-loop-name
invariant-loop-name g l = l.words.items ≡ map (final_word l.outcome) (take l.name-index l.names)
