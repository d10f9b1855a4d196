-- After each round of `words_of` the words of the names before the index were pushed.
use Rattle.lw_search.proofs.ObservedOutcomes.{AreWordsOfFirst}
use Rattle.lw_search.proofs.observed.words_of.Given as goal

abbrev pub invariant-loop-name : goal.invariant-loop-name
invariant-loop-name g l = AreWordsOfFirst l.program.threads l.tables l.key l.names l.name-index l.words.items
