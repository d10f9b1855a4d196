-- At each round `word` is the word of the last initializer of the site among those before the index, or 0 if
-- there is none.
use Rattle.lw_text.proofs.Common.{◌≡◌, take, seen_of, word_at}
use Rattle.lw_text.proofs.initial.word_of.Given as goal

abbrev pub invariant-loop-initializer : goal.invariant-loop-initializer
invariant-loop-initializer l = l.word ≡ word_at (take l.initializer-index l.initializers) (seen_of l.site)
