-- At each round as many zeros have been appended as the index says.
use Rattle.lw_statements.proofs.Common.{◌≡◌, ◌++◌, replicate}
use Rattle.lw_statements.proofs.read.pad_with_zeros.Given as goal

abbrev pub invariant-loop-word : goal.invariant-loop-word
invariant-loop-word g l = l.words ≡ l.fn.words ++ replicate l._word 0
