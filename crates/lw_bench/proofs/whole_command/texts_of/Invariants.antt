-- At each round `texts` has the texts of the words before the index.
use Rattle.lw_bench.proofs.Common.{◌≡◌, map, take, string_bytes, List, ℕ, Bor}
use Rattle.lw_bench.proofs.whole_command.texts_of.Given as goal

abbrev pub invariant-loop-word : goal.invariant-loop-word
invariant-loop-word g l = map (λ (t : Bor (List ℕ)). t.now) l.texts.items ≡ map string_bytes (take l.word-index l.words)
