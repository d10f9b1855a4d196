-- At each round the lines created so far, followed by empty ones for the remaining words, are all lines.
use Rattle.lw_mesi.proofs.Common.{◌≡◌, ◌++◌, drop, map, unheld_cache_line}
use Rattle.lw_mesi.proofs.caches.SnoopingCaches.new.Given as goal

abbrev pub invariant-loop-word : goal.invariant-loop-word
invariant-loop-word g l = l.cache_lines.items ++ map unheld_cache_line (drop l.word-index l.words) ≡ map unheld_cache_line l.words
