-- At each round the lines before the index have no copies, and have their words; the numbers of processors
-- and lines are unchanged.
use Rattle.lw_mesi.proofs.Common.{◌≡◌, length, map, take, unheld_cache_line}
use Rattle.lw_mesi.proofs.caches.SnoopingCachesMemorySystem.restart.Given as goal

-- The cache lines before the index are unheld, and have their words.
abbrev pub invariant-loop-index : goal.invariant-loop-index
invariant-loop-index g l = record {
  cpus : l.self-inside.cpus ≡ l.initial.self-inside.cpus;
  many : length l.self-inside.cache_lines.items ≡ length l.initial.self-inside.cache_lines.items;
  cache_lines : take l.index l.self-inside.cache_lines.items ≡ map unheld_cache_line (take l.index l.words);
}
