-- `caches_of` promises empty caches with a program's processors and initial words. The goal by hand is the
-- words: a line that nobody holds has memory's word.
use Rattle.std.proofs.Common.{map, ap, ◌∙◌}
use Rattle.lw_mesi.specs.CacheLines.{coherent_word}
use Rattle.lw_machine_tests.proofs.machines.caches_of.Goals as goal

pub returns-in-Ok-clause-words : goal.returns-in-Ok-clause-words
returns-in-Ok-clause-words g c =
    ap (map coherent_word) c.in-Ok.ensures.cache_lines
    ∙ c.empty_caches_are_coherent.ensures.content 0 c.as_slice.result.now
    ∙ c.as_slice.ensures
