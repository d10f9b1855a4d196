-- `page_over_caches` promises the page of a replay over caches that are empty at the start. The one goal by
-- hand is that their content is the test's words: a line that nobody holds has memory's word.
use Rattle.lw_bench.proofs.Common.{map, ap, ◌∙◌, unheld_cache_line, coherent_word}
use Rattle.lw_bench.proofs.replay.page_over_caches.Goals as goal

pub page_over_memory-requires-clause-words : goal.page_over_memory-requires-clause-words
page_over_memory-requires-clause-words g c =
    ap (map coherent_word) (c.in_ok-caches.ensures.cache_lines ∙ ap (map unheld_cache_line) c.as_slice-words.ensures)
    ∙ c.empty_caches_are_coherent.ensures.content 0 c.args.program.now.head.init_words
