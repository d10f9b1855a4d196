-- Proves `X86Runner::new`, which creates a runner of the test. Empty caches over the initial words have these
-- words as their content, as `Machine::new` requires: the law `empty_caches_are_coherent`.
use Rattle.lw_finals.proofs.Common.{map, ap, ◌∙◌, unheld_cache_line, coherent_word}
use Rattle.lw_finals.proofs.x86_runner.X86Runner.new.Goals as goal

pub new-requires-2-clause-words : goal.new-requires-2-clause-words
new-requires-2-clause-words g c =
    ap (map coherent_word) (c.in_ok-caches.ensures.cache_lines ∙ ap (map unheld_cache_line) c.as_slice-words.ensures)
    ∙ c.empty_caches_are_coherent.ensures.content 0 c.args.program.now.head.init_words
