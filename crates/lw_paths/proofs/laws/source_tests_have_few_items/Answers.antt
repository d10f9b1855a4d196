-- Proves the law that a source test never has too many items. This is the lemma `not-HasTooManyItems-source`: a path passes
-- each position at most once, and a source test's stores have no drains.
use Rattle.lw_paths.proofs.FewItems.{not-HasTooManyItems-source}
use Rattle.lw_paths.proofs.laws.source_tests_have_few_items.Goals as goal

pub returns : goal.returns
returns c = not-HasTooManyItems-source
