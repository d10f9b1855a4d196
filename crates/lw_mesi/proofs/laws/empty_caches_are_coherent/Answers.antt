-- Proves the law that empty caches satisfy each protocol and have memory's words as content. These are the
-- lemmas `SatisfiesProtocol-empty_caches` and `coherent_words-empty_caches`.
use Rattle.lw_mesi.proofs.Start.{coherent_words-empty_caches, SatisfiesProtocol-empty_caches}
use Rattle.lw_mesi.proofs.laws.empty_caches_are_coherent.Goals as goal

pub returns-clause-kept : goal.returns-clause-kept
returns-clause-kept c p cpus words few = SatisfiesProtocol-empty_caches p cpus words few

pub returns-clause-content : goal.returns-clause-content
returns-clause-content c cpus words = coherent_words-empty_caches cpus words
