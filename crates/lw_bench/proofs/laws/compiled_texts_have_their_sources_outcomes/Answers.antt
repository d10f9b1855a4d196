-- Law: the text that `lw compile` writes is a test with the source's outcomes. A canonical text reads back as
-- the printed program, which is the compiled one, and a text has one test (`HasTest-of_compilation`).
use Rattle.lw_bench.proofs.Theorems.{HasTest-of_compilation}
use Rattle.lw_bench.proofs.laws.compiled_texts_have_their_sources_outcomes.Goals as goal

pub returns : goal.returns
returns c = HasTest-of_compilation c.a_text_has_one_test.ensures c.a_canonical_text_reads_back.ensures
