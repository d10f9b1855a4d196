-- Law: every test of a text is well-formed. `well_formed` joins what the grammar says of the head, and of the
-- cells in each of the two languages.
use Rattle.lw_bench.proofs.Theorems.{well_formed}
use Rattle.lw_bench.proofs.laws.tests_of_texts_are_well_formed.Goals as goal

pub returns : goal.returns
returns c = well_formed
