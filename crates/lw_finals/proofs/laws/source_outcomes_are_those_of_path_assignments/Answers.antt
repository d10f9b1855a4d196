-- Proves the law that the outcomes of a source test are those of the linear extensions of its path
-- assignments' items. This is the lemma `outcomes_are_those_of_path_assignments`.
use Rattle.lw_finals.proofs.SourceOutcomes.{outcomes_are_those_of_path_assignments}
use Rattle.lw_finals.proofs.laws.source_outcomes_are_those_of_path_assignments.Goals as goal

pub returns : goal.returns
returns c = outcomes_are_those_of_path_assignments
