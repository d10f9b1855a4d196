-- Proves the law that the outcomes of an x86 test over flat memory are those of the linear extensions of its
-- path assignments' items. This is the lemma `IsMachineOutcome-iff_assignment`.
use Rattle.lw_finals.proofs.X86Outcomes.{IsMachineOutcome-iff_assignment}
use Rattle.lw_finals.proofs.laws.x86_outcomes_are_those_of_path_assignments.Goals as goal

pub returns : goal.returns
returns c = IsMachineOutcome-iff_assignment
