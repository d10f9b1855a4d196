-- Law: a candidate satisfies the axioms if and only if it satisfies them with a locked instruction as two
-- events and the axiom of atomicity (`SatisfiesAxioms-iff_split`); so both forms allow the same outcomes. The ranks of the
-- halves are the doubled ranks of the event, plus 1 for its write.
use Rattle.lw_axiomatic.proofs.InHalves.{SatisfiesAxioms-iff_split, IsAllowed-iff_split}
use Rattle.lw_axiomatic.proofs.herd.locked_instructions_can_be_two_events.Goals as goal

pub returns : goal.returns
returns c = record { executions = SatisfiesAxioms-iff_split; outcomes = IsAllowed-iff_split }
