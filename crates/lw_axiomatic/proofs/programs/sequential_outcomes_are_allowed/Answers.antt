-- Law: a sequentially consistent execution satisfies the axioms, so x86-TSO has every outcome of
-- interleaving. The relations of both axioms are among those of sequential consistency, so its ranks serve
-- for both (`SatisfiesAxioms-IsSequentiallyConsistent`).
use Rattle.lw_axiomatic.proofs.Sequenced.{SatisfiesAxioms-IsSequentiallyConsistent, IsAllowed-IsScOutcome}
use Rattle.lw_axiomatic.proofs.programs.sequential_outcomes_are_allowed.Goals as goal

pub returns : goal.returns
returns c = record { executions = SatisfiesAxioms-IsSequentiallyConsistent; outcomes = IsAllowed-IsScOutcome }
