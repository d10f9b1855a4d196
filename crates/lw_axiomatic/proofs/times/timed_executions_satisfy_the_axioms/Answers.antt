-- Law: an execution with times satisfies the axioms. The time of reaching memory is the rank for global
-- happens-before; for coherence a load is ranked right after the write that it reads (`SatisfiesAxioms-HasConsistentTimes`).
use Rattle.lw_axiomatic.proofs.Timed.{SatisfiesAxioms-HasConsistentTimes}
use Rattle.lw_axiomatic.proofs.times.timed_executions_satisfy_the_axioms.Goals as goal

pub returns : goal.returns
returns c test x has = SatisfiesAxioms-HasConsistentTimes has.timed
