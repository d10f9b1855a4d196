-- Law: a candidate that satisfies the axioms has times. `HasTimes-SatisfiesAxioms` lets a store reach memory at its number
-- in global happens-before, and does all else as soon as the loads, locked instructions and fences before it
-- allow. The interesting case is that a read finds nothing newer.
use Rattle.lw_axiomatic.proofs.Timing.{HasTimes-SatisfiesAxioms}
use Rattle.lw_axiomatic.proofs.times.executions_have_times.Goals as goal

pub returns : goal.returns
returns c test x o candidate axioms = HasTimes-SatisfiesAxioms candidate axioms
