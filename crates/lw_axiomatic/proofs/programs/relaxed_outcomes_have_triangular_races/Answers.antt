-- Law: an outcome that the axioms allow is one of interleaving, or the test has a triangular race.
-- `InterleavingOutcome-or_race` looks at the first from-read along which the ranks do not increase: the events
-- before it are a run that ends in a race.
use Rattle.lw_axiomatic.proofs.RaceFree.{InterleavingOutcome-or_race}
use Rattle.lw_axiomatic.proofs.programs.relaxed_outcomes_have_triangular_races.Goals as goal

pub returns : goal.returns
returns c = InterleavingOutcome-or_race c.interleaving_outcomes_are_sequential.ensures.x86
