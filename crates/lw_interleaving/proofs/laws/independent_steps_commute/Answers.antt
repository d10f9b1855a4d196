-- Proves the law that steps of two threads commute if their statements do not conflict. This is the lemma
-- `StepsCommute-no_conflict`.
use Rattle.lw_interleaving.proofs.api.Commutation.{StepsCommute-no_conflict}
use Rattle.lw_interleaving.proofs.laws.independent_steps_commute.Goals as goal

pub returns : goal.returns
returns c = StepsCommute-no_conflict
