-- Proves the law that a step takes its thread to a successor of its position. This is the lemma `FollowsFlow-source_step`.
use Rattle.lw_interleaving.proofs.api.Commutation.{FollowsFlow-source_step}
use Rattle.lw_interleaving.proofs.laws.a_step_follows_the_flow.Goals as goal

pub returns : goal.returns
returns c = FollowsFlow-source_step
