-- Proves the law that a step does not change another thread's position. This is the lemma `source_step-other_position`.
use Rattle.lw_interleaving.proofs.api.Commutation.{source_step-other_position}
use Rattle.lw_interleaving.proofs.laws.a_step_changes_one_thread.Goals as goal

pub returns : goal.returns
returns c = source_step-other_position
