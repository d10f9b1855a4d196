-- Law: an execution with a fence before each load whose word another thread overwrites is sequentially
-- consistent (`IsSequentiallyConsistent-IsFencedWhereOverwritten`). The anchored ranks increase along all relations except from-reads of a load to
-- another thread's write; such a load has its fence, so its anchor is its own number.
use Rattle.lw_axiomatic.proofs.Sequenced.{IsSequentiallyConsistent-IsFencedWhereOverwritten}
use Rattle.lw_axiomatic.proofs.Sequenced.{IsScOutcome-IsAllowed}
use Rattle.lw_axiomatic.proofs.programs.executions_fenced_where_overwritten_are_sequential.Goals as goal

pub returns : goal.returns
returns c = record {
  executions = λ test x axioms fenced. IsSequentiallyConsistent-IsFencedWhereOverwritten axioms fenced;
  outcomes = IsScOutcome-IsAllowed;
}
