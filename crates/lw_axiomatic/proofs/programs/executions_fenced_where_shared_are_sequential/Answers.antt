-- Law: an execution with a fence before each load of a shared location is sequentially consistent. A load
-- whose word another thread overwrites is of a shared location, so it is fenced where overwritten, and the
-- law of those executions applies.
use Rattle.lw_axiomatic.proofs.Sequenced.{IsFencedWhereOverwritten-IsFencedWhereShared}
use Rattle.lw_axiomatic.proofs.programs.executions_fenced_where_shared_are_sequential.Goals as goal

pub returns : goal.returns
returns c test x axioms fenced =
    c.executions_fenced_where_overwritten_are_sequential.ensures.executions test x axioms
    (IsFencedWhereOverwritten-IsFencedWhereShared test x fenced)
