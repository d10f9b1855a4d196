-- Law: an execution with a fence between each store and each later load is sequentially consistent. It is
-- fenced in particular where another thread overwrites, and the law of those executions applies.
use Rattle.lw_axiomatic.proofs.Sequenced.{IsFencedWhereOverwritten-IsFenced}
use Rattle.lw_axiomatic.proofs.programs.well_fenced_executions_are_sequential.Goals as goal

pub returns : goal.returns
returns c test x axioms fenced =
    c.executions_fenced_where_overwritten_are_sequential.ensures.executions test x axioms
    (IsFencedWhereOverwritten-IsFenced test x fenced)
