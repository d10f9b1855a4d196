-- Proves `collect_order`, which runs one order and adds its outcome if it is new. The interesting exit is the
-- call of `add_last_outcome`: the run has followed its paths, and `contains` returned `false`, so the outcome
-- is not listed.
use Rattle.lw_finals.proofs.Common.{sym, ◌∙◌, true≢false}
use Rattle.lw_finals.proofs.collect.collect_order.Goals as goal

pub add_last_outcome-requires-clause-ran : goal.add_last_outcome-requires-clause-ran
add_last_outcome-requires-clause-ran g c = rw (← c.run.ensures.same) at (rw c.if-not-run.false at c.run.ensures.ends)

pub add_last_outcome-requires-clause-new : goal.add_last_outcome-requires-clause-new
add_last_outcome-requires-clause-new g c i =
    true≢false (sym (c.contains.ensures.1 (rw c.last_outcome.ensures i)) ∙ c.if-contains.false)

pub returns-clause-gathered : goal.returns-clause-gathered
returns-clause-gathered g c = rw c.run.ensures.same at c.add_last_outcome.ensures
