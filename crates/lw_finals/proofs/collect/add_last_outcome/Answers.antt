-- Proves `add_last_outcome`, which inserts the outcome of the last run, so that the outcomes of this order
-- are collected. An order has at most one outcome (the premise `ran`), and this one is not listed yet:
-- `CollectsOutcomes-one`.
use Rattle.lw_finals.proofs.Common.{on_ok_weaker}
use Rattle.lw_finals.proofs.Gathering.{CollectsOutcomes-one}
use Rattle.lw_finals.proofs.collect.add_last_outcome.Goals as goal

pub insert_new-requires : goal.insert_new-requires
insert_new-requires g c i = c.requires.new (rw c.in_ok-outcome.ensures.outcome at i)

pub returns : goal.returns
returns g c =
    let test = g.R.OrderRunner.test c.args.runner.now in
    on_ok_weaker c.insert_new.result (λ h.
    CollectsOutcomes-one (g.R.OrderRunner.leads test) (g.R.OrderRunner.ends test c.args.items.now c.args.order.now)
    c.args.found.now c.insert_new.new.self (g.R.OrderRunner.end c.args.runner.now) c.in_ok-outcome.outcome c.in_ok-outcome.kept
    c.requires.ran.1 c.in_ok-outcome.ensures.outcome c.in_ok-outcome.ensures.leads h) c.insert_new.ensures.inserted
