-- `collect_state` adds the outcome of one state if the state is final and the outcome is new. If the outcome is listed already, the list
-- has what it has to have; otherwise the schedule to the state becomes that of the outcome.
use Rattle.lw_search.proofs.Common.{on_ok_weaker}
use Rattle.lw_search.proofs.Collected.{CollectsState-known, CollectsState-new}
use Rattle.lw_search.proofs.collect.collect_state.Goals as goal

pub returns-then-contains : goal.returns-then-contains
returns-then-contains g c =
    let search = c.args.search.now in
    CollectsState-known search.program.now.threads search.tables search.states c.args.at c.key-key.result c.in_ok-outcome.outcome
    c.args.found.now c.key-key.ensures c.in_ok-outcome.ensures (c.contains.ensures.0 c.if-contains.true)

pub returns : goal.returns
returns g c =
    let search = c.args.search.now in
    on_ok_weaker c.insert_new.result
    (CollectsState-new search.program.now.threads search.tables search.states c.args.at c.key-key.result c.in_ok-outcome.outcome
    c.in_ok-schedule.schedule c.args.found.now c.insert_new.new.self c.key-key.ensures c.in_ok-outcome.ensures
    (c.is_final.ensures.yes c.if-not-is_final.false) c.in_ok-schedule.ensures) c.insert_new.ensures.inserted
