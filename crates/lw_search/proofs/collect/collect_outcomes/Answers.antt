-- `collect_outcomes` lists the outcome of each final state that was found, with a schedule. The loop collects the states in order; the
-- listing is a permutation of what it collects, so at the end all states are collected.
use Rattle.lw_search.proofs.Common.{◌≤◌, arith, length, IfOk-weaker}
use Rattle.lw_search.proofs.Collected.{CollectsFirst-next, CollectsAll-of_first}
use Rattle.lw_search.proofs.collect.collect_outcomes.Goals as goal

pub loop-at-preserved : goal.loop-at-preserved
loop-at-preserved g c =
    let search = c.args.search.now in
    CollectsFirst-next search.program.now.threads search.tables search.states c.loop-at.at c.loop-at.found
    c.collect_state.new.found c.loop-at.invariant c.in_ok-collect_state.ensures

pub returns-clause-collected : goal.returns-clause-collected
returns-clause-collected g c =
    let search = c.args.search.now in
    let all : length search.states.keys ≤ c.loop-at.at = omega (arith, c.len-at-end.ensures, c.loop-at-test.false) in
    IfOk-weaker c.into_listing.result _ _ (λ l same.
    CollectsAll-of_first search.program.now.threads search.tables search.states c.loop-at.at c.loop-at.found l c.loop-at.invariant
    all same) c.into_listing.ensures.same
