-- `collect_observed` looks at the states in order, and makes a listing of the outcomes that it keeps. At the end all states were looked at.
use Rattle.lw_search.proofs.Common.{◌≤◌, arith, length}
use Rattle.lw_search.proofs.ObservedOutcomes.{ObservesFirst-none, ObservesFirst-next, CollectsAll-of_observed}
use Rattle.lw_search.proofs.observed.collect_observed.Goals as goal

pub loop-at-init : goal.loop-at-init
loop-at-init g c =
    let search = c.args.search.now in
    rw c.new-found.ensures (ObservesFirst-none c.args.names.now search.program.now.threads search.tables search.states)

pub loop-at-preserved : goal.loop-at-preserved
loop-at-preserved g c =
    let search = c.args.search.now in
    ObservesFirst-next c.args.names.now search.program.now.threads search.tables search.states c.loop-at.at c.loop-at.found
    c.observe.new.self c.loop-at.invariant c.in_ok-observe.ensures

pub returns-clause-collected : goal.returns-clause-collected
returns-clause-collected g c =
    let search = c.args.search.now in
    let all : length search.states.keys ≤ c.loop-at.at = omega (arith, c.len-at-end.ensures, c.loop-at-test.false) in
    CollectsAll-of_observed c.args.names.now search.program.now.threads search.tables search.states c.loop-at.at
    (record { words = c.found-2.inside.words.keys; outcomes = c.found-2.inside.outcomes.items }) c.from_entries.result
    (rw (← c.found-2.view_is) at c.loop-at.invariant) all c.from_entries.ensures.from c.from_entries.ensures.complete
