-- After each round of `collect_observed` the final ones of the states before the index are observed.
use Rattle.lw_search.proofs.ObservedOutcomes.{ObservesFirst}
use Rattle.lw_search.proofs.observed.collect_observed.Given as goal

abbrev pub invariant-loop-at : goal.invariant-loop-at
invariant-loop-at g l = ObservesFirst l.names l.search.program.now.threads l.search.tables l.search.states l.at l.found
