-- After each round of `collect_outcomes` the outcomes of the states before the index are collected, each with a schedule.
use Rattle.lw_search.proofs.Collected.{CollectsFirst}
use Rattle.lw_search.proofs.collect.collect_outcomes.Given as goal

abbrev pub invariant-loop-at : goal.invariant-loop-at
invariant-loop-at g l = CollectsFirst l.search.program.now.threads l.search.tables l.search.states l.at l.found
