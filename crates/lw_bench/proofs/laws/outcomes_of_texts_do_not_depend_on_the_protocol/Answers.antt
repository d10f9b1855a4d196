-- Law: of a text's test, outcomes are the same over any two protocols. Over each protocol they are the test's
-- outcomes (`HasOverCaches-program_run`); the two equivalences are composed.
use Rattle.lw_bench.proofs.Theorems.{well_formed, HasOverCaches-program_run}
use Rattle.lw_bench.proofs.laws.outcomes_of_texts_do_not_depend_on_the_protocol.Goals as goal

pub returns : goal.returns
returns c = λ protocol other text test program o says runs.
    let over = HasOverCaches-program_run c.outcomes_over_caches_are_flat.ensures test program (well_formed text test says) runs in
    ((λ outcome. (over other o).1 ((over protocol o).0 outcome)), (λ outcome. (over protocol o).1 ((over other o).0 outcome)))
