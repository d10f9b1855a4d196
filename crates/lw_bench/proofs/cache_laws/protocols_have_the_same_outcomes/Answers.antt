-- Law: a test has the same outcomes over caches of two protocols. Both sets are the outcomes over flat
-- memory, by `outcomes_over_caches_are_flat`, applied once to each protocol.
use Rattle.lw_bench.proofs.cache_laws.protocols_have_the_same_outcomes.Goals as goal

pub returns : goal.returns
returns c protocol other test o ok fits =
    let this = c.outcomes_over_caches_are_flat.ensures protocol test o ok fits in
    let that = c.outcomes_over_caches_are_flat.ensures other test o ok fits in
    ((λ outcome. that.1 (this.0 outcome)), (λ outcome. this.1 (that.0 outcome)))
