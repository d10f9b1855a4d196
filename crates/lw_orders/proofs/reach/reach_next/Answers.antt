-- Proves `reach_next`, which fills the table after that of a level with reachability by one more pair, in one
-- of two widths. The list of tables is split after the level: the lemmas say how to read and write both parts
-- in the whole list (`reaches_in-written_level`, `set-split_at`).
use Rattle.lw_orders.proofs.Common.{[], arith, ◌+◌}
use Rattle.lw_orders.proofs.WalkSets.{reaches_in-written_level, get_or-front_level, set-split_at}
use Rattle.lw_orders.proofs.reach.reach_next.Goals as goal

pub returns-then-len-le-WIDTH-clause-others : goal.returns-then-len-le-WIDTH-clause-others
returns-then-len-le-WIDTH-clause-others c =
    let split = c.split_at_mut-known in
    set-split_at c.args.saved.now split.result.0.now split.result.1.now (c.args.level + 1) _ [] split.ensures.value
    split.ensures.front_len (omega (arith, split.ensures.back_len, c.requires.level))

pub returns-else-len-le-WIDTH-clause-others : goal.returns-else-len-le-WIDTH-clause-others
returns-else-len-le-WIDTH-clause-others c =
    let split = c.split_at_mut-known in
    set-split_at c.args.saved.now split.result.0.now split.result.1.now (c.args.level + 1) _ [] split.ensures.value
    split.ensures.front_len (omega (arith, split.ensures.back_len, c.requires.level))

pub returns-then-len-le-WIDTH-clause-more : goal.returns-then-len-le-WIDTH-clause-more
returns-then-len-le-WIDTH-clause-more c =
    let split = c.split_at_mut-known in
    reaches_in-written_level c.args.saved.now split.result.0.now split.result.1.now c.args.level split.ensures.value
    split.ensures.front_len c.args.from c.args.to _ (omega (arith, split.ensures.back_len, c.requires.level)) c.reach_more.ensures

pub returns-else-len-le-WIDTH-clause-more : goal.returns-else-len-le-WIDTH-clause-more
returns-else-len-le-WIDTH-clause-more c =
    let split = c.split_at_mut-known in
    reaches_in-written_level c.args.saved.now split.result.0.now split.result.1.now c.args.level split.ensures.value
    split.ensures.front_len c.args.from c.args.to _ (omega (arith, split.ensures.back_len, c.requires.level))
    c.reach_more-else-len-le-WIDTH.ensures

pub reach_more-requires-clause-transitive : goal.reach_more-requires-clause-transitive
reach_more-requires-clause-transitive c =
    let split = c.split_at_mut-known in
    rw
    (get_or-front_level c.args.saved.now split.result.0.now split.result.1.now c.args.level split.ensures.value
    split.ensures.front_len) c.requires.transitive

pub reach_more-requires-else-len-le-WIDTH-clause-transitive : goal.reach_more-requires-else-len-le-WIDTH-clause-transitive
reach_more-requires-else-len-le-WIDTH-clause-transitive c =
    let split = c.split_at_mut-known in
    rw
    (get_or-front_level c.args.saved.now split.result.0.now split.result.1.now c.args.level split.ensures.value
    split.ensures.front_len) c.requires.transitive
