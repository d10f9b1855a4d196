-- Proves `Outlooks::conflicts_with_others`: what the set lacks, the conflicts of each other thread lack, so the thread never conflicts with
-- it.
use Rattle.lw_search.proofs.Common.{arith}
use Rattle.lw_search.proofs.accesses.Outlooks.conflicts_with_others.Goals as goal

pub returns : goal.returns
returns c program s describe u p ne at x w lt lacks =
    let d = describe u p at in
    d.3 x w lt (c.loop-index.invariant u d.1 x w (omega (arith, d.0, c.loop-index-test.false)) ne d.2 lacks)
