-- Law: in two threads that load only what no other thread writes, the fences are spare. That a longer code is
-- the shorter one with fences inserted comes from the law `fences_can_be_removed`; no other thread writes
-- what the loads read, so nothing more is asked.
use Rattle.lw_axiomatic.proofs.WorkedSpare.{HasInsertedFences-own_loads, AreSpare-own_loads}
use Rattle.lw_axiomatic.proofs.examples.the_fence_of_own_loads_is_spare.Goals as goal

pub returns : goal.returns
returns c = let left_out = c.fences_can_be_removed.ensures in (HasInsertedFences-own_loads left_out, AreSpare-own_loads left_out)
