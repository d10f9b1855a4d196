-- Proves `events_of`, which returns the events of an order's items. Each round appends the event of the next
-- item; simple arithmetic and list equations prove it (`grind`).
use Rattle.lw_finals.proofs.Common.{arith, common_steps}
use Rattle.lw_finals.proofs.x86_runner.events_of.Goals as goal

pub offset_bounds-items-from : goal.offset_bounds-items-from
offset_bounds-items-from g c = omega (arith, c.from.ensures, c.type_inv.order c.loop-index.index-index)

pub returns : goal.returns
returns g c = grind (arith, common_steps)

pub loop-index-preserved : goal.loop-index-preserved
loop-index-preserved g c = grind (arith, common_steps)
