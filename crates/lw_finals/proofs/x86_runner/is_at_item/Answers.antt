-- Proves `is_at_item`, which says whether an item's thread is at the item's instruction; true of each drain.
-- The search proves it with `IsAtPosition-iff_item`, once the processor's position is read.
use Rattle.lw_finals.proofs.X86Runners.{IsAtPosition-iff_item}
use Rattle.lw_finals.proofs.x86_runner.is_at_item.Goals as goal

pub returns : goal.returns
returns g c = search IsAtPosition-iff_item
