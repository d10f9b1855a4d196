-- Proves `fill_few_items`, which fills a list with the items, and fails if there are more than a list takes.
-- This is the fault: the filled list is that of all items, and so is its length.
use Rattle.lw_paths.proofs.Common.{[], ap, append-nil, arith, length, ◌∙◌}
use Rattle.lw_paths.proofs.Pushed.{append-is_take}
use Rattle.lw_paths.proofs.count.fill_few_items.Goals as goal

pub returns-then-len-gt-MAX_ITEMS-clause-err : goal.returns-then-len-gt-MAX_ITEMS-clause-err
returns-then-len-gt-MAX_ITEMS-clause-err g c = omega (arith, ap length c.in_ok-fill_items.ensures.ok)

pub returns-then-len-gt-MAX_ITEMS-clause-left : goal.returns-then-len-gt-MAX_ITEMS-clause-left
returns-then-len-gt-MAX_ITEMS-clause-left g c = append-is_take _ [] (append-nil _ ∙ c.in_ok-fill_items.ensures.ok)
