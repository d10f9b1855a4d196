-- Proves `check_items`: if it returns `Ok`, no path assignment has too many items. None has more than the
-- maximum, which was compared with the limit.
use Rattle.lw_paths.proofs.Common.{arith}
use Rattle.lw_paths.proofs.size.check_items.Goals as goal

pub max_items-requires : goal.max_items-requires
max_items-requires g c = c.requires

pub returns-clause-bounded : goal.returns-clause-bounded
returns-clause-bounded g c (paths, is, more) = omega (arith, c.max_items.ensures.most.none_more paths is, more)
