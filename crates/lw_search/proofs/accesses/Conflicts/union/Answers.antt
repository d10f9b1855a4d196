-- Proves `Conflicts::union`: an access that both sets together lack, each of them lacks (`Lacks-union`).
use Rattle.lw_search.proofs.AccessSets.{Lacks-union}
use Rattle.lw_search.proofs.accesses.Conflicts.union.Goals as goal

pub returns : goal.returns
returns c x w = rw (← c.self.view_is, ← c.other.view_is) (Lacks-union c.self.inside.bits c.other.inside.bits x w)
