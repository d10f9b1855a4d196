-- At each round the starts so far, followed by those of the remaining statements from `next` on, are all; and
-- `next` is small.
use Rattle.lw_fence.proofs.Common.{◌≡◌, ◌≤◌, ◌*◌, drop, ◌++◌, starts_from}
use Rattle.lw_fence.proofs.starts.starts_of.Given as goal

abbrev pub invariant-loop-index : goal.invariant-loop-index
invariant-loop-index g l = record {
  so_far : starts_from 0 l.fences l.code ≡ l.starts ++ starts_from l.next (drop l.index l.fences) (drop l.index l.code);
  bounded : l.next ≤ 2 * l.index;
}
