-- At each round the accesses so far, followed by those of the items from `index` on, are all.
use Rattle.lw_paths.proofs.Common.{◌≡◌, ◌++◌, drop, accesses_from}
use Rattle.lw_paths.proofs.conflicts.accesses_of.Given as goal

abbrev pub invariant-loop-index : goal.invariant-loop-index
invariant-loop-index g l =
    l.accesses.items ++ accesses_from g.S.Statement.language l.program l.index (drop l.index l.items)
    ≡ accesses_from g.S.Statement.language l.program 0 l.items
