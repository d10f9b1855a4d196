-- At each round the items so far, followed by those of the remaining positions, are the old items and all of
-- the path.
use Rattle.lw_paths.proofs.Common.{◌≡◌, ◌++◌, drop, path_items}
use Rattle.lw_paths.proofs.items.push_path.Given as goal

abbrev pub invariant-loop-position : goal.invariant-loop-position
invariant-loop-position g l =
    l.items.items ++ path_items g.S.Statement.language l.thread l.code (drop l.position-index l.path)
    ≡ l.initial.items.items ++ path_items g.S.Statement.language l.thread l.code l.path
