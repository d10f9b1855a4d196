-- At each round the items so far, followed by those of the remaining threads' paths, are all.
use Rattle.lw_paths.proofs.Common.{◌≡◌, ◌++◌, ◌≤◌, length, map, drop, most_threads, items_from, items_of}
use Rattle.lw_paths.proofs.Common.{path_of, assignment_of}
use Rattle.lw_paths.proofs.items.fill_items.Given as goal

abbrev pub invariant-loop-thread : goal.invariant-loop-thread
invariant-loop-thread g l = record {
  bounded : length l.path-items ≤ most_threads;
  items :
      l.items.items
      ++ items_from g.S.Statement.language l.thread (drop l.thread l.program) (map path_of (drop l.thread l.path-items))
      ≡ items_of g.S.Statement.language l.program (assignment_of l.assignment);
}
