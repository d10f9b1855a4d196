-- At each round the table is right at the last `done` positions and at the end.
use Rattle.lw_paths.proofs.Common.{◌-◌, length}
use Rattle.lw_paths.proofs.Sizes.{AreKnownFrom}
use Rattle.lw_paths.proofs.size.max_items_of_thread.Given as goal

abbrev pub invariant-loop-done : goal.invariant-loop-done
invariant-loop-done g l = AreKnownFrom g.S.Statement.language l.stmts (length l.stmts - l.done) l.most
