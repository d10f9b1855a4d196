-- Proves `reduced_constraints`, which returns the items with the reduced pairs. These are well-formed, as
-- `Items::new` requires (`IsWellFormed-with_reduced_pairs`).
use Rattle.lw_paths.proofs.api.ReducedPairs.{IsWellFormed-with_reduced_pairs}
use Rattle.lw_paths.proofs.count.reduced_constraints.Goals as goal

pub new-requires : goal.new-requires
new-requires g c =
    IsWellFormed-with_reduced_pairs g.S.Statement.language c.args.program.now c.args.items.now c.in_ok-preserved.preserved.items
    c.args.conflicts.items c.requires.bounded c.in_ok-preserved.ensures c.requires.conflicts
