-- Proves the law that the reduced pairs have the same linear extensions as all preserved pairs, order the
-- same items, and leave as many orientations. Each clause is a lemma.
use Rattle.lw_paths.proofs.api.Reduced.{IsLinearExtension-reduced_iff, IsOrderedByPath-reduced_iff}
use Rattle.lw_paths.proofs.api.Reduced.{orientation_count-reduced}
use Rattle.lw_paths.proofs.laws.reduced_pairs_are_equivalent.Goals as goal

pub returns-clause-orders : goal.returns-clause-orders
returns-clause-orders g c program paths order = IsLinearExtension-reduced_iff g.S.Statement.language program paths order

pub returns-clause-ordered : goal.returns-clause-ordered
returns-clause-ordered g c program paths p = IsOrderedByPath-reduced_iff g.S.Statement.language program paths p

pub returns-clause-orientations : goal.returns-clause-orientations
returns-clause-orientations g c program paths = orientation_count-reduced g.S.Statement.language program paths
