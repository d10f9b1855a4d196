-- Proves the law that the computed unordered conflicts, and the number of their orientations, are those of
-- the definitions. These are the lemmas `AreUnorderedConflicts-computed` and
-- `HasOrientationCount-iff_computed`.
use Rattle.lw_orders.proofs.api.UnorderedPairs.{AreUnorderedConflicts-computed}
use Rattle.lw_orders.proofs.api.UnorderedPairs.{HasOrientationCount-iff_computed}
use Rattle.lw_orders.proofs.laws.orientations_are_counted.Goals as goal

pub returns-clause-pairs : goal.returns-clause-pairs
returns-clause-pairs c t are = AreUnorderedConflicts-computed t are.preserved_up are.sorted

pub returns-clause-number : goal.returns-clause-number
returns-clause-number c t are n = HasOrientationCount-iff_computed t are.preserved_up are.sorted n
