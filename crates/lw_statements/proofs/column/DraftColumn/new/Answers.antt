-- `new` promises a column of no cells: no drafts, no labels, and count 0. Immediate from what the two empty
-- collections ensure.
use Rattle.lw_statements.proofs.Common.{refl}
use Rattle.lw_statements.proofs.column.DraftColumn.new.Goals as goal

pub returns : goal.returns
returns g c = record { cells = c.new.ensures; labels = λ n. rw c.new-2.ensures.empty refl; count = refl }
