-- At each round the labels before the token at `next` have been read and are in the map, with this statement
-- as their target. Fewer tokens remain.
use Rattle.lw_statements.proofs.Common.{◌-◌, length, LabelsRead}
use Rattle.lw_statements.proofs.labels.read_labels.Given as goal

abbrev pub invariant-loop-token : goal.invariant-loop-token
invariant-loop-token g l = LabelsRead l.tokens l.to l.fn.labels l.next l.labels

abbrev pub decreases-loop-token : goal.decreases-loop-token
decreases-loop-token g l = length l.tokens - l.next
