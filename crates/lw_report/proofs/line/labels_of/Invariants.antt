-- At each round `texts` are the labels of the first names, and `before` is the prefix of the next one: empty
-- at first, a space afterwards.
use Rattle.lw_report.proofs.Common.{◌≡◌, take, head_of, gap, labels}
use Rattle.lw_report.proofs.line.labels_of.Given as goal

abbrev pub invariant-loop-name : goal.invariant-loop-name
invariant-loop-name g l =
    record { made : l.texts ≡ labels (head_of l.head) (take l.name-index l.names); first : l.before ≡ gap l.name-index }
