-- Proves `observed_labels`, which returns the labels of the test's observed names. It composes `observed` and
-- `labels_of`; the names are in range, as the latter requires.
use Rattle.lw_report.proofs.Common.{◌∙◌}
use Rattle.lw_report.proofs.line.observed_labels.Goals as goal

pub labels_of-labels-requires : goal.labels_of-labels-requires
labels_of-labels-requires g c = rw c.as_slice.ensures c.in_ok-names.ensures.in_range

pub returns : goal.returns
returns g c = rw (c.as_slice.ensures ∙ c.in_ok-names.ensures.names) at c.labels_of-labels.ensures
