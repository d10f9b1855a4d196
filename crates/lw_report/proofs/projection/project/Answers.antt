-- Proves `project`, which returns an outcome's words of the observed names. It composes `observed` and
-- `words_of`; the names are in range of the outcome, since this has the test's threads and locations.
use Rattle.lw_report.proofs.Common.{◌∙◌}
use Rattle.lw_report.proofs.projection.project.Goals as goal

pub words_of-words-requires-clause-names : goal.words_of-words-requires-clause-names
words_of-words-requires-clause-names g c =
    rw (c.requires.outcome.regs_of, c.requires.outcome.words_of, c.as_slice.ensures) c.in_ok-names.ensures.in_range

pub returns : goal.returns
returns g c = rw (c.as_slice.ensures ∙ c.in_ok-names.ensures.names) at c.words_of-words.ensures
