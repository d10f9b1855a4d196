-- Proves `write_observation`, which appends the observation's line and that of the claim. The formatted text
-- is these two lines (`observation_line-as_written`).
use Rattle.lw_report.proofs.Common.{◌∙◌, ap, written-equal_text, observation_text}
use Rattle.lw_report.proofs.Lines.{observation_line-as_written}
use Rattle.lw_report.proofs.report.write_observation.Goals as goal

pub returns : goal.returns
returns g c =
    written-equal_text c.write.result _ _ _ _
    (observation_line-as_written _ _ c.as_str.ensures (c.word.ensures ∙ ap observation_text c.observation_of.ensures)
    c.line.ensures) c.write.ensures.bytes
