-- Proves `write_judgement`, which appends what follows the states in a report. `judgement_lines-as_written` says that
-- the lines of verdict, numbers and condition, and then the observation, make that text.
use Rattle.lw_report.proofs.Common.{◌++◌, ◌∙◌, ap, codes, decimal, head_of, written-two_parts, verdict_text}
use Rattle.lw_report.proofs.Lines.{judgement_lines-as_written}
use Rattle.lw_report.proofs.report.write_judgement.Goals as goal

pub write_condition-requires : goal.write_condition-requires
write_condition-requires g c = c.requires

-- The lines that were written in sequence are those of the judgement.
pub returns : goal.returns
returns g c =
    let head = head_of c.args.head.now in
    let p = c.args.counts.positive in
    let q = c.args.counts.negative in
    let first =
    c.word.result.now
    ++ (codes "\nPositive: "
    ++ (decimal p ++ (codes " Negative: " ++ (decimal q ++ (codes "\nCondition " ++ (c.as_str.result.now ++ codes "\n")))))) in
    written-two_parts c.write_observation.result _ _ first _ c.in_ok-writeln.ensures.bytes
    (judgement_lines-as_written head c.args.claim p q c.word.result.now c.as_str.result.now
    (c.word.ensures ∙ ap verdict_text c.verdict_of.ensures) (c.as_str.ensures ∙ c.in_ok-condition.ensures))
    c.write_observation.ensures
