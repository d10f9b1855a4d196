-- Proves `write_title`, which appends the first lines of a report. The formatted text is the title and the
-- number of states (`title_line-as_written`).
use Rattle.lw_report.proofs.Common.{head_of, written-equal_text}
use Rattle.lw_report.proofs.Lines.{title_line-as_written}
use Rattle.lw_report.proofs.report.write_title.Goals as goal

pub returns : goal.returns
returns g c =
    written-equal_text c.writeln.result _ _ _ _
    (title_line-as_written (head_of c.args.head.now) c.as_str.result.now c.kind_text.result.now c.args.states c.as_str.ensures
    c.kind_text.ensures) c.writeln.ensures.bytes
