-- Proves `write_marks`, which renders the marked list of states. The text is empty before the lines are
-- written, and `marked_lines-of_projections` says that the lines are the list's text.
use Rattle.lw_report.proofs.Common.{◌∙◌, ap, ◌++◌, head_of, string_bytes}
use Rattle.lw_report.proofs.Lines.{marked_lines-of_projections}
use Rattle.lw_report.proofs.marks.write_marks.Goals as goal

pub returns : goal.returns
returns g c =
    c.from.ensures
    ∙ c.in_ok-write_marked_states.ensures
    ∙ rw (c.new-out.ensures.bytes, c.as_slice.ensures) (marked_lines-of_projections (head_of c.args.head.now) _)
