-- Proves `write_report`, which renders the report of the states. `report_text-of_parts` puts its three parts
-- together, title, states and judgement, which are written in sequence into an empty text.
use Rattle.lw_report.proofs.Common.{◌∙◌, head_of, string_bytes}
use Rattle.lw_report.proofs.Lines.{report_text-of_parts}
use Rattle.lw_report.proofs.report.write_report.Goals as goal

-- Title, states and judgement, written in sequence into an empty text, are the report.
pub returns : goal.returns
returns g c = c.from.ensures ∙ report_text-of_parts (head_of c.args.head.now) _ _ _ (record {
  first = string_bytes c.new-out.result;
  title = string_bytes c.write_title.new.out;
  lines = string_bytes c.write_states.new.out;
  count = c.len.result;
  p = c.counts_of.result.positive;
  q = c.counts_of.result.negative;
  starts_empty = c.new-out.ensures.bytes;
  title_is = c.in_ok-write_title.ensures;
  lines_are = rw c.as_slice.ensures at c.in_ok-write_states.ensures;
  end_is = c.in_ok-write_judgement.ensures;
  is_count = c.len.ensures;
  is_positive = rw c.as_slice-2.ensures at c.counts_of.ensures.positive;
  is_negative = rw c.as_slice-2.ensures at c.counts_of.ensures.negative;
})
