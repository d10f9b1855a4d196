-- `write_first_lines` promises the first lines of a page. They are the text written by `write!`, followed by
-- the line of `write_end`; only the concatenation has to be regrouped (`first_lines-written`).
use Rattle.lw_bench.proofs.Common.{◌++◌, codes, decimal, string_bytes, written-two_parts, head_of, end_text}
use Rattle.lw_bench.proofs.Pages.{first_lines-written}
use Rattle.lw_bench.proofs.page.write_first_lines.Goals as goal

pub returns : goal.returns
returns g c =
    let replay = c.args.replay in
    written-two_parts c.write_end.result (string_bytes c.args.out.now) (string_bytes c.write_end.new.out)
    (codes "Test " ++ (c.as_str.result.now ++ (codes "\nSteps " ++ (decimal replay.done ++ codes "\nEnd "))))
    (end_text replay.done replay.end ++ codes "\n") c.in_ok-write.ensures.bytes
    (first_lines-written (head_of c.args.head.now) replay c.as_str.result.now c.as_str.ensures) c.write_end.ensures
