-- `finish` promises a frame with the head and the columns of the parsed body. The goal is the frame's
-- invariant: a well-formed head (`resolved_well_formed`), and as many columns as threads, all of one length
-- and within the text.
use Rattle.lw_text.proofs.Common.{◌≡◌, ◌∙◌, sym, ap, subst, arith, IsWellFormedHead, EndsBefore}
use Rattle.lw_text.proofs.WellFormedHeads.{resolved_well_formed}
use Rattle.lw_text.proofs.RowColumns.{length-columns, columns-height, columns-even, All-columns_of_rows}
use Rattle.lw_text.proofs.parts.ParsedBody.finish.Goals as goal

-- The head is well-formed, and the columns, one for each thread, are of one length and within the text.
pub invariant_of-result : goal.invariant_of-result
invariant_of-result g c =
    let body = c.args.self in
    let parts = body.parts in
    let threads : c.in-Ok-head.head.threads ≡ parts.threads = ap (λ h. h.threads) c.in-Ok-head.ensures in
    rw c.in-Ok.ensures (record {
      well_formed =
          subst IsWellFormedHead (sym c.in-Ok-head.ensures)
          (resolved_well_formed c.args.preamble.arch _ c.args.preamble.name.now body c.requires.name c.requires.says.1);
      columns = length-columns parts.threads body.rows body.even ∙ sym threads;
      even = columns-even parts.threads body.rows body.even body.some;
      low = (omega (arith, columns-height parts.threads body.rows body.even body.some, body.low));
      places = All-columns_of_rows (EndsBefore c.args.len) parts.threads body.rows c.requires.within;
    })

pub columns-requires : goal.columns-requires
columns-requires g c = c.args.self.even
