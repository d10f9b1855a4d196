-- `parse_terminal` promises the next terminal of the wanted kind, or that there is none. Each arm passes on
-- what its callee ensures.
use Rattle.lw_text.proofs.Common.{MatchResult-weaker}
use Rattle.lw_text.proofs.cursor.Cursor.parse_terminal.Goals as goal

pub returns-then-part : goal.returns-then-part
returns-then-part g c = rw c.if-part.true c.parse_opening.ensures

pub returns-else-part : goal.returns-else-part
returns-else-part g c =
    rw c.if-part.false
    (MatchResult-weaker c.parse_joint.result c.parse_joint.ensures
    (λ s read. (read.0 c.args.arch c.args.threads c.args.locs.now, read.1)) (λ f lost ne. (
      λ s rest is begins few. lost.0 c.args.arch c.args.threads s rest is begins,
      lost.1 c.args.arch c.args.threads c.args.locs.now,
    )))
