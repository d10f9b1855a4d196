-- `after_comment` promises the rest after the comment, or that it is not closed. `depth` counts the comments
-- inside: one case each for a `(*`, a `*)`, and any other byte (`CommentContinuesAt-after_open`, `CommentContinuesAt-after_close`,
-- `CommentContinuesAt-after_other`); at depth 0 a `*)` is the end (`Comment-at_close`).
use Rattle.lw_text.proofs.Comments.{CommentContinuesAt-after_open, CommentContinuesAt-after_other}
use Rattle.lw_text.proofs.Comments.{CommentContinuesAt-after_close, Comment-at_close}
use Rattle.lw_text.proofs.trivia.after_comment.Goals as goal

pub loop-next-preserved-in-Some-strip_two_bytes : goal.loop-next-preserved-in-Some-strip_two_bytes
loop-next-preserved-in-Some-strip_two_bytes c =
    CommentContinuesAt-after_open c.loop-next.invariant c.in-Some-strip_two_bytes.ensures

pub loop-next-preserved : goal.loop-next-preserved
loop-next-preserved c =
    CommentContinuesAt-after_other c.loop-next.invariant c.in-Some.ensures c.in_default-strip_two_bytes.ensures
    c.in_default-strip_two_bytes-2.ensures

pub returns-then-depth-eq0-clause-found : goal.returns-then-depth-eq0-clause-found
returns-then-depth-eq0-clause-found c =
    Comment-at_close c.loop-next.invariant c.in-Some-strip_two_bytes-2.ensures c.if-depth-eq0.true

pub loop-next-preserved-in-Some-strip_two_bytes-2 : goal.loop-next-preserved-in-Some-strip_two_bytes-2
loop-next-preserved-in-Some-strip_two_bytes-2 c =
    CommentContinuesAt-after_close c.loop-next.invariant c.in-Some-strip_two_bytes-2.ensures c.if-depth-eq0.false
