-- At each round the comment is closed where `rest` closes one comment more than `depth` (`CommentContinuesAt`). The
-- rest becomes shorter.
use Rattle.lw_text.proofs.Common.{length}
use Rattle.lw_text.proofs.Comments.{CommentContinuesAt}
use Rattle.lw_text.proofs.trivia.after_comment.Given as goal

abbrev pub invariant-loop-next : goal.invariant-loop-next
invariant-loop-next l = CommentContinuesAt l.bytes l.depth l.rest

abbrev pub decreases-loop-next : goal.decreases-loop-next
decreases-loop-next l = length l.rest
