-- `after_trivia` promises the rest after blanks and comments, or that a comment is not closed. Each round
-- skips a comment and the blanks after it (`TriviaContinuesAt-after_comment`, `TriviaContinuesAt-after_blanks`). A comment that is not
-- closed leaves no rest at all (`not-Trivia-if_comment_is_open`).
use Rattle.lw_text.proofs.Common.{arith, ap, length, length-append}
use Rattle.lw_text.proofs.Comments.{Comment-shorter}
use Rattle.lw_text.proofs.TriviaLemmas.{TriviaContinuesAt-start, TriviaContinuesAt-after_blanks}
use Rattle.lw_text.proofs.TriviaLemmas.{TriviaContinuesAt-after_comment, not-Trivia-if_comment_is_open}
use Rattle.lw_text.proofs.TriviaLemmas.{Trivia-TriviaContinuesAt}
use Rattle.lw_text.proofs.Numbers.{IfNone-of_fact}
use Rattle.lw_text.proofs.trivia.after_trivia.Goals as goal

pub loop-inner-init : goal.loop-inner-init
loop-inner-init c =
    let b = c.prefix_of_kind.ensures in
    record {
      skipped =
          TriviaContinuesAt-after_blanks _ _ c.args.bytes.now _ (TriviaContinuesAt-start c.args.bytes.now) b.parts b.bytes_pass;
      no_blank = b.longest;
    }

pub returns-in_err-after_comment-clause-none : goal.returns-in_err-after_comment-clause-none
returns-in_err-after_comment-clause-none c =
    IfNone-of_fact _ _
    (not-Trivia-if_comment_is_open c.loop-inner.invariant.skipped c.in-Some.ensures c.in_err-after_comment.ensures.none)

pub loop-inner-smaller : goal.loop-inner-smaller
loop-inner-smaller c = omega (
  arith,
  Comment-shorter c.in_ok-after_comment.ensures.found,
  ap length c.in-Some.ensures,
  ap length c.prefix_of_kind-in-Some.ensures.parts,
  length-append c.prefix_of_kind-in-Some.result.0.now c.prefix_of_kind-in-Some.result.1.now,
)

pub loop-inner-preserved : goal.loop-inner-preserved
loop-inner-preserved c =
    let b = c.prefix_of_kind-in-Some.ensures in
    let s =
    TriviaContinuesAt-after_comment c.loop-inner.invariant.skipped c.in-Some.ensures c.in_ok-after_comment.ensures.found in
    record {
      skipped = TriviaContinuesAt-after_blanks c.prefix_of_kind-in-Some.result.0.now c.args.bytes.now _ _ s b.parts b.bytes_pass;
      no_blank = b.longest;
    }

pub returns-clause-found : goal.returns-clause-found
returns-clause-found c = Trivia-TriviaContinuesAt c.loop-inner.invariant.skipped
