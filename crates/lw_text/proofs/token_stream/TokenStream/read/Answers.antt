-- `read` promises all tokens of a text with their offsets, up to the first lexical fault. Each round reads
-- one token; the end of the text (`PlacedTokens-at_end`) or a fault (`no_tokens-if_rest_has_none`) ends the list.
use Rattle.lw_text.proofs.Common.{◌≤◌, ◌∙◌, ap, length, arith, map_push, All-from_recursion, Token, with_span}
use Rattle.lw_text.proofs.Common.{with_spans, IsPlacedToken}
use Rattle.lw_text.proofs.Lists.{ParsesMany-push}
use Rattle.lw_text.proofs.Readings.{AllByRecursion-snoc}
use Rattle.lw_text.proofs.TokenRows.{PlacedTokens-at_end, no_tokens-if_rest_has_none}
use Rattle.lw_text.proofs.TokenRows.{no_tokens-if_no_first_token, IsFirstToken-shorter}
use Rattle.lw_text.proofs.Failures.{FailsFrom-later}
use Rattle.lw_text.proofs.token_stream.TokenStream.read.Goals as goal

-- A token that follows is one more token read.
pub tokens-preserved : goal.tokens-preserved
tokens-preserved g c =
    let f = rw c.in-Ok-Some.field-0-is at c.in-Ok-Some.ensures.reads in
    let t = c.in-Ok-Some.token in
    let next = c.next.new.self.rest.now in
    let same = c.tokens.invariant.same in
    let len = length c.args.lexer.text.now in
    let before = c.tokens.tokens in
    record {
      same = c.in-Ok-Some.ensures.same ∙ same;
      row =
          rw (c.in_ok-push-in-Ok-Some.ensures.ok, map_push with_span before t)
          (ParsesMany-push (IsPlacedToken len) _ _ _ next (with_span t) c.tokens.invariant.row
          (f.0, omega (arith, f.1, ap length same)));
      within =
          rw c.in_ok-push-in-Ok-Some.ensures.ok
          (AllByRecursion-snoc (λ (t : Token). t.at ≤ len) before t c.tokens.invariant.within
          (omega (arith, f.1, ap length same)));
    }

pub returns-in-Ok-None : goal.returns-in-Ok-None
returns-in-Ok-None g c =
    let f = rw c.in-Ok-None.field-0-is at c.in-Ok-None.ensures.reads in
    let len = length c.args.lexer.text.now in (
      PlacedTokens-at_end len _ c.args.lexer.rest.now c.tokens.lexer.rest.now c.tokens.invariant.row f,
      All-from_recursion (λ (t : Token). t.at ≤ len) c.tokens.tokens c.tokens.invariant.within,
    )

-- If the next token fails, the text is no list of tokens, and the list stops there.
pub returns-in-Err : goal.returns-in-Err
returns-in-Err g c =
    let len = length c.args.lexer.text.now in (
      (
        no_tokens-if_rest_has_none len (with_spans c.tokens.tokens) c.args.lexer.rest.now c.tokens.lexer.rest.now
            c.tokens.invariant.row (no_tokens-if_no_first_token _ c.in-Err.ensures.reads.0 c.in-Err.ensures.reads.1),
        omega (arith, c.in-Err.ensures.reads.2, ap length c.tokens.invariant.same),
        record {
          end = c.tokens.lexer.rest.now;
          read = c.tokens.invariant.row;
          fails = FailsFrom-later (ap length c.tokens.invariant.same) (λ rest cause w. w) c.in-Err.ensures.reads.3;
        },
      ),
      All-from_recursion (λ (t : Token). t.at ≤ len) c.tokens.tokens c.tokens.invariant.within,
    )

pub tokens-smaller : goal.tokens-smaller
tokens-smaller g c = let f = rw c.in-Ok-Some.field-0-is at c.in-Ok-Some.ensures.reads in IsFirstToken-shorter _ _ _ f.0
