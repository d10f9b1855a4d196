-- At each round the tokens up to the lexer's rest have been read, with their offsets (`AreFirstTokens`), which are
-- within the text. The rest becomes shorter.
use Rattle.lw_text.proofs.Common.{◌≡◌, ◌≤◌, length, AllByRecursion, with_spans}
use Rattle.lw_text.proofs.TokenRows.{AreFirstTokens}
use Rattle.lw_text.proofs.token_stream.TokenStream.read.Given as goal

abbrev pub invariant-tokens : goal.invariant-tokens
invariant-tokens g l = record {
  same : l.lexer.text.now ≡ l.fn.lexer.text.now;
  row : AreFirstTokens (length l.fn.lexer.text.now) l.fn.lexer.rest.now (with_spans l.tokens) l.lexer.rest.now;
  within : AllByRecursion (λ t. t.at ≤ length l.fn.lexer.text.now) l.tokens;
}

abbrev pub decreases-tokens : goal.decreases-tokens
decreases-tokens g l = length l.lexer.rest.now
