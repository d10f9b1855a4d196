-- `peek` promises the next token, if there is one. An index in range has the first of the remaining tokens
-- (`token_next`); otherwise none remains (`no_tokens-if_past_last`).
use Rattle.lw_text.proofs.Common.{ap, token_texts}
use Rattle.lw_text.proofs.Texts.{token_next, no_tokens-if_past_last}
use Rattle.lw_text.proofs.cursor.Cursor.peek.Goals as goal

pub returns-in-Some : goal.returns-in-Some
returns-in-Some c =
    let next = token_next _ _ c.in-Some.token.now c.in-Some.ensures.lookup.3.0 c.in-Some.ensures.lookup.1 in
    (c.in-Some.ensures.lookup.3.0, next, ap token_texts next)

pub returns-in-None : goal.returns-in-None
returns-in-None c = no_tokens-if_past_last c.args.self.now.tokens.now c.args.self.now.next c.in-None.ensures.lookup.3
