-- `is_token_at` promises to be true exactly if the token at the index is this sign. If the index is in range,
-- it is the comparison with that token (`sign_equal-iff_get`).
use Rattle.lw_statements.proofs.Common.{token_texts, at_index}
use Rattle.lw_statements.proofs.FrontLabels.{sign_equal-iff_get, get_text}
use Rattle.lw_statements.proofs.token.is_token_at.Goals as goal

pub returns : goal.returns
returns c =
    sign_equal-iff_get (token_texts c.args.tokens.now) c.args.index _ _ _
    (get_text c.args.tokens.now c.args.index _ (at_index c.args.tokens.now c.args.index _ c.if-tokens-index.false)) c.eq.ensures
