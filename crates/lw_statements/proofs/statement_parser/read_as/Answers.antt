-- `read_as` promises the bindings if the tokens fill the slots, or that they do not. The one goal by hand is
-- the early exit: other numbers of tokens and slots do not fit (`not-Fills-other_count`).
use Rattle.lw_statements.proofs.SlotTokens.{not-Fills-other_count}
use Rattle.lw_statements.proofs.statement_parser.read_as.Goals as goal

pub returns-then-slots-tokens : goal.returns-then-slots-tokens
returns-then-slots-tokens g c = not-Fills-other_count g.L.StatementReader.spelling _ _ c.if-slots-tokens.true
