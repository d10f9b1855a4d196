-- `operand` promises the register or number that the token is, or that it is neither. Only `None` is answered
-- by hand: both tests have failed (`no_operand-if_no_register_or_number`).
use Rattle.lw_statements.proofs.SlotTokens.{no_operand-if_no_register_or_number}
use Rattle.lw_statements.proofs.statement_parser.operand.Goals as goal

pub returns-in-None : goal.returns-in-None
returns-in-None c = no_operand-if_no_register_or_number _ _ c.in-None.ensures c.in_default.ensures
