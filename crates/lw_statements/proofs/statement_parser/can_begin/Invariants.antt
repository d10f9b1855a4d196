-- At each round no form before the index begins with the token.
use Rattle.lw_statements.proofs.Common.{All, take}
use Rattle.lw_statements.proofs.SlotTokens.{BeginsOtherwise}
use Rattle.lw_statements.proofs.statement_parser.can_begin.Given as goal

abbrev pub invariant-loop-form : goal.invariant-loop-form
invariant-loop-form g l =
    All (BeginsOtherwise g.L.StatementReader.spelling l.token.text.now) (take l.form-index g.L.StatementReader.spelling.forms)
