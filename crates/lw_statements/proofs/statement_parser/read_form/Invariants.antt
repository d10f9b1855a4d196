-- At each round the tokens fill no form before the index.
use Rattle.lw_statements.proofs.Common.{All, take, token_texts}
use Rattle.lw_statements.proofs.SlotTokens.{IsOther}
use Rattle.lw_statements.proofs.statement_parser.read_form.Given as goal

abbrev pub invariant-loop-form : goal.invariant-loop-form
invariant-loop-form g l =
    All (IsOther g.L.StatementReader.spelling (token_texts l.tokens)) (take l.form-index g.L.StatementReader.spelling.forms)
