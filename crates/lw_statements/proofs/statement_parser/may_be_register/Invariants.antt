-- At each round no form before the index has a register after the tokens.
use Rattle.lw_statements.proofs.Common.{All, take, token_texts, IsRegisterSlot}
use Rattle.lw_statements.proofs.Fronts.{HasNone}
use Rattle.lw_statements.proofs.statement_parser.may_be_register.Given as goal

abbrev pub invariant-loop-form : goal.invariant-loop-form
invariant-loop-form g l =
    All (HasNone g.L.StatementReader.spelling IsRegisterSlot (token_texts l.tokens))
    (take l.form-index g.L.StatementReader.spelling.forms)
