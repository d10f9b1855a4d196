-- At each round no form before the index has a ninth location among the tokens that it accepts.
use Rattle.lw_statements.proofs.Common.{All, take}
use Rattle.lw_statements.proofs.Fronts.{HasRoom}
use Rattle.lw_statements.proofs.statement_parser.refusal.Given as goal

abbrev pub invariant-loop-form : goal.invariant-loop-form
invariant-loop-form g l =
    All (HasRoom g.L.StatementReader.spelling l.phrase.tokens.now l.locs) (take l.form-index g.L.StatementReader.spelling.forms)
