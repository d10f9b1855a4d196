-- At each round `longest` is at most the number of tokens, no form before the index accepts more, and some
-- form accepts so many, or it is 0.
use Rattle.lw_statements.proofs.Common.{◌≤◌, All, length, take, token_texts}
use Rattle.lw_statements.proofs.Fronts.{IsReached}
use Rattle.lw_statements.proofs.SlotTokens.{ReachesTo}
use Rattle.lw_statements.proofs.statement_parser.longest_accepted_prefix.Given as goal

abbrev pub invariant-loop-form : goal.invariant-loop-form
invariant-loop-form g l =
    (l.longest ≤ length l.tokens)
    × All (ReachesTo g.L.StatementReader.spelling (token_texts l.tokens) l.longest)
    (take l.form-index g.L.StatementReader.spelling.forms)
    × IsReached g.L.StatementReader.spelling (token_texts l.tokens) l.longest
