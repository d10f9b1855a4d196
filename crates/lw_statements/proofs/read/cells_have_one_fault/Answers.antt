-- Law: of a language whose spelling is lawful, at most one fault of cells is true, and none of the cells of a
-- test. Both hold for every grammar that satisfies the rule of cells (`CellFaultIsTrue-unique`, `no_CellFault-if_test`), which
-- that of a lawful spelling does (`IsGrammar-of_spelling`).
use Rattle.lw_statements.proofs.Common.{grammar_of}
use Rattle.lw_statements.proofs.api.Faults.{CellFaultIsTrue-unique, no_CellFault-if_test}
use Rattle.lw_statements.proofs.api.Forms.{IsGrammar-of_spelling}
use Rattle.lw_statements.proofs.read.cells_have_one_fault.Goals as goal

pub returns-clause-one_fault : goal.returns-clause-one_fault
returns-clause-one_fault g c =
    let spelling = g.L.StatementReader.spelling in
    CellFaultIsTrue-unique (grammar_of spelling)
    (IsGrammar-of_spelling spelling g.L.StatementReader.statement_of c.requires.lawful)

pub returns-clause-none : goal.returns-clause-none
returns-clause-none g c =
    let spelling = g.L.StatementReader.spelling in
    no_CellFault-if_test (grammar_of spelling) (IsGrammar-of_spelling spelling g.L.StatementReader.statement_of c.requires.lawful)
