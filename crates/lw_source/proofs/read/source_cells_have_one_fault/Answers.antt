-- Law: at most one fault of cells is true, and none of the cells of a source test. Both are laws of all
-- languages (`CellFaultIsTrue-unique`, `no_CellFault-if_test`), applied to the source grammar.
use Rattle.lw_statements.proofs.api.Faults.{CellFaultIsTrue-unique, no_CellFault-if_test}
use Rattle.lw_source.specs.Grammar.{source_grammar}
use Rattle.lw_source.proofs.SourceLaws.{source_grammar_is_lawful}
use Rattle.lw_source.proofs.read.source_cells_have_one_fault.Goals as goal

pub returns-clause-one_fault : goal.returns-clause-one_fault
returns-clause-one_fault c = CellFaultIsTrue-unique source_grammar source_grammar_is_lawful

pub returns-clause-none : goal.returns-clause-none
returns-clause-none c = no_CellFault-if_test source_grammar source_grammar_is_lawful
