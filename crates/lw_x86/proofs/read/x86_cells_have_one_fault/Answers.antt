-- Law: at most one fault of cells is true, and none of the cells of a test. Both are laws of all languages
-- (`CellFaultIsTrue-unique`, `no_CellFault-if_test`), applied to the grammar of x86.
use Rattle.lw_x86.proofs.Common.{CellFaultIsTrue-unique, no_CellFault-if_test, x86_grammar}
use Rattle.lw_x86.proofs.X86Laws.{x86_grammar_is_lawful}
use Rattle.lw_x86.proofs.read.x86_cells_have_one_fault.Goals as goal

pub returns-clause-one_fault : goal.returns-clause-one_fault
returns-clause-one_fault c = CellFaultIsTrue-unique x86_grammar x86_grammar_is_lawful

pub returns-clause-none : goal.returns-clause-none
returns-clause-none c = no_CellFault-if_test x86_grammar x86_grammar_is_lawful
