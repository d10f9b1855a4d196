-- Law: a frame says at most one x86 test. It is the law of all languages (`test-unique`), applied to the grammar
-- of x86, which satisfies the rule of cells (`x86_grammar_is_lawful`).
use Rattle.lw_x86.proofs.Common.{test-unique, x86_grammar}
use Rattle.lw_x86.proofs.X86Laws.{x86_grammar_is_lawful}
use Rattle.lw_x86.proofs.read.a_frame_has_one_program.Goals as goal

pub returns : goal.returns
returns c = test-unique x86_grammar x86_grammar_is_lawful
