-- Law: a text is a text of at most one x86 test. A text has one frame (`HasFrame-unique`), and a frame says
-- one test (`test-unique`).
use Rattle.lw_x86.proofs.Common.{subst, HasFrame-unique, TestFrame, test-unique, HasProgram, x86_grammar}
use Rattle.lw_x86.proofs.X86Laws.{x86_grammar_is_lawful}
use Rattle.lw_x86.proofs.read.a_text_has_one_program.Goals as goal

pub returns : goal.returns
returns c = λ text p q t u.
    test-unique x86_grammar x86_grammar_is_lawful u.frame p q
    (subst (λ (f : TestFrame). HasProgram f p) (HasFrame-unique text t.frame u.frame t.has_frame u.has_frame) t.says) u.says
