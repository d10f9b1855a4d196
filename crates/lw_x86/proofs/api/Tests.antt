-- The x86 test of a frame is well-formed. The workbench uses this.
use Rattle.lw_x86.proofs.Common.{◌≡◌, length, IsWellFormedHead, TestFrame, X86Test, IsWellFormedProgram}
use Rattle.lw_x86.proofs.Common.{IsUnreservedName-name_of, well_formed_test, x86_spelling, x86_grammar}
use Rattle.lw_x86.proofs.Common.{HasProgram}
use Rattle.lw_x86.proofs.X86Laws.{x86_grammar_is_lawful}

-- If the frame's head is well-formed, so is its test.
pub well_formed_program : (frame : TestFrame) (test : X86Test)
    → IsWellFormedHead frame.head
    → length frame.cells ≡ frame.head.threads
    → HasProgram frame test
    → IsWellFormedProgram test
well_formed_program = well_formed_test x86_grammar x86_grammar_is_lawful (IsUnreservedName-name_of x86_spelling)
