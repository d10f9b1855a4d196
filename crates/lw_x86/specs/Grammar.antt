-- The grammar of x86, and the test of a frame's cells.
use Rattle.lw_litmus.specs.declared.instr.Instr.{Instr}
use Rattle.lw_litmus.specs.Tests.{X86Test}
use Rattle.lw_text.specs.Frames.{TestFrame}
use Rattle.lw_statements.specs.Grammars.{Grammar}
use Rattle.lw_statements.specs.Spellings.{ParsesStatement, grammar_of}
use Rattle.lw_statements.specs.Cells.{FrameHasTest}
use Rattle.lw_x86.specs.Spelling.{x86_spelling}

-- The grammar of x86.
abbrev pub x86_grammar : Grammar (ParsesStatement x86_spelling) Instr
x86_grammar = grammar_of x86_spelling

-- The cells of the frame are the instructions of the test, on at most eight locations.
abbrev pub HasProgram : TestFrame → X86Test → Type 0
HasProgram = FrameHasTest x86_grammar
