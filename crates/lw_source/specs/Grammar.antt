-- The grammar of the source language, and the test of a frame's cells.
use Rattle.lw_litmus.specs.declared.stmt.Stmt.{Stmt}
use Rattle.lw_litmus.specs.Tests.{SourceTest}
use Rattle.lw_text.specs.Frames.{TestFrame}
use Rattle.lw_statements.specs.Grammars.{Grammar}
use Rattle.lw_statements.specs.Spellings.{ParsesStatement, grammar_of}
use Rattle.lw_statements.specs.Cells.{FrameHasTest}
use Rattle.lw_source.specs.Spelling.{source_spelling}

-- The grammar of the source language.
abbrev pub source_grammar : Grammar (ParsesStatement source_spelling) Stmt
source_grammar = grammar_of source_spelling

-- The cells of the frame are the statements of the test, on at most eight locations.
abbrev pub HasSource : TestFrame → SourceTest → Type 0
HasSource = FrameHasTest source_grammar
