-- The source test of a frame is well-formed. The workbench uses this.
use Rattle.std.proofs.Common.{◌≡◌, length}
use Rattle.lw_base.specs.WellFormed.{IsWellFormedHead}
use Rattle.lw_text.specs.Frames.{TestFrame}
use Rattle.lw_litmus.specs.Tests.{SourceTest}
use Rattle.lw_litmus.specs.WellFormedTests.{IsWellFormedSource}
use Rattle.lw_statements.proofs.api.Forms.{IsUnreservedName-name_of}
use Rattle.lw_statements.proofs.api.Tests.{well_formed_test}
use Rattle.lw_source.specs.Spelling.{source_spelling}
use Rattle.lw_source.specs.Grammar.{source_grammar, HasSource}
use Rattle.lw_source.proofs.SourceLaws.{source_grammar_is_lawful}

-- If the frame's head is well-formed, so is its test.
pub well_formed_source : (frame : TestFrame) (test : SourceTest)
    → IsWellFormedHead frame.head
    → length frame.cells ≡ frame.head.threads
    → HasSource frame test
    → IsWellFormedSource test
well_formed_source = well_formed_test source_grammar source_grammar_is_lawful (IsUnreservedName-name_of source_spelling)
