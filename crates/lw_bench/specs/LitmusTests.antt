-- A test of either language.
use Rattle.lw_base.specs.Heads.{TestHead}
use Rattle.lw_litmus.specs.Tests.{SourceTest, X86Test}
use Rattle.lw_litmus.specs.Views.{source_of, program_of}
use Rattle.lw_bench.specs.declared.litmus_test.LitmusTest.{LitmusTest as TestInMemory}
use Rattle.lw_bench.specs.declared.litmus_test.LitmusTest.TheVariants as made

-- A source test or an x86 test.
pub data LitmusTest : Type 0 where
  Of_source : SourceTest → LitmusTest
  Of_x86 : X86Test → LitmusTest

-- The test of a `LitmusTest` in memory.
abbrev pub litmus_test_of : {A : Type 0} → TestInMemory A → LitmusTest
litmus_test_of (made.Source source) = Of_source (source_of source)
litmus_test_of (made.X86 program) = Of_x86 (program_of program)

-- The head of a test of either language.
abbrev pub head_of_test : LitmusTest → TestHead
head_of_test (Of_source test) = test.head
head_of_test (Of_x86 test) = test.head
