-- The tests of a `Source` and a `Program` in memory.
use Rattle.lw_litmus.specs.declared.source.Source.{Source}
use Rattle.lw_litmus.specs.declared.program.Program.{Program}
use Rattle.lw_litmus.specs.Tests.{SourceTest, X86Test, test_of}

-- The source test of a `Source` in memory.
abbrev pub source_of : {A : Type 0} → Source A → SourceTest
source_of s = test_of s.head s.threads

-- The x86 test of a `Program` in memory.
abbrev pub program_of : {A : Type 0} → Program A → X86Test
program_of p = test_of p.head p.threads
