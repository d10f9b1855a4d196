-- Well-formed tests of each language.
use Rattle.lw_litmus.specs.Programs.{x86_language}
use Rattle.lw_litmus.specs.Sources.{source_language}
use Rattle.lw_litmus.specs.Tests.{SourceTest, X86Test}
use Rattle.lw_litmus.specs.WellFormed.{IsWellFormed}

-- The source test is well-formed. Each thread has at most 16 statements.
abbrev pub IsWellFormedSource : SourceTest → Type 0
IsWellFormedSource = IsWellFormed source_language

-- The x86 test is well-formed. Each thread has at most 32 instructions.
abbrev pub IsWellFormedProgram : X86Test → Type 0
IsWellFormedProgram = IsWellFormed x86_language
