-- What laws ask of a test of each language.
use Rattle.lw_litmus.specs.Programs.{x86_language}
use Rattle.lw_litmus.specs.Sources.{source_language}
use Rattle.lw_litmus.specs.Tests.{SourceTest, X86Test}
use Rattle.lw_litmus.specs.WellScoped.{IsWellScoped}

-- A well-scoped test of the source language, of any number of threads, locations and statements.
abbrev pub IsWellScopedSource : SourceTest → Type 0
IsWellScopedSource = IsWellScoped source_language

-- A well-scoped test of x86, of any number of threads, locations and instructions.
abbrev pub IsWellScopedProgram : X86Test → Type 0
IsWellScopedProgram = IsWellScoped x86_language
