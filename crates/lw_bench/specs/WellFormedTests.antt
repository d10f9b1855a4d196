-- Well-formed tests of either language.
use Rattle.lw_litmus.specs.WellFormedTests.{IsWellFormedSource, IsWellFormedProgram}
use Rattle.lw_bench.specs.LitmusTests.{LitmusTest, Of_source, Of_x86}

-- The test, of either language, is well-formed.
abbrev pub IsWellFormedTest : LitmusTest → Type 0
IsWellFormedTest (Of_source test) = IsWellFormedSource test
IsWellFormedTest (Of_x86 test) = IsWellFormedProgram test
