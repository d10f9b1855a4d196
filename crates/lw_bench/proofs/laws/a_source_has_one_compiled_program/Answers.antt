-- Law: a well-scoped source test has a compiled program, and no two. Both are lemmas of the compiler,
-- `IsCompiled-exists` and `IsCompiled-unique`, since compiling is a function of the test.
use Rattle.lw_bench.proofs.Common.{IsCompiled-exists, IsCompiled-unique}
use Rattle.lw_bench.proofs.laws.a_source_has_one_compiled_program.Goals as goal

pub returns : goal.returns
returns c = record { some = IsCompiled-exists; unique = IsCompiled-unique }
