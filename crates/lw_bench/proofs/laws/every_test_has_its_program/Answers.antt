-- Law: every test of a text has an x86 program with exactly the test's outcomes on the machine and over
-- caches. The interesting case is a source test: its program is the compiled one. A test of a text is
-- well-formed, as the three lemmas require.
use Rattle.lw_bench.proofs.Theorems.{well_formed, has_program, IsProgramOf-program_run}
use Rattle.lw_bench.proofs.Theorems.{HasOverCaches-program_run}
use Rattle.lw_bench.proofs.laws.every_test_has_its_program.Goals as goal

pub returns : goal.returns
returns c = record {
  machine = λ text test says. has_program test (well_formed text test says);
  caches = λ text test program says runs.
      HasOverCaches-program_run c.outcomes_over_caches_are_flat.ensures test program (well_formed text test says) runs;
  each = λ text test program says runs. IsProgramOf-program_run test _ (well_formed text test says) runs;
}
