-- Proves the law that a well-formed test is well-scoped, in both languages. This is the lemma
-- `IsWellScoped-well_formed`.
use Rattle.lw_litmus.proofs.Common.{source_language, x86_language}
use Rattle.lw_litmus.proofs.api.WellScoped.{IsWellScoped-well_formed}
use Rattle.lw_litmus.proofs.laws.well_formed_tests_are_well_scoped.Goals as goal

pub returns : goal.returns
returns c = record {
  source = λ test ok. IsWellScoped-well_formed source_language ok;
  x86 = λ test ok. IsWellScoped-well_formed x86_language ok;
}
