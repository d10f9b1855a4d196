-- Proves the law that a test is well-scoped, or well-formed, if it is so with MFENCEs inserted. These are the
-- lemmas `IsWellScopedProgram-without_fences` and `IsWellFormedProgram-without_fences`.
use Rattle.lw_tso.proofs.api.FewerFences.{IsWellFormedProgram-without_fences}
use Rattle.lw_tso.proofs.api.FewerFences.{IsWellScopedProgram-without_fences}
use Rattle.lw_tso.proofs.laws.tests_without_fences_are_well_formed.Goals as goal

pub returns : goal.returns
returns c = record { well_scoped = IsWellScopedProgram-without_fences; well_formed = IsWellFormedProgram-without_fences }
