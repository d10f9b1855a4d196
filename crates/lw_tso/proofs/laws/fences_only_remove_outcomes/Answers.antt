-- Proves the law that each outcome of a test with MFENCEs inserted is an outcome of the test. This is the
-- lemma `IsMachineOutcome-without_fences`: the run without the fences' steps is a run of the test.
use Rattle.lw_tso.proofs.api.Fencing.{IsMachineOutcome-without_fences}
use Rattle.lw_tso.proofs.laws.fences_only_remove_outcomes.Goals as goal

pub returns : goal.returns
returns c = λ test fenced o inserted. IsMachineOutcome-without_fences test fenced inserted o
