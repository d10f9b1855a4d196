-- Law: outcomes by interleaving are those of sequentially consistent executions. A run is made an execution
-- by induction from its end (`IsScOutcome-InterleavingOutcome`); an execution is walked by its ranks
-- (`InterleavingOutcome-IsScOutcome`). For a source test, lw_interleaving's states, which have no zero flag, are first
-- exchanged for those of this crate (`SourceOutcome-iff_InterleavingOutcome`).
use Rattle.lw_axiomatic.proofs.FromInterleaving.{IsScOutcome-InterleavingOutcome}
use Rattle.lw_axiomatic.proofs.SourceOutcomes.{SourceOutcome-iff_InterleavingOutcome}
use Rattle.lw_axiomatic.proofs.ToInterleaving.{InterleavingOutcome-IsScOutcome}
use Rattle.lw_axiomatic.proofs.laws.interleaving_outcomes_are_sequential.Goals as goal

-- In each language one lemma goes from the run to the execution, and one back.
pub returns : goal.returns
returns c = record {
  source = λ test o well_scoped. (
    λ run. IsScOutcome-InterleavingOutcome well_scoped o ((SourceOutcome-iff_InterleavingOutcome test o well_scoped).0 run),
    λ s.
        (SourceOutcome-iff_InterleavingOutcome test o well_scoped).1 (InterleavingOutcome-IsScOutcome well_scoped s.candidate
        s.sequential),
  );
  x86 = λ test o well_scoped.
      (IsScOutcome-InterleavingOutcome well_scoped o, λ s. InterleavingOutcome-IsScOutcome well_scoped s.candidate s.sequential);
}
