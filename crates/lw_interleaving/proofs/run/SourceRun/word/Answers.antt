-- Proves `SourceRun::word`, which returns a location's word. The location exists, and what is read in the
-- list of words is the contract's.
use Rattle.lw_interleaving.proofs.Common.{ap, ◌∙◌, SourceRunState}
use Rattle.lw_interleaving.proofs.api.Runs.{slice_get-equal_list}
use Rattle.lw_interleaving.proofs.run.SourceRun.word.Goals as goal

pub returns : goal.returns
returns g c =
    slice_get-equal_list c.args.self.now.state.words _ c.args.loc _ _
    (c.as_slice.ensures ∙ ap (λ (r : SourceRunState). r.state.words) c.self.view_is) c.index.ensures.value c.requires
