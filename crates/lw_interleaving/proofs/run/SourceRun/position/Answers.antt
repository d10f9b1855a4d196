-- Proves `SourceRun::position`, which returns a thread's position. The thread exists, and what is read in the
-- list of threads is the contract's (`slice_get-map_equal_list`).
use Rattle.lw_interleaving.proofs.Common.{ap, ◌∙◌, Thread, SourceRunState}
use Rattle.lw_interleaving.proofs.api.Runs.{slice_get-map_equal_list}
use Rattle.lw_interleaving.proofs.run.SourceRun.position.Goals as goal

pub returns : goal.returns
returns g c =
    slice_get-map_equal_list (λ (t : Thread). t.position) _ _ c.args.cpu _ _
    (c.as_slice.ensures ∙ ap (λ (r : SourceRunState). r.state.threads) c.self.view_is) c.index.ensures.value c.requires
